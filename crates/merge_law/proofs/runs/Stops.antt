-- What is kept of a log up to its first stop.
use Rattle.std.proofs.Common.{◌≡◌, List, [], ◌∷◌, Bool, true, false, refl, sym, ap, subst, Some, None}
use Rattle.std.specs.Prelude.{◌||◌}
use Rattle.tac_ir.specs.declared.run.Stop.{Stop}
use Rattle.tac_ir.specs.declared.run.Answer.{Answer}
use Rattle.tac_ir.specs.declared.run.Entry.{Entry}
use Rattle.tac_ir.specs.Path.{stops}
use Rattle.tac_ir.specs.CoreRun.{GoesOn}
use Rattle.merge_law.specs.Stops.{has_stop, kept, stop_by, stop_of}

-- by whether an older entry stops
abbrev pub kept_by : Entry → List Entry → Bool → List Entry
kept_by e h b = elim b [ true ↦ kept h | false ↦ e ∷ h ]

pub no_stop : (h : List Entry) → has_stop h ≡ false → GoesOn h
no_stop [] none = tt
no_stop (e ∷ h) none = by (stops e.answer) (has_stop h) none
  where
    by : (a b : Bool) → (a || b) ≡ false → a ≡ false
    by true b is = is
    by false b is = refl

pub no_stop_before : (e : Entry) (h : List Entry) → has_stop (e ∷ h) ≡ false → has_stop h ≡ false
no_stop_before e h none = by (stops e.answer) (has_stop h) none
  where
    by : (a b : Bool) → (a || b) ≡ false → b ≡ false
    by true b is = cc
    by false b is = is

-- a stop stays where entries are put before it
pub stop_more : (e : Entry) (h : List Entry) → has_stop h ≡ true → has_stop (e ∷ h) ≡ true
stop_more e h is = by (stops e.answer) (has_stop h) is
  where
    by : (a b : Bool) → b ≡ true → (a || b) ≡ true
    by true b some = refl
    by false b some = some

pub stop_now : (e : Entry) (h : List Entry) → stops e.answer ≡ true → has_stop (e ∷ h) ≡ true
stop_now e h is = ap (λ b. b || has_stop h) is

pub stop_under : (e : Entry) (h k : List Entry) → (has_stop h ≡ true → has_stop k ≡ true) → has_stop (e ∷ h) ≡ true → has_stop (e ∷ k) ≡ true
stop_under e h k on is = by (stops e.answer) (has_stop h) (has_stop k) on is
  where
    by : (a b d : Bool) → (b ≡ true → d ≡ true) → (a || b) ≡ true → (a || d) ≡ true
    by true b d on is = refl
    by false b d on is = on is

-- all is kept where nothing stops
pub all_kept : (h : List Entry) → has_stop h ≡ false → kept h ≡ h
unfolding kept
all_kept [] none = refl
all_kept (e ∷ h) none = ap (kept_by e h) (no_stop_before e h none)

pub none_stops : (h : List Entry) → has_stop h ≡ false → stop_of h ≡ None
none_stops [] none = refl
none_stops (e ∷ h) none = by e.answer (no_stop (e ∷ h) none)
  where
    by : (a : Answer) → stops a ≡ false → stop_by a ≡ None
    by (Answer.Stop stop) goes = cc
    by Answer.Unit goes = refl
    by (Answer.Value v) goes = refl

-- what is kept of one entry more
pub kept_same : (e : Entry) (h : List Entry) → has_stop h ≡ true → kept (e ∷ h) ≡ kept h
unfolding kept
kept_same e h some = ap (kept_by e h) some

pub kept_whole : (e : Entry) (h : List Entry) → has_stop h ≡ false → kept (e ∷ h) ≡ e ∷ h
unfolding kept
kept_whole e h none = ap (kept_by e h) none

-- and else the last that is kept stops
pub record EndsWithStop (h : List Entry) : Type 0 where
  pub last : Entry
  pub before : List Entry
  pub is : h ≡ last ∷ before
  pub stop : Stop
  pub stops_so : last.answer ≡ Answer.Stop stop

stop_in : (a : Answer) → stops a ≡ true → (stop : Stop) × (a ≡ Answer.Stop stop)
stop_in (Answer.Stop stop) is = (stop, refl)
stop_in Answer.Unit is = cc
stop_in (Answer.Value v) is = cc

pub last_stops : (h : List Entry) → has_stop h ≡ true → EndsWithStop (kept h)
last_stops [] some = cc
last_stops (e ∷ h) some = by (has_stop h) refl (last_stops h)
  where
    head : (a b : Bool) → (a || b) ≡ true → b ≡ false → a ≡ true
    head true b is none = refl
    head false b is none = cc

    by : (b : Bool) → has_stop h ≡ b → (has_stop h ≡ true → EndsWithStop (kept h)) → EndsWithStop (kept (e ∷ h))
    by true is before = subst EndsWithStop (sym (kept_same e h is)) (before is)
    by false is before =
        let stop = stop_in e.answer (head (stops e.answer) (has_stop h) some is) in
        record { last = e; before = h; is = kept_whole e h is; stop = stop.0; stops_so = stop.1 }

-- a stop in front is kept with all before it, where no older one stops
pub stop_here : (h : List Entry) (stop : Stop) (e : Entry) → e.answer ≡ Answer.Stop stop → stop_of (e ∷ h) ≡ Some stop
stop_here h stop e is = ap stop_by is
