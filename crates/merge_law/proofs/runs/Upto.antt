-- The journal of a log, as a loop over it finds it: the oldest entry first.
use Rattle.std.proofs.Common.{◌≡◌, ℕ, ◌+◌, ◌<◌, ◌≤◌, List, [], ◌∷◌, ◌++◌, length, get_or, drop, map, reverse, Bool, true, false, refl, sym, ◌∙◌, ap, subst, Some, None}
use Rattle.std.specs.Prelude.{◌||◌}
use Rattle.std.proofs.lemmas.List.{reverse-append, append_assoc, drop_more, drop_all}
use Rattle.tac_ir.specs.declared.run.Stop.{Stop}
use Rattle.tac_ir.specs.declared.run.Answer.{Answer}
use Rattle.tac_ir.specs.declared.run.Entry.{Entry}
use Rattle.tac_ir.specs.declared.run.End.{End}
use Rattle.tac_ir.specs.declared.run.Journal.{Journal}
use Rattle.tac_ir.specs.Path.{stops}
use Rattle.tac_ir.specs.CoreRun.{end_by}
use Rattle.guest_log.specs.declared.stamped.Stamped.{Stamped}
use Rattle.guest_log.specs.Shared.{history_of}
use Rattle.merge_law.specs.declared.rest.Rest.{Rest}
use Rattle.merge_law.specs.Stops.{has_stop, kept, stop_by, stop_of}
use Rattle.merge_law.specs.AtRest.{end_at_rest, end_of, journal_of}

-- the entries up to the first stop, and the end there
unfoldable pub upto : List Entry → List Entry
upto [] = []
upto (e ∷ log) = elim (stops e.answer) [ true ↦ e ∷ [] | false ↦ e ∷ upto log ]

unfoldable pub end_upto : Rest → List Entry → End
end_upto rest [] = end_at_rest rest
end_upto rest (e ∷ log) = elim (stop_by e.answer) [ Some stop ↦ end_by stop | None ↦ end_upto rest log ]

abbrev pick : Bool → List Entry → List Entry → List Entry
pick b x y = elim b [ true ↦ x | false ↦ y ]

or_assoc : (a b d : Bool) → (a || (b || d)) ≡ ((a || b) || d)
or_assoc true b d = refl
or_assoc false b d = refl

or_none : (a : Bool) → (a || false) ≡ a
or_none true = refl
or_none false = refl

stop_at_end : (h : List Entry) (e : Entry) → has_stop (h ++ e ∷ []) ≡ (has_stop h || stops e.answer)
stop_at_end [] e = or_none (stops e.answer)
stop_at_end (x ∷ h) e = ap (λ b. stops x.answer || b) (stop_at_end h e) ∙ or_assoc (stops x.answer) (has_stop h) (stops e.answer)

-- an older entry below the history
kept_at_end : (h : List Entry) (e : Entry) → kept (h ++ e ∷ []) ≡ pick (stops e.answer) (e ∷ []) (kept h ++ e ∷ [])
unfolding kept
kept_at_end [] e = by (stops e.answer)
  where
    by : (b : Bool) → e ∷ [] ≡ pick b (e ∷ []) (e ∷ [])
    by true = refl
    by false = refl
kept_at_end (x ∷ h) e = ap (λ b. elim b [ true ↦ kept (h ++ e ∷ []) | false ↦ x ∷ (h ++ e ∷ []) ]) (stop_at_end h e) ∙ by (has_stop h) (stops e.answer) (kept_at_end h e)
  where
    by : (a b : Bool) → kept (h ++ e ∷ []) ≡ pick b (e ∷ []) (kept h ++ e ∷ [])
        → pick (a || b) (kept (h ++ e ∷ [])) (x ∷ (h ++ e ∷ [])) ≡ pick b (e ∷ []) (pick a (kept h) (x ∷ h) ++ e ∷ [])
    by true true is = is
    by true false is = is
    by false true is = is
    by false false is = refl

-- one entry more
kept_more : (e : Entry) (log : List Entry) → kept (reverse (e ∷ log)) ≡ pick (stops e.answer) (e ∷ []) (kept (reverse log) ++ e ∷ [])
kept_more e log = ap kept (reverse-append (e ∷ []) log) ∙ kept_at_end (reverse log) e

none_kept : reverse (kept []) ≡ []
unfolding kept
none_kept = refl

kept_is_upto : (log : List Entry) → reverse (kept (reverse log)) ≡ upto log
unfolding upto
kept_is_upto [] = none_kept
kept_is_upto (e ∷ log) = ap reverse (kept_more e log) ∙ by (stops e.answer) (kept_is_upto log)
  where
    by : (b : Bool) → reverse (kept (reverse log)) ≡ upto log → reverse (pick b (e ∷ []) (kept (reverse log) ++ e ∷ [])) ≡ pick b (e ∷ []) (e ∷ upto log)
    by true is = refl
    by false is = reverse-append (kept (reverse log)) (e ∷ []) ∙ ap (λ l. e ∷ l) is

-- the newest entry is as it was, or is one that goes on
stop_below : (l : List Entry) (e : Entry) → stop_by e.answer ≡ None → stop_of (l ++ e ∷ []) ≡ stop_of l
stop_below [] e goes = goes
stop_below (x ∷ l) e goes = refl

no_end : (rest : Rest) → end_of rest (kept []) ≡ end_at_rest rest
unfolding kept
no_end rest = refl

end_is_upto : (rest : Rest) (log : List Entry) → end_of rest (kept (reverse log)) ≡ end_upto rest log
unfolding end_upto
end_is_upto rest [] = no_end rest
end_is_upto rest (e ∷ log) = ap (end_of rest) (kept_more e log) ∙ by e.answer refl (end_is_upto rest log)
  where
    goes : stop_by e.answer ≡ None → stops e.answer ≡ false → end_of rest (kept (reverse log)) ≡ end_upto rest log
        → end_of rest (pick (stops e.answer) (e ∷ []) (kept (reverse log) ++ e ∷ [])) ≡ elim (stop_by e.answer) [ Some stop ↦ end_by stop | None ↦ end_upto rest log ]
    goes none on same =
        ap (λ b. end_of rest (pick b (e ∷ []) (kept (reverse log) ++ e ∷ []))) on
        ∙ ap (λ o. elim o [ Some stop ↦ end_by stop | None ↦ end_at_rest rest ]) (stop_below (kept (reverse log)) e none)
        ∙ same ∙ ap (λ o. elim o [ Some stop ↦ end_by stop | None ↦ end_upto rest log ]) (sym none)

    by : (a : Answer) → e.answer ≡ a → end_of rest (kept (reverse log)) ≡ end_upto rest log
        → end_of rest (pick (stops e.answer) (e ∷ []) (kept (reverse log) ++ e ∷ [])) ≡ elim (stop_by e.answer) [ Some stop ↦ end_by stop | None ↦ end_upto rest log ]
    by (Answer.Stop stop) is same =
        ap (λ b. end_of rest (pick b (e ∷ []) (kept (reverse log) ++ e ∷ []))) (ap stops is)
        ∙ ap (λ o. elim o [ Some s ↦ end_by s | None ↦ end_at_rest rest ]) (ap stop_by is)
        ∙ ap (λ o. elim o [ Some s ↦ end_by s | None ↦ end_upto rest log ]) (sym (ap stop_by is))
    by Answer.Unit is same = goes (ap stop_by is) (ap stops is) same
    by (Answer.Value v) is same = goes (ap stop_by is) (ap stops is) same

-- A loop over the log: these entries are taken, and these are left.
pub record IsReading (rest : Rest) (log taken left : List Entry) : Type 0 where
  pub entries : upto log ≡ taken ++ upto left
  pub end : end_upto rest log ≡ end_upto rest left

pub reading_all : (rest : Rest) (log : List Entry) → IsReading rest log [] log
reading_all rest log = record { entries = refl; «end» = refl }

pub reads_on : (rest : Rest) (log taken left : List Entry) (e : Entry) → stop_by e.answer ≡ None → IsReading rest log taken (e ∷ left) → IsReading rest log (taken ++ e ∷ []) left
unfolding upto end_upto
reads_on rest log taken left e none r = record {
  entries = r.entries ∙ ap (λ b. taken ++ pick b (e ∷ []) (e ∷ upto left)) (on e.answer none) ∙ sym (append_assoc taken (e ∷ []) (upto left));
  «end» = r.«end» ∙ ap (λ o. elim o [ Some stop ↦ end_by stop | None ↦ end_upto rest left ]) none;
}
  where
    on : (a : Answer) → stop_by a ≡ None → stops a ≡ false
    on (Answer.Stop stop) is = cc
    on a is = refl

abbrev pub written : List Entry → End → Journal
written entries end_is = record { entries = entries; «end» = end_is }

-- and its journal, where an entry stops,
pub read_to_stop : (rest : Rest) (log taken left : List Entry) (e : Entry) (stop : Stop) → e.answer ≡ Answer.Stop stop
    → IsReading rest log taken (e ∷ left) → written (taken ++ e ∷ []) (end_by stop) ≡ journal_of rest (reverse log)
unfolding upto end_upto
read_to_stop rest log taken left e stop is r =
    let entries : upto log ≡ taken ++ e ∷ [] = r.entries ∙ ap (λ b. taken ++ pick b (e ∷ []) (e ∷ upto left)) (ap stops is) in
    let ends : end_upto rest log ≡ end_by stop = r.«end» ∙ ap (λ o. elim o [ Some s ↦ end_by s | None ↦ end_upto rest left ]) (ap stop_by is) in
    sym (λ i. record { entries = (kept_is_upto log ∙ entries) i; «end» = (end_is_upto rest log ∙ ends) i })

-- and where none did
pub read_whole : (rest : Rest) (log taken : List Entry) → IsReading rest log taken [] → written taken (end_at_rest rest) ≡ journal_of rest (reverse log)
unfolding upto end_upto
read_whole rest log taken r =
    let entries : upto log ≡ taken = r.entries ∙ nothing_more taken in
    sym (λ i. record { entries = (kept_is_upto log ∙ entries) i; «end» = (end_is_upto rest log ∙ r.«end») i })
  where
    nothing_more : (l : List Entry) → l ++ [] ≡ l
    nothing_more [] = refl
    nothing_more (e ∷ l) = ap (λ r. e ∷ r) (nothing_more l)

-- The same at an index of a log with tickets.

abbrev entries_of : List Stamped → List Entry
entries_of log = map (λ (s : Stamped). s.entry) log

at_index : (log : List Stamped) (i : ℕ) (d : Stamped) → i < length log → entries_of (drop i log) ≡ (get_or log i d).entry ∷ entries_of (drop (i + 1) log)
at_index log i d within = ap entries_of (drop_more log i d within)

pub goes_at : (rest : Rest) (log : List Stamped) (taken : List Entry) (i : ℕ) (d : Stamped) → i < length log → ((stop : Stop) → (get_or log i d).entry.answer ≡ Answer.Stop stop → ⊥)
    → IsReading rest (entries_of log) taken (entries_of (drop i log)) → IsReading rest (entries_of log) (taken ++ (get_or log i d).entry ∷ []) (entries_of (drop (i + 1) log))
goes_at rest log taken i d within none r =
    reads_on rest (entries_of log) taken (entries_of (drop (i + 1) log)) (get_or log i d).entry (by (get_or log i d).entry.answer none)
    (subst (IsReading rest (entries_of log) taken) (at_index log i d within) r)
  where
    by : (a : Answer) → ((stop : Stop) → a ≡ Answer.Stop stop → ⊥) → stop_by a ≡ None
    by (Answer.Stop stop) never = absurd (never stop refl)
    by Answer.Unit never = refl
    by (Answer.Value v) never = refl

pub stops_at : (rest : Rest) (log : List Stamped) (taken : List Entry) (i : ℕ) (d : Stamped) (stop : Stop) → i < length log → (get_or log i d).entry.answer ≡ Answer.Stop stop
    → IsReading rest (entries_of log) taken (entries_of (drop i log)) → written (taken ++ (get_or log i d).entry ∷ []) (end_by stop) ≡ journal_of rest (history_of log)
stops_at rest log taken i d stop within is r =
    read_to_stop rest (entries_of log) taken (entries_of (drop (i + 1) log)) (get_or log i d).entry stop is (subst (IsReading rest (entries_of log) taken) (at_index log i d within) r)

pub ends_at : (rest : Rest) (log : List Stamped) (taken : List Entry) (i : ℕ) → length log ≤ i → IsReading rest (entries_of log) taken (entries_of (drop i log))
    → written taken (end_at_rest rest) ≡ journal_of rest (history_of log)
ends_at rest log taken i past r = read_whole rest (entries_of log) taken (subst (IsReading rest (entries_of log) taken) (ap entries_of (drop_all i log past)) r)
