-- Where a run begins, and what it is where its names are used up, or one is refused.
use Rattle.std.proofs.Common.{◌≡◌, ℕ, zero, suc, ◌+◌, ◌≤◌, ◌<◌, ◌⊎◌, ℤ, List, [], ◌∷◌, ◌++◌, length, reverse, map, take, drop, get_or, refl, Option, Some, None, arith, sym, ◌∙◌, ap, subst, inl, inr, drop-cons, add-one}
use Rattle.std.specs.Prelude.{◌≢◌}
use Rattle.std.proofs.lemmas.List.{length-reverse, length-append, take_more, take-append-drop}
use Rattle.dfi_base.specs.declared.numbers.Name.{Name}
use Rattle.obj_mem.specs.declared.value.Value.{Value}
use Rattle.obj_mem.specs.declared.event.Stamp.{Stamp}
use Rattle.obj_mem.specs.declared.run.SrcRun.{SrcRun}
use Rattle.obj_mem.specs.declared.run.SrcEnd.{SrcEnd}
use Rattle.obj_mem.specs.Alive.{but_first}
use Rattle.tac_ir.specs.declared.code.Code.{Code}
use Rattle.tac_thread.specs.Threads.{Threads, life_in, IsTree, IsBegun, name_number}
use Rattle.tree_law.specs.Chain.IsTreeAfter.{begins}
use Rattle.obj_run.specs.declared.threads.State.{State}
use Rattle.obj_run.specs.declared.values.ObjStack.{ObjStack}
use Rattle.obj_run.specs.Objects.{object_meaning, main_stack}
use Rattle.obj_run.specs.Entries.{Entry, stamps_of}
use Rattle.obj_run.specs.Starts.{opening}
use Rattle.obj_run.specs.Runs.{ObjLives, IsHistory, Ends, end_by, names_of, outputs_of, IsNext, IsRunAlong, IsRefusedAt}
use Rattle.obj_run.specs.Runs.Ends.{returns, traps, goes_wrong, is_cut}
use Rattle.obj_run.specs.tools.SoFar.{Run, IsSoFar, Stands, NoZeros, names_in, Refuses, end_at, end_in}
use Rattle.obj_run.specs.tools.SoFar.Stands.{going, trapped, wrong}
use Rattle.obj_run.proofs.Going.{not_over}

none_behind : {A : Type 0} (xs : List A) → xs ++ [] ≡ xs
none_behind [] = refl
none_behind (x ∷ xs) = ap (λ l. x ∷ l) (none_behind xs)

-- The beginning.

pub begins_so : (c : Code) (input : List ℤ) (t : Threads Value ObjStack) (events : List Stamp) (opened : ℕ) → IsBegun object_meaning c main_stack (life_in t) t.done → IsTree object_meaning c (life_in t) → events ≡ reverse (opening c input)
    → opened ≡ length events → IsSoFar c input [] (record { tree = t; events = events; opened = opened; state = State.Going })
begins_so c input t events opened begun tree is count = record {
  entries = [];
  tree = begins (life_in t) t.done tree begun;
  events = is ∙ sym (none_behind (reverse (opening c input)));
  opened = count ∙ ap length is ∙ length-reverse (opening c input);
  stands = going refl (λ i d within. absurd (omega (arith, within)));
}

-- The end.

all_behind : (h : List Entry) → NoZeros h → NoZeros (but_first h)
all_behind [] all = all
all_behind (e ∷ h) all = λ i d within. all (suc i) d (omega (arith, within))

pub record IsEnded (c : Code) (input : List ℤ) (h : List Entry) (f : ObjLives) (d : Option Value) (names : List ℕ) (end : SrcEnd) : Type 0 where
  pub more : List ℕ
  pub along : names ≡ names_in h ++ more
  pub ends : Ends c input h f d more end
  pub no_zero : NoZeros (but_first h)

pub ended : (c : Code) (input : List ℤ) (h : List Entry) (f : ObjLives) (d : Option Value) (names : List ℕ) (s : State) → Stands c input h f d names s → IsEnded c input h f d names (end_at s d)
ended c input h f None names s (going is all) = record { more = []; along = is ∙ sym (none_behind (names_in h)); ends = is_cut (not_over h None refl all); no_zero = all_behind h all }
ended c input h f (Some v) names s (going is all) = record { more = []; along = is ∙ sym (none_behind (names_in h)); ends = returns v refl; no_zero = all_behind h all }
ended c input h f d names s (trapped is all last none) = record { more = []; along = is ∙ sym (none_behind (names_in h)); ends = traps none last; no_zero = all }
ended c input h f d names s (wrong n e is all next answer) = record { more = n ∷ []; along = is; ends = goes_wrong n e next answer; no_zero = all_behind h all }

behind_front : {A : Type 0} (xs ys : List A) → drop (length xs) (xs ++ ys) ≡ ys
behind_front [] ys = refl
behind_front (x ∷ xs) ys = behind_front xs ys

pub few_opened : (c : Code) (input : List ℤ) (names : List ℕ) (r : Run) → IsSoFar c input names r → r.opened ≤ length r.events
few_opened c input names r so =
    omega (arith, so.opened, ap length so.events, length-append (reverse (opening c input)) (reverse (stamps_of so.entries)), length-reverse (opening c input))

pub finished : (c : Code) (input : List ℤ) (names : List ℕ) (r : Run) (run : SrcRun) → run.events ≡ drop r.opened r.events → run.outputs ≡ outputs_of run.events → run.end ≡ end_in r → IsSoFar c input names r
    → IsRunAlong c input names run
finished c input names r run events outputs end so =
    let e = ended c input so.entries (life_in r.tree) r.tree.done names r.state so.stands in
    let all : run.events ≡ reverse (stamps_of so.entries) =
    events ∙ ap (λ n. drop n r.events) (so.opened ∙ sym (length-reverse (opening c input))) ∙ ap (drop (length (reverse (opening c input)))) so.events ∙ behind_front (reverse (opening c input)) (reverse (stamps_of so.entries)) in
    record {
      entries = so.entries;
      history = record { lives = life_in r.tree; value = r.tree.done; tree = so.tree; no_zero = e.no_zero };
      events = all;
      more = e.more;
      along = e.along ∙ ap (λ x. names_of x ++ e.more) (sym all);
      ends = subst (λ x. Ends c input so.entries (life_in r.tree) r.tree.done e.more x) (sym end) e.ends;
      outputs = outputs;
    }

-- A name that is refused.

pub over_end : (s : State) (d : Option Value) → s ≢ State.Going → end_at s d ≢ SrcEnd.Cut
over_end State.Going d other = absurd (other refl)
over_end State.Trapped d other = λ is. cc
over_end State.Wrong d other = λ is. cc

pub refused_at : (c : Code) (input : List ℤ) (names before rest : List ℕ) (n k : ℕ) (r : Run) → IsSoFar c input before r → Refuses c r n → names ≡ before ++ n ∷ rest → k ≡ suc (length before) → IsRefusedAt c input names k
unfolding finished
refused_at c input names before rest n k r so refuses split place =
    let all = reverse (stamps_of so.entries) in
    let run : SrcRun = record { events = all; outputs = outputs_of all; «end» = end_in r } in
    let events : all ≡ drop r.opened r.events =
    sym (ap (λ n. drop n r.events) (so.opened ∙ sym (length-reverse (opening c input))) ∙ ap (drop (length (reverse (opening c input)))) so.events ∙ behind_front (reverse (opening c input)) all) in
    record {
      before = before;
      name = n;
      rest = rest;
      split = split;
      place = place;
      run = run;
      runs = finished c input before r run events refl refl so;
      refused = by refuses;
    }
  where
    by : Refuses c r n → (end_in r ≢ SrcEnd.Cut) ⊎ (Rattle.obj_run.specs.Runs.IsRunnable c so.entries (life_in r.tree) r.tree.done n → ⊥)
    by (inl over) = inl (over_end r.state r.tree.done over)
    by (inr nobody) = inr (λ runs. nobody so.entries runs.0 runs.1)

-- Names, one by one.

names_append : (xs ys : List Name) → map name_number (xs ++ ys) ≡ map name_number xs ++ map name_number ys
names_append [] ys = refl
names_append (x ∷ xs) ys = ap (λ l. x.0 ∷ l) (names_append xs ys)

names_count : (xs : List Name) → length (map name_number xs) ≡ length xs
names_count [] = refl
names_count (x ∷ xs) = ap suc (names_count xs)

pub one_more : (names : List Name) (k : ℕ) (n : Name) → k < length names → map name_number (take (k + 1) names) ≡ map name_number (take k names) ++ (get_or names k n).0 ∷ []
one_more names k n within = ap (map name_number) (take_more names k n within) ∙ names_append (take k names) (get_or names k n ∷ [])

pub split_at : (names : List Name) (k : ℕ) (n : Name) → k < length names → map name_number names ≡ map name_number (take k names) ++ (get_or names k n).0 ∷ map name_number (drop (k + 1) names)
split_at names k n within =
    ap (map name_number) (sym (take-append-drop k names)) ∙ names_append (take k names) (drop k names)
    ∙ ap (λ xs. map name_number (take k names) ++ map name_number xs) (let next : drop k names ≡ get_or names k n ∷ drop (k + 1) names = rw add-one (drop-cons names k n within) in next)

pub place_of_name : (names : List Name) (k : ℕ) → k < length names → k + 1 ≡ suc (length (map name_number (take k names)))
place_of_name names k within = omega (arith, names_count (take k names), taken names k within)
  where
    taken : (xs : List Name) (k : ℕ) → k < length xs → length (take k xs) ≡ k
    taken xs zero less = refl
    taken [] (suc k) less = absurd (omega (arith, less))
    taken (x ∷ xs) (suc k) less = ap suc (taken xs k (omega (arith, less)))
