-- Along given names there is at most one run; and where nobody forks, at most one history of each length.
use Rattle.std.proofs.Common.{◌≡◌, ℕ, ℤ, List, [], ◌∷◌, ◌++◌, length, reverse, refl, Option, Some, None, arith, sym, ◌∙◌, ap, subst, inl, inr, ⊎_elim}
use Rattle.std.proofs.lemmas.Bool.{cases_eq}
use Rattle.std.proofs.lemmas.List.{reverse-append, reverse-reverse}
use Rattle.obj_mem.specs.declared.value.Value.{Value}
use Rattle.obj_mem.specs.declared.event.Event.{Event}
use Rattle.obj_mem.specs.declared.event.Stamp.{Stamp}
use Rattle.obj_mem.specs.declared.run.SrcRun.{SrcRun}
use Rattle.obj_mem.specs.declared.run.SrcEnd.{SrcEnd}
use Rattle.obj_mem.specs.Valid.{answer_of}
use Rattle.tac_ir.specs.declared.code.Code.{Code}
use Rattle.tac_ir.specs.GoodForm.{GoodForm}
use Rattle.tac_thread.specs.Doing.{want_of}
use Rattle.tac_thread.specs.Threads.{running, want_of_life}
use Rattle.tac_thread.proofs.Trees.{running_is}
use Rattle.tree_law.proofs.lives.Placing.{places_along}
use Rattle.tree_law.proofs.trees.Along.{tree_of}
use Rattle.obj_run.specs.Objects.{object_meaning, main_stack}
use Rattle.obj_run.specs.Asked.{event_of}
use Rattle.obj_run.specs.Entries.{Entry, stamps_of}
use Rattle.obj_run.specs.Starts.{opening}
use Rattle.obj_run.specs.Runs.{ObjLife, ObjLives, IsObjTree, object_says, IsNext, Ends, end_by, names_of, outputs_of, IsRunAlong}
use Rattle.obj_run.specs.Runs.Ends.{returns, traps, goes_wrong, is_cut}
use Rattle.obj_law.specs.Laws.{names_by, ForksNowhere}
use Rattle.obj_law.proofs.OneStep.{one_life}
use Rattle.obj_law.proofs.One.{Step, step, histories_one}

-- The names of a history.

names_back : (h : List Entry) → names_of (reverse (stamps_of h)) ≡ reverse (names_by h)
names_back [] = refl
names_back (e ∷ h) =
    ap names_of (reverse-append (e.stamp ∷ []) (stamps_of h)) ∙ both (reverse (stamps_of h)) (e.stamp ∷ []) ∙ ap (λ x. x ++ e.stamp.name.0 ∷ []) (names_back h) ∙ sym (reverse-append (e.stamp.name.0 ∷ []) (names_by h))
  where
    both : (xs ys : List Stamp) → names_of (xs ++ ys) ≡ names_of xs ++ names_of ys
    both [] ys = refl
    both (x ∷ xs) ys = ap (λ l. x.name.0 ∷ l) (both xs ys)

-- How many names are left.

pub data Rest (c : Code) (input : List ℤ) (h : List Entry) (f : ObjLives) (d : Option Value) (more : List ℕ) (end : SrcEnd) : Type 0 where
  none : more ≡ [] → Ends c input h f d [] end → Rest c input h f d more end
  one : (n : ℕ) (e : Event) → more ≡ n ∷ [] → IsNext c h f d n e → answer_of (stamps_of h ++ opening c input) n e ≡ None → end ≡ SrcEnd.Invalid → Rest c input h f d more end

rest : (c : Code) (input : List ℤ) (h : List Entry) (f : ObjLives) (d : Option Value) (more : List ℕ) (end : SrcEnd) → Ends c input h f d more end → Rest c input h f d more end
rest c input h f d more end (returns v is) = none refl (returns v is)
rest c input h f d more end (traps is over) = none refl (traps is over)
rest c input h f d more end (goes_wrong n e next wrong) = one n e refl next wrong refl
rest c input h f d more end (is_cut going) = none refl (is_cut going)

ends_one : (c : Code) (input : List ℤ) (h : List Entry) (f : ObjLives) (d : Option Value) (more : List ℕ) (a b : SrcEnd) → more ≡ [] → Ends c input h f d more a → Ends c input h f d more b → a ≡ b
ends_one c input h f d more a b is (returns v x) (returns w y) = (let both : Some v ≡ Some w = sym x ∙ y in let same : v ≡ w = cc in ap end_by same)
ends_one c input h f d more a b is (returns v x) (traps y over) = (let clash : Some v ≡ None = sym x ∙ y in cc)
ends_one c input h f d more a b is (returns v x) (is_cut going) = absurd (going (inl (v, x)))
ends_one c input h f d more a b is (traps x over) (returns v y) = (let clash : Some v ≡ None = sym y ∙ x in cc)
ends_one c input h f d more a b is (traps x over) (traps y over2) = refl
ends_one c input h f d more a b is (traps x over) (is_cut going) = absurd (going (inr over))
ends_one c input h f d more a b is (is_cut going) (returns v y) = absurd (going (inl (v, y)))
ends_one c input h f d more a b is (is_cut going) (traps y over) = absurd (going (inr over))
ends_one c input h f d more a b is (is_cut going) (is_cut going2) = refl
ends_one c input h f d more a b is (goes_wrong n e next wrong) y = cc

front_one : (xs ys : List ℕ) (n m : ℕ) → xs ++ n ∷ [] ≡ ys ++ m ∷ [] → xs ≡ ys
front_one xs ys n m same =
    let back : n ∷ reverse xs ≡ m ∷ reverse ys = sym (reverse-append xs (n ∷ [])) ∙ ap reverse same ∙ reverse-append ys (m ∷ []) in
    let rest : reverse xs ≡ reverse ys = cc in
    sym (reverse-reverse xs) ∙ ap reverse rest ∙ reverse-reverse ys

module _ (c : Code) (input : List ℤ) (good : GoodForm c) where
  -- a valid event and an invalid one
  clashes : {A : Type 0} (h k : List Entry) (f g : ObjLives) (d b : Option Value) (n : ℕ) (e : Event) → names_by h ≡ n ∷ names_by k → IsObjTree c input h f d → IsObjTree c input k g b → IsNext c k g b n e
      → answer_of (stamps_of k ++ opening c input) n e ≡ None → A
  clashes [] k f g d b n e names x y next wrong = cc
  clashes {A} (i ∷ h) k f g d b n e names x y next wrong =
      let s = step c input good i h f d x in
      let name : i.stamp.name.0 ≡ n = cc in
      let before : names_by h ≡ names_by k = cc in
      let same = histories_one c input good h k s.f g s.d b before s.chain y in
      by s name same.0 same.1 (running (g n)) refl next.wants
    where
      by : (s : Step c input i h f d) → i.stamp.name.0 ≡ n → h ≡ k → s.f ≡ g → (o : Option ObjLife) → running (g n) ≡ o → want_of_life object_meaning c o ≡ Some next.want → A
      by s name same lives None runs wants = cc
      by s name same lives (Some l) runs wants =
          let r = running_is (g n) l runs in
          let there : g n ≡ Some s.l = ap g (sym name) ∙ sym (ap (λ (z : ObjLives). z i.stamp.name.0) lives) ∙ s.lives in
          let one : s.l ≡ l = one_life object_meaning c g n s.l l there r.0 in
          let both : Some s.asked.want ≡ Some next.want = sym s.asked.wants ∙ ap (want_of object_meaning c) one ∙ wants in
          let want : s.asked.want ≡ next.want = cc in
          let events : Some i.stamp.event ≡ Some e = sym s.asked.event ∙ ap (event_of c) want ∙ next.event in
          let event : i.stamp.event ≡ e = cc in
          let clash : Some i.stamp.answer ≡ None = sym s.asked.answer ∙ ap (λ z. answer_of (stamps_of z ++ opening c input) i.stamp.name.0 i.stamp.event) same
          ∙ ap (λ m. answer_of (stamps_of k ++ opening c input) m i.stamp.event) name ∙ ap (λ z. answer_of (stamps_of k ++ opening c input) n z) event ∙ wrong in
          cc

  one_run : (r s : SrcRun) → r.events ≡ s.events → r.outputs ≡ s.outputs → r.end ≡ s.end → r ≡ s
  one_run r s events outputs ends = λ i. record { events = events i; outputs = outputs i; «end» = ends i }

  -- with one history
  same_run : (names : List ℕ) (r s : SrcRun) (x : IsRunAlong c input names r) (y : IsRunAlong c input names s) → x.entries ≡ y.entries → r.end ≡ s.end → r ≡ s
  same_run names r s x y same ends =
      let events = x.events ∙ ap (λ z. reverse (stamps_of z)) same ∙ sym y.events in
      one_run r s events (x.outputs ∙ ap outputs_of events ∙ sym y.outputs) ends

  names_there : (names : List ℕ) (r : SrcRun) (x : IsRunAlong c input names r) (more : List ℕ) → x.more ≡ more → names ≡ reverse (names_by x.entries) ++ more
  names_there names r x more is = x.along ∙ ap (λ z. names_of z ++ x.more) x.events ∙ ap (λ z. z ++ x.more) (names_back x.entries) ∙ ap (λ z. reverse (names_by x.entries) ++ z) is

  back_again : (xs ys : List ℕ) → reverse xs ≡ reverse ys → xs ≡ ys
  back_again xs ys same = sym (reverse-reverse xs) ∙ ap reverse same ∙ reverse-reverse ys

  none_behind : (xs : List ℕ) → xs ++ [] ≡ xs
  none_behind [] = refl
  none_behind (x ∷ xs) = ap (λ l. x ∷ l) (none_behind xs)

  longer : (xs ys : List ℕ) (n : ℕ) → reverse xs ++ [] ≡ reverse ys ++ n ∷ [] → xs ≡ n ∷ ys
  longer xs ys n same = back_again xs (n ∷ ys) (sym (none_behind (reverse xs)) ∙ same ∙ sym (reverse-append (n ∷ []) ys))

  pub runs_one : (names : List ℕ) (r s : SrcRun) → IsRunAlong c input names r → IsRunAlong c input names s → r ≡ s
  runs_one names r s x y =
      by (rest c input x.entries x.history.lives x.history.value x.more r.end x.ends) (rest c input y.entries y.history.lives y.history.value y.more s.end y.ends)
    where
      by : Rest c input x.entries x.history.lives x.history.value x.more r.end → Rest c input y.entries y.history.lives y.history.value y.more s.end → r ≡ s
      by (none is ends) (none is2 ends2) =
          let names_same = back_again (names_by x.entries) (names_by y.entries)
          (sym (none_behind (reverse (names_by x.entries))) ∙ sym (names_there names r x [] is) ∙ names_there names s y [] is2 ∙ none_behind (reverse (names_by y.entries))) in
          let same = histories_one c input good x.entries y.entries x.history.lives y.history.lives x.history.value y.history.value names_same x.history.tree y.history.tree in
          same_run names r s x y same.0
          (ends_one c input y.entries y.history.lives y.history.value [] r.end s.end refl
          (subst (λ z. Ends c input y.entries y.history.lives z [] r.end) same.2 (subst (λ z. Ends c input y.entries z x.history.value [] r.end) same.1 (subst (λ z. Ends c input z x.history.lives x.history.value [] r.end) same.0 ends))) ends2)
      by (none is ends) (one n e is2 next wrong end2) =
          clashes x.entries y.entries x.history.lives y.history.lives x.history.value y.history.value n e
          (longer (names_by x.entries) (names_by y.entries) n (sym (names_there names r x [] is) ∙ names_there names s y (n ∷ []) is2)) x.history.tree y.history.tree next wrong
      by (one n e is next wrong end1) (none is2 ends2) =
          clashes y.entries x.entries y.history.lives x.history.lives y.history.value x.history.value n e
          (longer (names_by y.entries) (names_by x.entries) n (sym (names_there names s y [] is2) ∙ names_there names r x (n ∷ []) is)) y.history.tree x.history.tree next wrong
      by (one n e is next wrong end1) (one m e2 is2 next2 wrong2 end2) =
          let names_same = back_again (names_by x.entries) (names_by y.entries)
          (front_one (reverse (names_by x.entries)) (reverse (names_by y.entries)) n m (sym (names_there names r x (n ∷ []) is) ∙ names_there names s y (m ∷ []) is2)) in
          let same = histories_one c input good x.entries y.entries x.history.lives y.history.lives x.history.value y.history.value names_same x.history.tree y.history.tree in
          same_run names r s x y same.0 (end1 ∙ sym end2)

  -- Where nobody forks.

  alone : ForksNowhere c → (h : List Entry) (f : ObjLives) (d : Option Value) → IsObjTree c input h f d → (n : ℕ) (l : ObjLife) → f n ≡ Some l → n ≡ 1
  alone nowhere h f d chain n l lives = ⊎_elim (λ (same : n ≡ 1). same) (λ (other : n ≡ 1 → ⊥). absurd (no_parent other)) (cases_eq n 1)
    where
      no_parent : (n ≡ 1 → ⊥) → ⊥
      no_parent other =
          let says = object_says c (opening c input) in
          let p = (tree_of object_meaning c main_stack says h f d chain).threads.parents n l lives other in
          let b = (places_along object_meaning c good main_stack says h f d chain).branches n p.1.0 l p.0 other lives p.1.1 in
          nowhere p.1.0.top b.join b.entries b.fork

  same_names : ForksNowhere c → (h k : List Entry) (f g : ObjLives) (d b : Option Value) → length h ≡ length k → IsObjTree c input h f d → IsObjTree c input k g b → names_by h ≡ names_by k
  same_names nowhere [] [] f g d b count x y = refl
  same_names nowhere [] (e ∷ k) f g d b count x y = absurd (omega (arith, count))
  same_names nowhere (e ∷ h) [] f g d b count x y = absurd (omega (arith, count))
  same_names nowhere (e ∷ h) (i ∷ k) f g d b count x y =
      let one = step c input good e h f d x in
      let two = step c input good i k g b y in
      let first = alone nowhere h one.f one.d one.chain e.stamp.name.0 one.l one.lives ∙ sym (alone nowhere k two.f two.d two.chain i.stamp.name.0 two.l two.lives) in
      ap (λ n. n ∷ names_by h) first ∙ ap (λ ns. i.stamp.name.0 ∷ ns) (same_names nowhere h k one.f two.f one.d two.d (omega (arith, count)) one.chain two.chain)

  pub alone_one : ForksNowhere c → (h k : List Entry) (f g : ObjLives) (d b : Option Value) → length h ≡ length k → IsObjTree c input h f d → IsObjTree c input k g b → (h ≡ k) × (f ≡ g) × (d ≡ b)
  alone_one nowhere h k f g d b count x y = histories_one c input good h k f g d b (same_names nowhere h k f g d b count x y) x y
