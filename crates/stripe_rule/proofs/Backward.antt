-- Logs with the newest entry first against logs with the oldest first. (Exported.)
use Rattle.std.proofs.Common.{◌≡◌, ⊎_elim, ℕ, suc, ◌+◌, ◌<◌, ◌≤◌, leb, Bool, true, false, cond, List, [], ◌∷◌, ◌++◌, map, reverse, length, refl, sym, ap, ◌∙◌, subst, arith}
use Rattle.std.specs.List.{All}
use Rattle.std.proofs.lemmas.Grind.{reverse_onto}
use Rattle.std.proofs.lemmas.Bool.Decides.{leb_tells}
use Rattle.std.proofs.lemmas.List.{length-reverse, map-append, reverse-append}
use Rattle.std.proofs.lemmas.List.Elements.{All-head, All-tail}
use Rattle.tac_ir.specs.declared.run.Entry.{Entry}
use Rattle.guest_log.specs.declared.stamped.Stamped.{Stamped}
use Rattle.guest_log.specs.Tickets.{IsRising, IsShuffle, IsUnion}
use Rattle.guest_log.specs.Tickets.IsShuffle.{none, first, second}
use Rattle.guest_log.specs.Shared.{AreFrom, history_of}
use Rattle.stripe_rule.specs.tools.Logs.{insert, merge, stamps}

-- the stamps of a history

from_on : (n : ℕ) (log : List Stamped) (s : Stamped) → AreFrom n log → s.ticket ≡ n + length log → AreFrom n (log ++ s ∷ [])
unfolding AreFrom
from_on n [] s from is = (omega (arith, is), tt)
from_on n (x ∷ log) s from is = (from.0, from_on (suc n) log s from.1 (omega (arith, is)))

pub length_stamps : (h : List Entry) → length (stamps h) ≡ length h
length_stamps [] = refl
length_stamps (e ∷ h) = ap suc (length_stamps h)

none_from : AreFrom 0 []
unfolding AreFrom
none_from = tt

pub stamps_from : (h : List Entry) → AreFrom 0 (reverse (stamps h))
stamps_from [] = none_from
stamps_from (e ∷ h) =
    let s : Stamped = record { ticket = length h; entry = e } in
    subst (AreFrom 0) (sym (reverse_onto (stamps h) s []))
    (from_on 0 (reverse (stamps h)) s (stamps_from h) (omega (arith, length-reverse (stamps h), length_stamps h)))

abbrev entries_of : List Stamped → List Entry
entries_of log = map (λ (s : Stamped). s.entry) log

pub history_on : (log : List Stamped) (s : Stamped) → history_of (log ++ s ∷ []) ≡ s.entry ∷ history_of log
history_on log s =
    ap reverse (map-append (λ (x : Stamped). x.entry) log (s ∷ [])) ∙ reverse-append (entries_of log) (s.entry ∷ [])

pub stamps_history : (h : List Entry) → history_of (reverse (stamps h)) ≡ h
stamps_history [] = refl
stamps_history (e ∷ h) =
    let s : Stamped = record { ticket = length h; entry = e } in
    ap history_of (reverse_onto (stamps h) s []) ∙ history_on (reverse (stamps h)) s ∙ ap (λ l. e ∷ l) (stamps_history h)

-- a union is the merge of the two

abbrev AllAbove : ℕ → List Stamped → Type 0
AllAbove t [] = Unit {0}
AllAbove t (s ∷ l) = (t < s.ticket) × AllAbove t l

abbrev step_of : Stamped → Stamped → List Stamped → Bool → List Stamped
step_of s x l b = cond b (s ∷ x ∷ l) (x ∷ insert s l)

insert_before : (s x : Stamped) (l : List Stamped) → x.ticket ≤ s.ticket → insert s (x ∷ l) ≡ s ∷ x ∷ l
insert_before s x l le = ⊎_elim
    (λ (a : (leb x.ticket s.ticket ≡ true) × (x.ticket ≤ s.ticket)). ap (step_of s x l) a.0)
    (λ (a : (leb x.ticket s.ticket ≡ false) × (s.ticket < x.ticket)). absurd (let far = a.1 in omega (arith, le, far)))
    (leb_tells x.ticket s.ticket)

insert_behind : (s x : Stamped) (l : List Stamped) → s.ticket < x.ticket → insert s (x ∷ l) ≡ x ∷ insert s l
insert_behind s x l lt = ⊎_elim
    (λ (a : (leb x.ticket s.ticket ≡ true) × (x.ticket ≤ s.ticket)). absurd (let near = a.1 in omega (arith, lt, near)))
    (λ (a : (leb x.ticket s.ticket ≡ false) × (s.ticket < x.ticket)). ap (step_of s x l) a.0)
    (leb_tells x.ticket s.ticket)

-- the oldest stays last
insert_older : (s old : Stamped) (l : List Stamped) → old.ticket < s.ticket → insert s (l ++ old ∷ []) ≡ insert s l ++ old ∷ []
insert_older s old [] lt = insert_before s old [] (omega (arith, lt))
insert_older s old (x ∷ l) lt = ⊎_elim
    (λ (a : (leb x.ticket s.ticket ≡ true) × (x.ticket ≤ s.ticket)). insert_before s x (l ++ old ∷ []) a.1 ∙ ap (λ t. t ++ old ∷ []) (sym (insert_before s x l a.1)))
    (λ (a : (leb x.ticket s.ticket ≡ false) × (s.ticket < x.ticket)).
    insert_behind s x (l ++ old ∷ []) a.1 ∙ ap (λ t. x ∷ t) (insert_older s old l lt) ∙ ap (λ t. t ++ old ∷ []) (sym (insert_behind s x l a.1)))
    (leb_tells x.ticket s.ticket)

insert_last : (old : Stamped) (l : List Stamped) → AllAbove old.ticket l → insert old l ≡ l ++ old ∷ []
insert_last old [] above = refl
insert_last old (x ∷ l) above = insert_behind old x l above.0 ∙ ap (λ t. x ∷ t) (insert_last old l above.1)

merge_left : (old : Stamped) (a b : List Stamped) → AllAbove old.ticket b → merge (a ++ old ∷ []) b ≡ merge a b ++ old ∷ []
merge_left old a [] above = refl
merge_left old a (s ∷ b) above = ap (insert s) (merge_left old a b above.1) ∙ insert_older s old (merge a b) above.0

merge_right : (old : Stamped) (a b : List Stamped) → AllAbove old.ticket a → AllAbove old.ticket b → merge a (b ++ old ∷ []) ≡ merge a b ++ old ∷ []
merge_right old a [] in_a in_b = insert_last old a in_a
merge_right old a (s ∷ b) in_a in_b = ap (insert s) (merge_right old a b in_a in_b.1) ∙ insert_older s old (merge a b) in_b.0

above_append : (t : ℕ) (a b : List Stamped) → AllAbove t a → AllAbove t b → AllAbove t (a ++ b)
above_append t [] b x y = y
above_append t (s ∷ a) b x y = (x.0, above_append t a b x.1 y)

above_reverse : (t : ℕ) (l : List Stamped) → AllAbove t l → AllAbove t (reverse l)
above_reverse t [] a = tt
above_reverse t (s ∷ l) a = subst (AllAbove t) (sym (reverse_onto l s [])) (above_append t (reverse l) (s ∷ []) (above_reverse t l a.1) (a.0, tt))

above_all : (t : ℕ) (l : List Stamped) → All (λ (s : Stamped). t < s.ticket) l → AllAbove t l
above_all t [] all = tt
above_all t (s ∷ l) all = (All-head (λ (s : Stamped). t < s.ticket) s l all, above_all t l (All-tail (λ (s : Stamped). t < s.ticket) s l all))

-- what is above in the whole is above in both
above_first : (t : ℕ) (whole a b : List Stamped) → IsShuffle whole a b → AllAbove t whole → AllAbove t a × AllAbove t b
above_first t _ _ _ none above = (tt, tt)
above_first t _ _ _ (first x whole a b s) above = let rest = above_first t whole a b s above.1 in ((above.0, rest.0), rest.1)
above_first t _ _ _ (second x whole a b s) above = let rest = above_first t whole a b s above.1 in (rest.0, (above.0, rest.1))

union_merged : (whole a b : List Stamped) → IsShuffle whole a b → IsRising whole → merge (reverse a) (reverse b) ≡ reverse whole
unfolding IsRising
union_merged _ _ _ none rising = refl
union_merged _ _ _ (first x whole a b s) rising =
    let above = above_first x.ticket whole a b s (above_all x.ticket whole rising.0) in
    ap (λ l. merge l (reverse b)) (reverse_onto a x [])
    ∙ merge_left x (reverse a) (reverse b) (above_reverse x.ticket b above.1)
    ∙ ap (λ l. l ++ x ∷ []) (union_merged whole a b s rising.1) ∙ sym (reverse_onto whole x [])
union_merged _ _ _ (second x whole a b s) rising =
    let above = above_first x.ticket whole a b s (above_all x.ticket whole rising.0) in
    ap (λ l. merge (reverse a) l) (reverse_onto b x [])
    ∙ merge_right x (reverse a) (reverse b) (above_reverse x.ticket a above.0) (above_reverse x.ticket b above.1)
    ∙ ap (λ l. l ++ x ∷ []) (union_merged whole a b s rising.1) ∙ sym (reverse_onto whole x [])

pub merged_is : (a b whole : List Stamped) → IsUnion a b whole → merge (reverse a) (reverse b) ≡ reverse whole
merged_is a b whole union = union_merged whole a b union.shuffle union.rising
