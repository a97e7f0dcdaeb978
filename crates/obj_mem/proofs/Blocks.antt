-- Tests of objects and makers, and what a free does to the blocks that live.
use Rattle.std.proofs.Common.{◌≡◌, Bool, true, false, not, ◌&&◌, ◌||◌, nat_eq, List, [], ◌∷◌, refl, sym, ap, ◌∙◌, subst, eqb-true, eq-eqb, true≢false}
use Rattle.std.proofs.lemmas.Bool.{and_parts, and_from}
use Rattle.obj_mem.specs.declared.Maker.{Maker}
use Rattle.obj_mem.specs.declared.value.Obj.{Obj}
use Rattle.obj_mem.specs.Objects.{same_maker, same_obj}
use Rattle.obj_mem.specs.Alive.{without, is_block}

pub is_maker : (a b : Maker) → same_maker a b ≡ true → a ≡ b
is_maker a b same =
    let parts = and_parts (nat_eq a.thread.0 b.thread.0) (nat_eq a.count b.count) same in
    let thread : a.thread.0 ≡ b.thread.0 = eqb-true a.thread.0 b.thread.0 parts.0 in
    let count : a.count ≡ b.count = eqb-true a.count b.count parts.1 in
    λ i. record { thread = record { 0 = thread i }; count = count i }

pub is_obj : (a b : Obj) → same_obj a b ≡ true → a ≡ b
is_obj a b same =
    let parts = and_parts (nat_eq a.site b.site && same_maker a.maker b.maker) (nat_eq a.len b.len) same in
    let front = and_parts (nat_eq a.site b.site) (same_maker a.maker b.maker) parts.0 in
    let site : a.site ≡ b.site = eqb-true a.site b.site front.0 in
    let maker : a.maker ≡ b.maker = is_maker a.maker b.maker front.1 in
    let len : a.len ≡ b.len = eqb-true a.len b.len parts.1 in
    λ i. record { site = site i; maker = maker i; len = len i }

pub maker_itself : (m : Maker) → same_maker m m ≡ true
maker_itself m = and_from (nat_eq m.thread.0 m.thread.0) (nat_eq m.count m.count) (eq-eqb m.thread.0 m.thread.0 refl) (eq-eqb m.count m.count refl)

pub obj_itself : (o : Obj) → same_obj o o ≡ true
obj_itself o =
    and_from (nat_eq o.site o.site && same_maker o.maker o.maker) (nat_eq o.len o.len)
    (and_from (nat_eq o.site o.site) (same_maker o.maker o.maker) (eq-eqb o.site o.site refl) (maker_itself o.maker)) (eq-eqb o.len o.len refl)

dropped : (u w r : Bool) → (u ≡ true → w ≡ true) → (r && not w) ≡ ((u || r) && not w)
dropped true true true same = refl
dropped true true false same = refl
dropped true false r same = absurd (true≢false (sym (same refl)))
dropped false w r same = refl

kept : (u w r : Bool) → (u ≡ true → w ≡ false) → (u || (r && not w)) ≡ ((u || r) && not w)
kept true true r differ = absurd (true≢false (differ refl))
kept true false r differ = refl
kept false w r differ = refl

-- the blocks that are left when one is freed
pub freed_block : (o p : Obj) (blocks : List Obj) → is_block o (without p blocks) ≡ (is_block o blocks && not (same_obj o p))
freed_block o p [] = refl
freed_block o p (b ∷ blocks) = by (same_obj b p) refl (freed_block o p blocks)
  where
    with_free : same_obj b p ≡ true → same_obj b o ≡ true → same_obj o p ≡ true
    with_free free same = subst (λ (x : Obj). same_obj x p ≡ true) (is_obj b o same) free

    not_free : same_obj b p ≡ false → same_obj b o ≡ true → same_obj o p ≡ false
    not_free free same = subst (λ (x : Obj). same_obj x p ≡ false) (is_obj b o same) free

    by : (t : Bool) → same_obj b p ≡ t → is_block o (without p blocks) ≡ (is_block o blocks && not (same_obj o p))
        → is_block o (elim t [ true ↦ without p blocks | false ↦ b ∷ without p blocks ]) ≡ ((same_obj b o || is_block o blocks) && not (same_obj o p))
    by true free rest = rest ∙ dropped (same_obj b o) (same_obj o p) (is_block o blocks) (with_free free)
    by false free rest = ap (λ r. same_obj b o || r) rest ∙ kept (same_obj b o) (same_obj o p) (is_block o blocks) (not_free free)
