-- The newest link of a word.
use Rattle.std.proofs.Common.{◌≡◌, ℕ, suc, ◌⊎◌, inl, inr, List, [], ◌∷◌, Bool, true, false, refl, Option, Some, None, arith, sym, ◌∙◌, ap, subst}
use Rattle.std.specs.Prelude.{nat_eq, ◌&&◌, Contains}
use Rattle.std.proofs.lemmas.Bool.{eq-eqb, ne_eqb}
use Rattle.tac_ir.specs.declared.code.Code.{Code}
use Rattle.tac_ir.specs.declared.run.Entry.{Entry}
use Rattle.tac_ir.specs.declared.run.Answer.{Answer}
use Rattle.tac_ir.specs.declared.run.Op.{Op}
use Rattle.tac_ir.specs.Last.{Written, last_write, write_to}
use Rattle.tac_ir.specs.GoodForm.{GoodForm}
use Rattle.tac_ir.specs.NumberLaws.{new_call, is_calls}
use Rattle.tac_ir.proofs.LinkWrites.{words_start_with_no_calls}
use Rattle.tac_thread.specs.declared.flat.FlatStack.{FlatStack}
use Rattle.tac_thread.specs.Life.{instr_of}
use Rattle.path_law.specs.Standing.{FlatActivation}
use Rattle.chain_law.specs.Frames.{framed_of}
use Rattle.link_law.specs.tools.Links.{link_to, last_link, AreLinked, HasNoLinkAt, AllTell}

abbrev written_or : Option Written → Written → Written
written_or o rest = elim o [ Some written ↦ written | None ↦ rest ]

abbrev link_or : Option ℕ → ℕ → ℕ
link_or o rest = elim o [ Some d ↦ d | None ↦ rest ]

-- the write is that of the newest link
abbrev IsNewest : Written → ℕ → Type 0
IsNewest written last = (written.def ≡ last) × (written.value ≡ last)

by_write : (calls : Bool) (d at w v : ℕ) (here : Bool) → nat_eq at w ≡ here → (rest : Written) (last : ℕ) → (v ≡ d) ⊎ (calls ≡ false) → (is : ℕ → Bool) → is d ≡ calls → (is rest.def ≡ true → IsNewest rest last)
    → is (written_or (elim here [ true ↦ Some (record { def = d; value = v }) | false ↦ None ]) rest).def ≡ true
    → IsNewest (written_or (elim here [ true ↦ Some (record { def = d; value = v }) | false ↦ None ]) rest) (link_or (elim (here && calls) [ true ↦ Some d | false ↦ None ]) last)
by_write calls d at w v false place rest last tells is num before now = before now
by_write true d at w v true place rest last (inl same) is num before now = (refl, same)
by_write true d at w v true place rest last (inr none) is num before now = cc
by_write false d at w v true place rest last tells is num before now = (let clash : true ≡ false = sym now ∙ num in cc)

by_entry : (c : Code) (w : ℕ) (op : Op) (answer : Answer) (rest : Written) (last : ℕ) → ((at d v : ℕ) → op ≡ Op.Write (record { 0 = d }) at v → is_calls c d ≡ true → v ≡ d)
    → (is_calls c rest.def ≡ true → IsNewest rest last) → is_calls c (written_or (write_to w op answer) rest).def ≡ true → IsNewest (written_or (write_to w op answer) rest) (link_or (link_to c w op answer) last)
by_entry c w (Op.Write d at v) Answer.Unit rest last tells before now = by (is_calls c d.0) refl
  where
    by : (b : Bool) → is_calls c d.0 ≡ b → IsNewest (written_or (write_to w (Op.Write d at v) Answer.Unit) rest) (link_or (link_to c w (Op.Write d at v) Answer.Unit) last)
    by true is = by_write (is_calls c d.0) d.0 at w v (nat_eq at w) refl rest last (inl (tells at d.0 v refl is)) (is_calls c) refl before now
    by false is = by_write (is_calls c d.0) d.0 at w v (nat_eq at w) refl rest last (inr is) (is_calls c) refl before now
by_entry c w op answer rest last tells before now = before now

-- If the last write of a word is by a call's definition, then it is the newest link there, and its value is that definition.
pub allowed_is_last : (c : Code) → GoodForm c → (h : List Entry) (w : ℕ) → AllTell c h → is_calls c (last_write c h w).def ≡ true
    → ((last_write c h w).def ≡ last_link c h w) × ((last_write c h w).value ≡ last_link c h w)
unfolding last_write last_link
allowed_is_last c good [] w tells now = (let clash : true ≡ false = sym now ∙ words_start_with_no_calls c good w in cc)
allowed_is_last c good (e ∷ h) w tells now = by_entry c w e.op e.answer (last_write c h w) (last_link c h w) (λ at d v. tells.0 at d v) (allowed_is_last c good h w tells.1) now

-- Entries that write no link of these frames.

pub linked_kept : (c : Code) (h : List Entry) (e : Entry) (x : FlatActivation) (callers : List FlatActivation) → ((z : FlatActivation) → Contains (framed_of x callers) z → link_to c z.stack.base e.op e.answer ≡ None)
    → AreLinked c h x callers → AreLinked c (e ∷ h) x callers
unfolding AreLinked last_link
linked_kept c h e x [] none linked = tt
linked_kept c h e x (y ∷ callers) none linked =
    (linked.0 ∙ ap (λ o. Some (link_or o (last_link c h x.stack.base))) (sym (none x (0, omega arith, refl))), linked_kept c h e y callers below linked.1)
  where
    below : (z : FlatActivation) → Contains (framed_of y callers) z → link_to c z.stack.base e.op e.answer ≡ None
    below z (k, within, same) = none z (suc k, omega (arith, within), same)

pub other_word : (c : Code) (w at d v : ℕ) (answer : Answer) → (w ≡ at → ⊥) → link_to c w (Op.Write (record { 0 = d }) at v) answer ≡ None
other_word c w at d v Answer.Unit other = ap (λ b. elim (b && is_calls c d) [ true ↦ Some d | false ↦ None ]) (ne_eqb at w (λ same. other (sym same)))
other_word c w at d v (Answer.Value x) other = refl
other_word c w at d v (Answer.Stop stop) other = refl

pub linked_apart : (c : Code) (h : List Entry) (e : Entry) (at d v : ℕ) → e.op ≡ Op.Write (record { 0 = d }) at v → (x : FlatActivation) (callers : List FlatActivation) → HasNoLinkAt at x callers
    → AreLinked c h x callers → AreLinked c (e ∷ h) x callers
linked_apart c h e at d v op x callers apart linked =
    linked_kept c h e x callers (λ z listed. ap (λ o. link_to c z.stack.base o e.answer) op ∙ other_word c z.stack.base at d v e.answer (apart z listed)) linked

-- The link of a new frame: the new one is linked to the call at which its thread stands.

pub pushed_linked : (c : Code) (h : List Entry) (e : Entry) (x callee : FlatActivation) (callers : List FlatActivation) (d v : ℕ) → new_call (instr_of c x) ≡ Some d → is_calls c d ≡ true
    → e.op ≡ Op.Write (record { 0 = d }) callee.stack.base v → e.answer ≡ Answer.Unit → AreLinked c (e ∷ h) x callers → AreLinked c (e ∷ h) callee (x ∷ callers)
unfolding AreLinked last_link
pushed_linked c h e x callee callers d v call is op answer linked =
    let at = callee.stack.base in
    let now : link_to c at e.op e.answer ≡ Some d =
    ap (λ o. link_to c at o e.answer) op ∙ ap (λ a. link_to c at (Op.Write (record { 0 = d }) at v) a) answer
    ∙ ap (λ b. elim (b && is_calls c d) [ true ↦ Some d | false ↦ None ]) (eq-eqb at at refl) ∙ ap (λ b. elim b [ true ↦ Some d | false ↦ None ]) is in
    (call ∙ ap (λ o. Some (link_or o (last_link c h at))) (sym now), linked)

-- Only frames and callers count.

relink : (c : Code) (h : List Entry) (x z : FlatActivation) (callers : List FlatActivation) → z.stack ≡ x.stack → AreLinked c h x callers → AreLinked c h z callers
unfolding AreLinked
relink c h x z [] stack linked = linked
relink c h x z (y ∷ callers) stack linked = (linked.0 ∙ ap (λ s. Some (last_link c h s)) (ap (λ (s : FlatStack). s.base) (sym stack)), linked.1)

pub linked_as : (c : Code) (h : List Entry) (top x : FlatActivation) (below callers : List FlatActivation) → top.stack ≡ x.stack → below ≡ callers → AreLinked c h x callers → AreLinked c h top below
linked_as c h top x below callers stack same linked = subst (AreLinked c h top) (sym same) (relink c h x top callers stack linked)

pub unlink : (c : Code) (h : List Entry) (x y : FlatActivation) (callers : List FlatActivation) → AreLinked c h x (y ∷ callers) → (new_call (instr_of c y) ≡ Some (last_link c h x.stack.base)) × AreLinked c h y callers
unfolding AreLinked
unlink c h x y callers linked = linked

pub first_linked : (c : Code) (h : List Entry) (x : FlatActivation) (callers : List FlatActivation) → callers ≡ [] → AreLinked c h x callers
unfolding AreLinked
first_linked c h x callers none = subst (AreLinked c h x) (sym none) tt
