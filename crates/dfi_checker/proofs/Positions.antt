-- The number that an instruction makes stands behind those that the instructions before it make.
use Rattle.std.proofs.Common.{◌≡◌, ℕ, zero, suc, ◌+◌, Option, Some, None, List, [], ◌∷◌, ◌++◌, length, get_or, take, refl, sym, ap, subst, ◌∙◌, length-append, arith}
use Rattle.std.specs.Prelude.{slice_get}
use Rattle.std.proofs.lemmas.Option.{slice_get_within, slice_get-get_or}
use Rattle.std.proofs.lemmas.List.FromFn.{get_or-range_with_len}
use Rattle.dfi_base.specs.declared.numbers.Point.{Point}
use Rattle.tac_ir.specs.declared.code.Code.{Code}
use Rattle.tac_ir.specs.declared.code.Fun.{Fun}
use Rattle.tac_ir.specs.declared.code.Instr.{Instr}
use Rattle.tac_ir.specs.declared.code.Lined.{Lined}
use Rattle.tac_ir.specs.Layout.{instr_at}
use Rattle.tac_ir.specs.Numbers.{numbers_in, numbers_in_funs, IsCount}
use Rattle.tac_ir.proofs.Numbering.{has_line}
use Rattle.tac_ir.proofs.regions.Outside.{front_is}
use Rattle.flow_rules.proofs.Parallels.{lines_are}
use Rattle.dfi_checker.specs.BreaksForm.{numbers_before}

behind : (xs ys : List ℕ) (k d : ℕ) → slice_get ys k ≡ Some d → slice_get (xs ++ ys) (length xs + k) ≡ Some d
behind [] ys k d is = (let same : k ≡ 0 + k = omega arith in subst (λ n. slice_get ys n ≡ Some d) same is)
behind (x ∷ xs) ys k d is =
    let same : suc (length xs + k) ≡ suc (length xs) + k = omega arith in
    subst (λ n. slice_get (x ∷ (xs ++ ys)) n ≡ Some d) same (behind xs ys k d is)

abbrev cons_by : Option ℕ → List ℕ → List ℕ
cons_by o xs = elim o [ Some n ↦ n ∷ xs | None ↦ xs ]

module _ (number : Instr → Option ℕ) where
  in_line : (code : List Lined) (at : ℕ) (l : Lined) (d : ℕ) → slice_get code at ≡ Some l → number l.instr ≡ Some d → slice_get (numbers_in number code) (length (numbers_in number (take at code))) ≡ Some d
  in_line [] at l d found named = cc
  in_line (x ∷ code) zero l d found named =
      let same : x ≡ l = cc in
      let own : number x.instr ≡ Some d = ap (λ (z : Lined). number z.instr) same ∙ named in
      subst (λ o. slice_get (cons_by o (numbers_in number code)) 0 ≡ Some d) (sym own) refl
  in_line (x ∷ code) (suc at) l d found named = by (number x.instr) (in_line code at l d found named)
    where
      by : (o : Option ℕ) → slice_get (numbers_in number code) (length (numbers_in number (take at code))) ≡ Some d
          → slice_get (cons_by o (numbers_in number code)) (length (cons_by o (numbers_in number (take at code)))) ≡ Some d
      by None is = is
      by (Some n) is = is

  in_funs : (funs : List Fun) (f : ℕ) (fun : Fun) (at : ℕ) (l : Lined) (d : ℕ) → slice_get funs f ≡ Some fun → slice_get fun.code at ≡ Some l → number l.instr ≡ Some d
      → slice_get (numbers_in_funs number funs) (length (numbers_in_funs number (take f funs)) + length (numbers_in number (take at fun.code))) ≡ Some d
  in_funs [] f fun at l d function found named = cc
  in_funs (x ∷ funs) zero fun at l d function found named =
      let same : x ≡ fun = cc in
      let here = front_is (numbers_in number fun.code) (numbers_in_funs number funs) (length (numbers_in number (take at fun.code))) d (in_line fun.code at l d found named) in
      let start : length (numbers_in number (take at fun.code)) ≡ 0 + length (numbers_in number (take at fun.code)) = omega arith in
      subst (λ n. slice_get (numbers_in number x.code ++ numbers_in_funs number funs) n ≡ Some d) start
      (subst (λ (z : Fun). slice_get (numbers_in number z.code ++ numbers_in_funs number funs) (length (numbers_in number (take at fun.code))) ≡ Some d) (sym same) here)
  in_funs (x ∷ funs) (suc f) fun at l d function found named =
      let own = numbers_in number x.code in
      let earlier = numbers_in_funs number (take f funs) in
      let inner = length (numbers_in number (take at fun.code)) in
      let later = behind own (numbers_in_funs number funs) (length earlier + inner) d (in_funs funs f fun at l d function found named) in
      let same : length own + (length earlier + inner) ≡ length (own ++ earlier) + inner = omega (arith, length-append own earlier) in
      subst (λ n. slice_get (own ++ numbers_in_funs number funs) n ≡ Some d) same later

  pub stands : (c : Code) (p : Point) (d : ℕ) → number Instr.End ≡ None → number (instr_at c p) ≡ Some d → slice_get (numbers_in_funs number c.funs) (numbers_before number c p) ≡ Some d
  stands c p d none named =
      let h = has_line number c p d none named in
      subst (λ code. slice_get (numbers_in_funs number c.funs) (length (numbers_in_funs number (take p.fun c.funs)) + length (numbers_in number (take p.at code))) ≡ Some d)
      (sym (lines_are c p.fun h.fun h.function)) (in_funs c.funs p.fun h.fun p.at h.line d h.function h.found h.named)

-- the numbers of a count
pub counted : (first : ℕ) (numbers : List ℕ) (k d : ℕ) → IsCount first numbers → slice_get numbers k ≡ Some d → d ≡ first + k
counted first numbers k d count is =
    let within = slice_get_within numbers k d is in
    let got : Some (get_or numbers k d) ≡ Some d = sym (slice_get-get_or numbers k d within) ∙ is in
    let same : get_or numbers k d ≡ d = cc in
    sym same ∙ ap (λ xs. get_or xs k d) count ∙ get_or-range_with_len first (length numbers) k d within
