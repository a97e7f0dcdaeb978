-- What a number may touch is what its instruction may touch.
use Rattle.std.proofs.Common.{◌≡◌, ℕ, zero, suc, ◌+◌, ◌<◌, ◌≤◌, Bool, true, false, List, [], ◌∷◌, ◌++◌, length, map, refl, sym, ap, ◌∙◌, subst, arith, eq-eqb, Option, Some, None}
use Rattle.std.specs.Prelude.{slice_get}
use Rattle.std.specs.List.{range_with_len}
use Rattle.std.proofs.lemmas.Bool.{ne_eqb}
use Rattle.tac_ir.specs.declared.code.Code.{Code}
use Rattle.tac_ir.specs.declared.code.Fun.{Fun}
use Rattle.tac_ir.specs.declared.code.Instr.{Instr}
use Rattle.tac_ir.specs.declared.code.Lined.{Lined}
use Rattle.tac_ir.specs.Numbers.{new_def, new_read, numbers_in, numbers_in_funs, IsCount}
use Rattle.tac_ir.specs.Nodes.{leaves_of_global}
use Rattle.tac_ir.specs.Accesses.{leaves_defined, leaves_read, Access, accesses_in, accesses_in_funs, leaves_among, leaves_of_def}
use Rattle.tac_ir.specs.AccessLaws.{DefinitionsTouch, ReadsTouch, StartsTouch}
use Rattle.tac_ir.proofs.Numbering.{first_is, in_parts, within_lines, within_funs, has_line}

-- by whether the first access has the number
abbrev among_by : List ℕ → List ℕ → Bool → List ℕ
among_by here rest b = elim b [ true ↦ here | false ↦ rest ]

module _ (number : Instr → Option ℕ) (leaves : ℕ → Instr → List ℕ) where
  abbrev accesses_by : ℕ → Lined → List Lined → Option ℕ → List Access
  accesses_by f x code o = elim o [ Some n ↦ record { number = n; leaves = leaves f x.instr } ∷ accesses_in number leaves f code | None ↦ accesses_in number leaves f code ]

  abbrev numbers_by : List Lined → Option ℕ → List ℕ
  numbers_by code o = elim o [ Some n ↦ n ∷ numbers_in number code | None ↦ numbers_in number code ]

  -- lines with lesser numbers are passed
  past_lines : (f first : ℕ) (code : List Lined) (rest : List Access) (d : ℕ) → IsCount first (numbers_in number code) → first + length (numbers_in number code) ≤ d
      → leaves_among (accesses_in number leaves f code ++ rest) d ≡ leaves_among rest d
  past_lines f first [] rest d count low = refl
  past_lines f first (x ∷ code) rest d count low = by (number x.instr) count low (λ k. past_lines f k code rest d)
    where
      by : (o : Option ℕ) → IsCount first (numbers_by code o) → first + length (numbers_by code o) ≤ d
          → ((k : ℕ) → IsCount k (numbers_in number code) → k + length (numbers_in number code) ≤ d → leaves_among (accesses_in number leaves f code ++ rest) d ≡ leaves_among rest d)
          → leaves_among (accesses_by f x code o ++ rest) d ≡ leaves_among rest d
      by None count low later = later first count low
      by (Some n) count low later =
          let one = first_is first n (numbers_in number code) count in
          let here = one.0 in
          let other : n ≡ d → ⊥ = λ same. omega (arith, here, same, low) in
          ap (among_by (leaves f x.instr) (leaves_among (accesses_in number leaves f code ++ rest) d)) (ne_eqb n d other) ∙ later (first + 1) one.1 (omega (arith, low))

  -- the line with the number
  at_line : (f first : ℕ) (code : List Lined) (rest : List Access) (at : ℕ) (l : Lined) (d : ℕ) → IsCount first (numbers_in number code) → slice_get code at ≡ Some l → number l.instr ≡ Some d
      → leaves_among (accesses_in number leaves f code ++ rest) d ≡ leaves f l.instr
  at_line f first [] rest at l d count found named = cc
  at_line f first (x ∷ code) rest at l d count found named = by (number x.instr) refl at found count (λ k i c there. at_line f k code rest i l d c there named)
    where
      named_here : (o : Option ℕ) → number x.instr ≡ o → x ≡ l → o ≡ Some d
      named_here o is same = sym is ∙ ap (λ (z : Lined). number z.instr) same ∙ named

      by : (o : Option ℕ) → number x.instr ≡ o → (at : ℕ) → slice_get (x ∷ code) at ≡ Some l → IsCount first (numbers_by code o)
          → ((k i : ℕ) → IsCount k (numbers_in number code) → slice_get code i ≡ Some l → leaves_among (accesses_in number leaves f code ++ rest) d ≡ leaves f l.instr)
          → leaves_among (accesses_by f x code o ++ rest) d ≡ leaves f l.instr
      by None is zero found count later = (let same : x ≡ l = cc in let clash = named_here None is same in cc)
      by None is (suc at) found count later = later first at count found
      by (Some n) is zero found count later =
          let same : x ≡ l = cc in
          let both = named_here (Some n) is same in
          let equal : n ≡ d = cc in
          ap (among_by (leaves f x.instr) (leaves_among (accesses_in number leaves f code ++ rest) d)) (eq-eqb n d equal) ∙ ap (λ (z : Lined). leaves f z.instr) same
      by (Some n) is (suc at) found count later =
          let one = first_is first n (numbers_in number code) count in
          let here = one.0 in
          let low = (within_lines number (first + 1) code at l d one.1 found named).0 in
          let other : n ≡ d → ⊥ = λ same. omega (arith, here, same, low) in
          ap (among_by (leaves f x.instr) (leaves_among (accesses_in number leaves f code ++ rest) d)) (ne_eqb n d other) ∙ later (first + 1) at one.1 found

  -- the same among functions
  at_point : (f first : ℕ) (funs : List Fun) (g : ℕ) (fun : Fun) (at : ℕ) (l : Lined) (d : ℕ) → IsCount first (numbers_in_funs number funs) → slice_get funs g ≡ Some fun → slice_get fun.code at ≡ Some l
      → number l.instr ≡ Some d → leaves_among (accesses_in_funs number leaves f funs) d ≡ leaves (f + g) l.instr
  at_point f first [] g fun at l d count found there named = cc
  at_point f first (x ∷ funs) zero fun at l d count found there named =
      let same : x ≡ fun = cc in
      let parts = in_parts first (numbers_in number x.code) (numbers_in_funs number funs) count in
      let here : f ≡ f + 0 = omega arith in
      at_line f first x.code (accesses_in_funs number leaves (suc f) funs) at l d parts.0 (subst (λ (z : Fun). slice_get z.code at ≡ Some l) (sym same) there) named
      ∙ ap (λ k. leaves k l.instr) here
  at_point f first (x ∷ funs) (suc g) fun at l d count found there named =
      let parts = in_parts first (numbers_in number x.code) (numbers_in_funs number funs) count in
      let low = within_funs number (first + length (numbers_in number x.code)) funs g fun at l d parts.1 found there named in
      let here : suc f + g ≡ f + suc g = omega arith in
      past_lines f first x.code (accesses_in_funs number leaves (suc f) funs) d parts.0 low
      ∙ at_point (suc f) (first + length (numbers_in number x.code)) funs g fun at l d parts.1 found there named ∙ ap (λ k. leaves k l.instr) here

-- Starting definitions.

abbrev start_of : Code → ℕ → Access
start_of c v = record { number = suc v; leaves = leaves_of_global c v }

past_starts : (c : Code) (first n : ℕ) (rest : List Access) (d : ℕ) → first + n < d → leaves_among (map (start_of c) (range_with_len first n) ++ rest) d ≡ leaves_among rest d
past_starts c first zero rest d low = refl
past_starts c first (suc n) rest d low =
    ap (among_by (leaves_of_global c first) (leaves_among (map (start_of c) (range_with_len (first + 1) n) ++ rest) d)) (ne_eqb (suc first) d (λ same. omega (arith, same, low)))
    ∙ past_starts c (first + 1) n rest d (omega (arith, low))

at_start : (c : Code) (first n : ℕ) (rest : List Access) (v : ℕ) → v < n → leaves_among (map (start_of c) (range_with_len first n) ++ rest) (suc (first + v)) ≡ leaves_of_global c (first + v)
at_start c first zero rest v low = absurd (omega (arith, low))
at_start c first (suc n) rest zero low =
    let here : first ≡ first + 0 = omega arith in
    ap (among_by (leaves_of_global c first) (leaves_among (map (start_of c) (range_with_len (first + 1) n) ++ rest) (suc (first + 0)))) (eq-eqb (suc first) (suc (first + 0)) (ap suc here))
    ∙ ap (leaves_of_global c) here
at_start c first (suc n) rest (suc v) low =
    let move : first + 1 + v ≡ first + suc v = omega arith in
    ap (among_by (leaves_of_global c first) (leaves_among (map (start_of c) (range_with_len (first + 1) n) ++ rest) (suc (first + suc v)))) (ne_eqb (suc first) (suc (first + suc v)) (λ same. omega (arith, same)))
    ∙ subst (λ k. leaves_among (map (start_of c) (range_with_len (first + 1) n) ++ rest) (suc k) ≡ leaves_of_global c k) move (at_start c (first + 1) n rest v (omega (arith, low)))

-- Laws.

pub definitions_touch : DefinitionsTouch
definitions_touch c good points p d makes =
    let h = has_line new_def c p d refl makes in
    let low = within_funs new_def (length c.globals + 1) c.funs p.fun h.fun p.at h.line d good.numbers.defs h.function h.found h.named in
    past_starts c 0 (length c.globals) (accesses_in_funs new_def (leaves_defined c points) 0 c.funs) d (omega (arith, low))
    ∙ at_point new_def (leaves_defined c points) 0 (length c.globals + 1) c.funs p.fun h.fun p.at h.line d good.numbers.defs h.function h.found h.named
    ∙ ap (λ f. leaves_defined c points f h.line.instr) (let whole : 0 + p.fun ≡ p.fun = omega arith in whole) ∙ ap (leaves_defined c points p.fun) (sym h.instr)

pub reads_touch : ReadsTouch
reads_touch c good points p r makes =
    let h = has_line new_read c p r refl makes in
    at_point new_read (leaves_read c points) 0 1 c.funs p.fun h.fun p.at h.line r good.numbers.reads h.function h.found h.named
    ∙ ap (λ f. leaves_read c points f h.line.instr) (let whole : 0 + p.fun ≡ p.fun = omega arith in whole) ∙ ap (leaves_read c points p.fun) (sym h.instr)

pub starts_touch : StartsTouch
starts_touch c points v low =
    let whole : 0 + v ≡ v = omega arith in
    subst (λ k. leaves_of_def c points (suc k) ≡ leaves_of_global c k) whole (at_start c 0 (length c.globals) (accesses_in_funs new_def (leaves_defined c points) 0 c.funs) v low)
