-- Numbers of definitions and reads: each is made at one point; those of calls are no others'.
use Rattle.std.proofs.Common.{◌≡◌, ℕ, zero, suc, ◌+◌, ◌<◌, ◌≤◌, ◌⊎◌, inl, inr, Bool, true, false, List, [], ◌∷◌, ◌++◌, length, refl, sym, ap, ◌∙◌, subst, arith, Option, Some, None}
use Rattle.std.specs.Prelude.{nat_eq, ◌||◌, slice_get}
use Rattle.std.proofs.lemmas.Bool.{eqb-true, eq-eqb}
use Rattle.dfi_base.specs.declared.numbers.Point.{Point}
use Rattle.tac_ir.specs.declared.code.Code.{Code}
use Rattle.tac_ir.specs.declared.code.Fun.{Fun}
use Rattle.tac_ir.specs.declared.code.Instr.{Instr}
use Rattle.tac_ir.specs.declared.code.Lined.{Lined}
use Rattle.tac_ir.specs.Layout.{instr_at}
use Rattle.tac_ir.specs.Numbers.{new_def, new_read, numbers_in, numbers_in_funs, IsCount}
use Rattle.tac_ir.specs.GoodForm.{GoodForm}
use Rattle.tac_ir.specs.Answers.{has}
use Rattle.tac_ir.specs.NumberLaws.{new_call, is_calls, OneInstructionADefinition, OneInstructionARead, CallsMakeTheirs, StartsAreNoCalls}

-- Counts in parts.

head_of : List ℕ → ℕ
head_of [] = 0
head_of (x ∷ xs) = x

tail_of : List ℕ → List ℕ
tail_of [] = []
tail_of (x ∷ xs) = xs

pub first_is : (first x : ℕ) (xs : List ℕ) → IsCount first (x ∷ xs) → (x ≡ first) × IsCount (first + 1) xs
unfolding head_of tail_of
first_is first x xs count = (ap head_of count, ap tail_of count)

pub in_parts : (first : ℕ) (xs ys : List ℕ) → IsCount first (xs ++ ys) → IsCount first xs × IsCount (first + length xs) ys
in_parts first [] ys count = (refl, (let same : first ≡ first + 0 = omega arith in subst (λ n. IsCount n ys) same count))
in_parts first (x ∷ xs) ys count =
    let one = first_is first x (xs ++ ys) count in
    let rest = in_parts (first + 1) xs ys one.1 in
    let same : first + 1 + length xs ≡ first + suc (length xs) = omega arith in
    (ap (λ z. z ∷ xs) one.0 ∙ ap (λ z. first ∷ z) rest.0, subst (λ n. IsCount n ys) same rest.1)

-- Where a number stands.

record IsInLines (number : Instr → Option ℕ) (code : List Lined) (d : ℕ) : Type 0 where
  at : ℕ
  line : Lined
  found : slice_get code at ≡ Some line
  named : number line.instr ≡ Some d

record IsInFuns (number : Instr → Option ℕ) (funs : List Fun) (d : ℕ) : Type 0 where
  f : ℕ
  fun : Fun
  function : slice_get funs f ≡ Some fun
  place : IsInLines number fun.code d

abbrev cons_by : Option ℕ → List ℕ → List ℕ
cons_by o xs = elim o [ Some n ↦ n ∷ xs | None ↦ xs ]

module _ (number : Instr → Option ℕ) where
  -- the numbers of lines that count up are within the count
  pub within_lines : (first : ℕ) (code : List Lined) (at : ℕ) (l : Lined) (d : ℕ) → IsCount first (numbers_in number code) → slice_get code at ≡ Some l → number l.instr ≡ Some d → (first ≤ d) × (d < first + length (numbers_in number code))
  within_lines first [] at l d count found named = cc
  within_lines first (x ∷ code) at l d count found named = by (number x.instr) refl at found count (λ f k there count. within_lines f code k l d count there named)
    where
      by : (o : Option ℕ) → number x.instr ≡ o → (at : ℕ) → slice_get (x ∷ code) at ≡ Some l → IsCount first (cons_by o (numbers_in number code))
          → ((f k : ℕ) → slice_get code k ≡ Some l → IsCount f (numbers_in number code) → (f ≤ d) × (d < f + length (numbers_in number code)))
          → (first ≤ d) × (d < first + length (cons_by o (numbers_in number code)))
      by None is zero found count rest = (let same : x ≡ l = cc in let clash : None ≡ Some d = sym is ∙ ap (λ (z : Lined). number z.instr) same ∙ named in cc)
      by None is (suc at) found count rest = rest first at found count
      by (Some k) is zero found count rest =
          let same : x ≡ l = cc in
          let both : Some k ≡ Some d = sym is ∙ ap (λ (z : Lined). number z.instr) same ∙ named in
          let eq : k ≡ d = cc in
          let one = (first_is first k (numbers_in number code) count).0 in
          (omega (arith, one, eq), omega (arith, one, eq))
      by (Some k) is (suc at) found count rest =
          let r = rest (first + 1) at found (first_is first k (numbers_in number code) count).1 in
          let low = r.0 in
          let high = r.1 in
          (omega (arith, low), omega (arith, high))

  one_line : (first : ℕ) (code : List Lined) (a b : ℕ) (l k : Lined) (d : ℕ) → IsCount first (numbers_in number code) → slice_get code a ≡ Some l → slice_get code b ≡ Some k → number l.instr ≡ Some d → number k.instr ≡ Some d → a ≡ b
  one_line first [] a b l k d count found there named also = cc
  one_line first (x ∷ code) a b l k d count found there named also = by (number x.instr) refl a b found there count (λ f a b p q count. one_line f code a b l k d count p q named also)
    where
      head_named : (o : Option ℕ) (z : Lined) → number x.instr ≡ o → x ≡ z → number z.instr ≡ Some d → o ≡ Some d
      head_named o z is same named = sym is ∙ ap (λ (z : Lined). number z.instr) same ∙ named

      by : (o : Option ℕ) → number x.instr ≡ o → (a b : ℕ) → slice_get (x ∷ code) a ≡ Some l → slice_get (x ∷ code) b ≡ Some k → IsCount first (cons_by o (numbers_in number code))
          → ((f a b : ℕ) → slice_get code a ≡ Some l → slice_get code b ≡ Some k → IsCount f (numbers_in number code) → a ≡ b) → a ≡ b
      by o is zero zero p q count rest = refl
      by None is zero (suc b) p q count rest = (let same : x ≡ l = cc in let clash = head_named None l is same named in cc)
      by None is (suc a) zero p q count rest = (let same : x ≡ k = cc in let clash = head_named None k is same also in cc)
      by None is (suc a) (suc b) p q count rest = ap suc (rest first a b p q count)
      by (Some n) is zero (suc b) p q count rest =
          let same : x ≡ l = cc in
          let both = head_named (Some n) l is same named in
          let eq : n ≡ d = cc in
          let one = first_is first n (numbers_in number code) count in
          let here = one.0 in
          let low = (within_lines (first + 1) code b k d one.1 q also).0 in
          absurd (omega (arith, low, here, eq))
      by (Some n) is (suc a) zero p q count rest =
          let same : x ≡ k = cc in
          let both = head_named (Some n) k is same also in
          let eq : n ≡ d = cc in
          let one = first_is first n (numbers_in number code) count in
          let here = one.0 in
          let low = (within_lines (first + 1) code a l d one.1 p named).0 in
          absurd (omega (arith, low, here, eq))
      by (Some n) is (suc a) (suc b) p q count rest = ap suc (rest (first + 1) a b p q (first_is first n (numbers_in number code) count).1)

  pub within_funs : (first : ℕ) (funs : List Fun) (f : ℕ) (fun : Fun) (at : ℕ) (l : Lined) (d : ℕ) → IsCount first (numbers_in_funs number funs) → slice_get funs f ≡ Some fun → slice_get fun.code at ≡ Some l → number l.instr ≡ Some d → first ≤ d
  within_funs first [] f fun at l d count found there named = cc
  within_funs first (x ∷ funs) zero fun at l d count found there named =
      let same : x ≡ fun = cc in
      let line = subst (λ (z : Fun). slice_get z.code at ≡ Some l) (sym same) there in
      (within_lines first x.code at l d (in_parts first (numbers_in number x.code) (numbers_in_funs number funs) count).0 line named).0
  within_funs first (x ∷ funs) (suc f) fun at l d count found there named =
      let low = within_funs (first + length (numbers_in number x.code)) funs f fun at l d (in_parts first (numbers_in number x.code) (numbers_in_funs number funs) count).1 found there named in
      omega (arith, low)

  one_place : (first : ℕ) (funs : List Fun) (f g : ℕ) (fun gun : Fun) (a b : ℕ) (l k : Lined) (d : ℕ) → IsCount first (numbers_in_funs number funs) → slice_get funs f ≡ Some fun → slice_get fun.code a ≡ Some l
      → slice_get funs g ≡ Some gun → slice_get gun.code b ≡ Some k → number l.instr ≡ Some d → number k.instr ≡ Some d → (f ≡ g) × (a ≡ b)
  one_place first [] f g fun gun a b l k d count found line there other named also = cc
  one_place first (x ∷ funs) zero zero fun gun a b l k d count found line there other named also =
      let same : x ≡ fun = cc in
      let alike : x ≡ gun = cc in (
        refl,
        one_line first x.code a b l k d (in_parts first (numbers_in number x.code) (numbers_in_funs number funs) count).0
            (subst (λ (z : Fun). slice_get z.code a ≡ Some l) (sym same) line) (subst (λ (z : Fun). slice_get z.code b ≡ Some k) (sym alike) other) named also,
      )
  one_place first (x ∷ funs) zero (suc g) fun gun a b l k d count found line there other named also =
      let same : x ≡ fun = cc in
      let parts = in_parts first (numbers_in number x.code) (numbers_in_funs number funs) count in
      let high = (within_lines first x.code a l d parts.0 (subst (λ (z : Fun). slice_get z.code a ≡ Some l) (sym same) line) named).1 in
      let low = within_funs (first + length (numbers_in number x.code)) funs g gun b k d parts.1 there other also in
      absurd (omega (arith, high, low))
  one_place first (x ∷ funs) (suc f) zero fun gun a b l k d count found line there other named also =
      let same : x ≡ gun = cc in
      let parts = in_parts first (numbers_in number x.code) (numbers_in_funs number funs) count in
      let high = (within_lines first x.code b k d parts.0 (subst (λ (z : Fun). slice_get z.code b ≡ Some k) (sym same) other) also).1 in
      let low = within_funs (first + length (numbers_in number x.code)) funs f fun a l d parts.1 found line named in
      absurd (omega (arith, high, low))
  one_place first (x ∷ funs) (suc f) (suc g) fun gun a b l k d count found line there other named also =
      let rest = one_place (first + length (numbers_in number x.code)) funs f g fun gun a b l k d (in_parts first (numbers_in number x.code) (numbers_in_funs number funs) count).1 found line there other named also in
      (ap suc rest.0, rest.1)

  -- who is listed stands somewhere
  listed_line : (code : List Lined) (d : ℕ) → has (numbers_in number code) d ≡ true → IsInLines number code d
  listed_line [] d is = cc
  listed_line (x ∷ code) d is = by (number x.instr) refl is (listed_line code d)
    where
      later : IsInLines number code d → IsInLines number (x ∷ code) d
      later r = record { at = suc r.at; line = r.line; found = r.found; named = r.named }

      pick : (k : ℕ) → number x.instr ≡ Some k → (b : Bool) → nat_eq k d ≡ b → (b || has (numbers_in number code) d) ≡ true → (has (numbers_in number code) d ≡ true → IsInLines number code d) → IsInLines number (x ∷ code) d
      pick k named true same is rest = record { at = 0; line = x; found = refl; named = named ∙ ap Some (eqb-true k d same) }
      pick k named false same is rest = later (rest is)

      by : (o : Option ℕ) → number x.instr ≡ o → has (cons_by o (numbers_in number code)) d ≡ true → (has (numbers_in number code) d ≡ true → IsInLines number code d) → IsInLines number (x ∷ code) d
      by None named is rest = later (rest is)
      by (Some k) named is rest = pick k named (nat_eq k d) refl is rest

  in_either : (xs ys : List ℕ) (d : ℕ) → has (xs ++ ys) d ≡ true → (has xs d ≡ true) ⊎ (has ys d ≡ true)
  in_either [] ys d is = inr is
  in_either (x ∷ xs) ys d is = by (nat_eq x d) is (in_either xs ys d)
    where
      by : (b : Bool) → (b || has (xs ++ ys) d) ≡ true → (has (xs ++ ys) d ≡ true → (has xs d ≡ true) ⊎ (has ys d ≡ true)) → ((b || has xs d) ≡ true) ⊎ (has ys d ≡ true)
      by true is rest = inl refl
      by false is rest = rest is

  listed : (funs : List Fun) (d : ℕ) → has (numbers_in_funs number funs) d ≡ true → IsInFuns number funs d
  listed [] d is = cc
  listed (x ∷ funs) d is = by (in_either (numbers_in number x.code) (numbers_in_funs number funs) d is) (listed funs d)
    where
      by : (has (numbers_in number x.code) d ≡ true) ⊎ (has (numbers_in_funs number funs) d ≡ true) → (has (numbers_in_funs number funs) d ≡ true → IsInFuns number funs d) → IsInFuns number (x ∷ funs) d
      by (inl here) rest = record { f = 0; fun = x; function = refl; place = listed_line x.code d here }
      by (inr later) rest = (let r = rest later in record { f = suc r.f; fun = r.fun; function = r.function; place = r.place })

  -- and who stands somewhere is listed
  has_left : (xs ys : List ℕ) (d : ℕ) → has xs d ≡ true → has (xs ++ ys) d ≡ true
  has_left [] ys d is = cc
  has_left (x ∷ xs) ys d is = by (nat_eq x d) is (has_left xs ys d)
    where
      by : (b : Bool) → (b || has xs d) ≡ true → (has xs d ≡ true → has (xs ++ ys) d ≡ true) → (b || has (xs ++ ys) d) ≡ true
      by true is rest = refl
      by false is rest = rest is

  has_right : (xs ys : List ℕ) (d : ℕ) → has ys d ≡ true → has (xs ++ ys) d ≡ true
  has_right [] ys d is = is
  has_right (x ∷ xs) ys d is = by (nat_eq x d) (has_right xs ys d is)
    where
      by : (b : Bool) → has (xs ++ ys) d ≡ true → (b || has (xs ++ ys) d) ≡ true
      by true rest = refl
      by false rest = rest

  lists_line : (code : List Lined) (at : ℕ) (l : Lined) (d : ℕ) → slice_get code at ≡ Some l → number l.instr ≡ Some d → has (numbers_in number code) d ≡ true
  lists_line [] at l d found named = cc
  lists_line (x ∷ code) at l d found named = by (number x.instr) refl at found (λ k there. lists_line code k l d there named)
    where
      later : (k : ℕ) (b : Bool) → has (numbers_in number code) d ≡ true → (b || has (numbers_in number code) d) ≡ true
      later k true is = refl
      later k false is = is

      by : (o : Option ℕ) → number x.instr ≡ o → (at : ℕ) → slice_get (x ∷ code) at ≡ Some l → ((k : ℕ) → slice_get code k ≡ Some l → has (numbers_in number code) d ≡ true) → has (cons_by o (numbers_in number code)) d ≡ true
      by None is zero found rest = (let same : x ≡ l = cc in let clash : None ≡ Some d = sym is ∙ ap (λ (z : Lined). number z.instr) same ∙ named in cc)
      by None is (suc at) found rest = rest at found
      by (Some k) is zero found rest =
          let same : x ≡ l = cc in
          let both : Some k ≡ Some d = sym is ∙ ap (λ (z : Lined). number z.instr) same ∙ named in
          let eq : k ≡ d = cc in
          ap (λ b. b || has (numbers_in number code) d) (eq-eqb k d eq)
      by (Some k) is (suc at) found rest = later k (nat_eq k d) (rest at found)

  lists : (funs : List Fun) (f : ℕ) (fun : Fun) (at : ℕ) (l : Lined) (d : ℕ) → slice_get funs f ≡ Some fun → slice_get fun.code at ≡ Some l → number l.instr ≡ Some d → has (numbers_in_funs number funs) d ≡ true
  lists [] f fun at l d found there named = cc
  lists (x ∷ funs) zero fun at l d found there named =
      let same : x ≡ fun = cc in
      has_left (numbers_in number x.code) (numbers_in_funs number funs) d (lists_line x.code at l d (subst (λ (z : Fun). slice_get z.code at ≡ Some l) (sym same) there) named)
  lists (x ∷ funs) (suc f) fun at l d found there named = has_right (numbers_in number x.code) (numbers_in_funs number funs) d (lists funs f fun at l d found there named)

-- Points.

-- a point with an instruction that has a number
pub record HasLine (number : Instr → Option ℕ) (c : Code) (p : Point) (d : ℕ) : Type 0 where
  pub fun : Fun
  pub function : slice_get c.funs p.fun ≡ Some fun
  pub line : Lined
  pub found : slice_get fun.code p.at ≡ Some line
  pub named : number line.instr ≡ Some d
  pub instr : instr_at c p ≡ line.instr

abbrev code_by : Option Fun → List Lined
code_by o = elim o [ None ↦ [] | Some fun ↦ fun.code ]

abbrev instr_by : Option Lined → Instr
instr_by o = elim o [ None ↦ Instr.End | Some l ↦ l.instr ]

pub has_line : (number : Instr → Option ℕ) (c : Code) (p : Point) (d : ℕ) → number Instr.End ≡ None → number (instr_at c p) ≡ Some d → HasLine number c p d
has_line number c p d none named = by (slice_get c.funs p.fun) refl named
  where
    nothing : number Instr.End ≡ Some d → ⊥
    nothing is = (let clash : None ≡ Some d = sym none ∙ is in cc)

    line : (fun : Fun) → slice_get c.funs p.fun ≡ Some fun → (o : Option Lined) → slice_get fun.code p.at ≡ o → number (instr_by o) ≡ Some d → HasLine number c p d
    line fun is None there named = absurd (nothing named)
    line fun is (Some l) there named = record {
      fun = fun;
      function = is;
      line = l;
      found = there;
      named = named;
      instr = ap (λ o. instr_by (slice_get (code_by o) p.at)) is ∙ ap instr_by there;
    }

    by : (o : Option Fun) → slice_get c.funs p.fun ≡ o → number (instr_by (slice_get (code_by o) p.at)) ≡ Some d → HasLine number c p d
    by None is named = absurd (nothing named)
    by (Some fun) is named = line fun is (slice_get fun.code p.at) refl named

-- numbers that count up are each at one point
one_point : (number : Instr → Option ℕ) (c : Code) (first : ℕ) (p q : Point) (d : ℕ) → number Instr.End ≡ None → IsCount first (numbers_in_funs number c.funs)
    → number (instr_at c p) ≡ Some d → number (instr_at c q) ≡ Some d → p ≡ q
one_point number c first p q d none count here there =
    let a = has_line number c p d none here in
    let b = has_line number c q d none there in
    let same = one_place number first c.funs p.fun q.fun a.fun b.fun p.at q.at a.line b.line d count a.function a.found b.function b.found a.named b.named in
    λ i. record { fun = same.0 i; at = same.1 i }

pub one_instruction_a_definition : OneInstructionADefinition
one_instruction_a_definition c good p q d here there = one_point new_def c (length c.globals + 1) p q d refl good.numbers.defs here there

pub one_instruction_a_read : OneInstructionARead
one_instruction_a_read c good p q r here there = one_point new_read c 1 p q r refl good.numbers.reads here there

-- Calls.

call_makes : (i : Instr) (d : ℕ) → new_call i ≡ Some d → new_def i ≡ Some d
call_makes (Instr.Call to f def args) d is = is
call_makes i d is = cc

-- who is listed among the calls is one
is_a_call : (c : Code) → GoodForm c → (p : Point) (d : ℕ) → new_def (instr_at c p) ≡ Some d → is_calls c d ≡ true → new_call (instr_at c p) ≡ Some d
is_a_call c good p d makes is =
    let r = listed new_call c.funs d is in
    let h = has_line new_def c p d refl makes in
    let one = one_place new_def (length c.globals + 1) c.funs r.f p.fun r.fun h.fun r.place.at p.at r.place.line h.line d good.numbers.defs r.function r.place.found h.function h.found
    (call_makes r.place.line.instr d r.place.named) h.named in
    let funs : Some r.fun ≡ Some h.fun = sym r.function ∙ ap (slice_get c.funs) one.0 ∙ h.function in
    let same : r.fun ≡ h.fun = cc in
    let lines : Some r.place.line ≡ Some h.line = sym r.place.found ∙ ap (λ (z : Fun). slice_get z.code r.place.at) same ∙ ap (slice_get h.fun.code) one.1 ∙ h.found in
    let alike : r.place.line ≡ h.line = cc in
    ap new_call h.instr ∙ ap (λ (z : Lined). new_call z.instr) (sym alike) ∙ r.place.named

pub calls_make_theirs : CallsMakeTheirs
calls_make_theirs c good p d makes = (
  is_a_call c good p d makes,
  λ call. (
      let h = has_line new_call c p d refl call in
      lists new_call c.funs p.fun h.fun p.at h.line d h.function h.found h.named),
)

pub starts_are_no_calls : StartsAreNoCalls
starts_are_no_calls c good d low = by (is_calls c d) refl
  where
    by : (b : Bool) → is_calls c d ≡ b → b ≡ false
    by false is = refl
    by true is =
        let r = listed new_call c.funs d is in
        let high = within_funs new_def (length c.globals + 1) c.funs r.f r.fun r.place.at r.place.line d good.numbers.defs r.function r.place.found (call_makes r.place.line.instr d r.place.named) in
        absurd (omega (arith, high, low))
