-- Facts that are added, one definition behind another.
use Rattle.std.proofs.Common.{◌≡◌, ℕ, zero, suc, ◌+◌, ◌-◌, ◌<◌, ◌≤◌, List, [], ◌∷◌, ◌++◌, length, get_or, take, drop, map, refl, sym, ap, ◌∙◌, subst, arith, Bool, true, false, Option, Some, None}
use Rattle.std.specs.Prelude.{Err, filter, cond}
use Rattle.std.specs.List.{flat_map, range_with_len}
use Rattle.std.proofs.lemmas.List.{append_assoc, append-nil, length-append, length-take-le, take_more, take-append-drop, map-append}
use Rattle.std.proofs.lemmas.Option.{slice_get-get_or}
use Rattle.dfi_base.specs.Limits.{fact_limit}
use Rattle.tac_ir.specs.declared.code.Code.{Code}
use Rattle.tac_ir.specs.declared.code.Fun.{Fun}
use Rattle.tac_ir.specs.declared.code.Instr.{Instr}
use Rattle.tac_ir.specs.declared.code.Lined.{Lined}
use Rattle.tac_ir.specs.declared.module.Fact.{Fact}
use Rattle.tac_ir.specs.declared.module.PointsRow.{PointsRow}
use Rattle.tac_ir.specs.Accesses.{Access, accesses_in, accesses_in_funs, facts_by, leaves_defined, starting_accesses}
use Rattle.tac_ir.specs.Layout.{lines_of, instr_at}
use Rattle.tac_ir.specs.Nodes.{leaves_of_global}
use Rattle.tac_ir.specs.Numbers.{new_def}
use Rattle.flow_rules.specs.declared.rule.FactsFault.{FactsFault}
use Rattle.flow_rules.specs.PointNumber.{point_at}
use Rattle.flow_rules.specs.tools.Added.{facts_with, facts_of_instr, IsWithinLimit, IsAdded, AreStarts, AreOfLines, AreOfFuns}
use Rattle.flow_rules.proofs.Parallels.{lines_are}

-- Lists.

flat_append : {X A : Type 0} → (f : X → List A) (xs ys : List X) → flat_map f (xs ++ ys) ≡ flat_map f xs ++ flat_map f ys
flat_append f [] ys = refl
flat_append f (x ∷ xs) ys = ap (λ l. f x ++ l) (flat_append f xs ys) ∙ sym (append_assoc (f x) (flat_map f xs) (flat_map f ys))

pub range_split : (a n k : ℕ) → range_with_len a (n + k) ≡ range_with_len a n ++ range_with_len (a + n) k
range_split a zero k =
    let one : zero + k ≡ k = omega arith in
    let two : a + 0 ≡ a = omega arith in
    ap (range_with_len a) one ∙ ap (λ b. range_with_len b k) (sym two)
range_split a (suc n) k =
    let one : suc n + k ≡ suc (n + k) = omega arith in
    let two : a + 1 + n ≡ a + suc n = omega arith in
    ap (range_with_len a) one ∙ ap (λ l. a ∷ l) (range_split (a + 1) n k ∙ ap (λ b. range_with_len (a + 1) n ++ range_with_len b k) two)

front_short : {A : Type 0} → (xs ys : List A) → length xs ≤ length (xs ++ ys)
front_short xs ys = omega (arith, length-append xs ys)

-- What is added, in two parts.

pub added_next : (old part pairs one new : List Fact) → pairs ≡ old ++ part → new ≡ pairs ++ one → new ≡ old ++ (part ++ one)
added_next old part pairs one new before here = here ∙ ap (λ l. l ++ one) before ∙ append_assoc old part one

-- what is too much with a part is too much with all
pub too_much : (old part rest : List Fact) (r : ℕ) → r < length (old ++ part) → r < length (old ++ (part ++ rest))
too_much old part rest r h = omega (arith, h, length-append old part, length-append old (part ++ rest), length-append part rest)

-- Lines.

module _ (c : Code) (points : List PointsRow) where
  of_lines : ℕ → List Lined → List Fact
  of_lines f code = flat_map facts_by (accesses_in new_def (leaves_defined c points) f code)

  lines_append : (f : ℕ) (xs ys : List Lined) → accesses_in new_def (leaves_defined c points) f (xs ++ ys) ≡ accesses_in new_def (leaves_defined c points) f xs ++ accesses_in new_def (leaves_defined c points) f ys
  lines_append f [] ys = refl
  lines_append f (l ∷ xs) ys = by (new_def l.instr) (lines_append f xs ys)
    where
      by : (o : Option ℕ) → accesses_in new_def (leaves_defined c points) f (xs ++ ys) ≡ accesses_in new_def (leaves_defined c points) f xs ++ accesses_in new_def (leaves_defined c points) f ys
          → elim o as (λ z. List Access) [ Some n ↦ record { number = n; leaves = leaves_defined c points f l.instr } ∷ accesses_in new_def (leaves_defined c points) f (xs ++ ys) | None ↦ accesses_in new_def (leaves_defined c points) f (xs ++ ys) ]
          ≡ elim o as (λ z. List Access) [ Some n ↦ record { number = n; leaves = leaves_defined c points f l.instr } ∷ accesses_in new_def (leaves_defined c points) f xs | None ↦ accesses_in new_def (leaves_defined c points) f xs ]
          ++ accesses_in new_def (leaves_defined c points) f ys
      by None rest = rest
      by (Some n) rest = ap (λ (xs : List Access). record { number = n; leaves = leaves_defined c points f l.instr } ∷ xs) rest

  one_line : (f : ℕ) (l : Lined) → flat_map facts_by (accesses_in new_def (leaves_defined c points) f (l ∷ [])) ≡ facts_of_instr c points f l.instr
  one_line f l = by (new_def l.instr)
    where
      by : (o : Option ℕ) → flat_map facts_by (elim o as (λ z. List Access) [ Some n ↦ record { number = n; leaves = leaves_defined c points f l.instr } ∷ [] | None ↦ [] ])
          ≡ elim o as (λ z. List Fact) [ Some d ↦ facts_with d (leaves_defined c points f l.instr) | None ↦ [] ]
      by None = refl
      by (Some n) = append-nil (facts_with n (leaves_defined c points f l.instr))

  line_next : (f n : ℕ) → n < length (lines_of c f)
      → flat_map facts_by (accesses_in new_def (leaves_defined c points) f (take (n + 1) (lines_of c f)))
      ≡ flat_map facts_by (accesses_in new_def (leaves_defined c points) f (take n (lines_of c f))) ++ facts_of_instr c points f (instr_at c (point_at f n))
  line_next f n low =
      let code = lines_of c f in
      let line = get_or code n nothing in
      let instr : line.instr ≡ instr_at c (point_at f n) = sym (ap (λ (o : Option Lined). elim o as (λ z. Instr) [ None ↦ Instr.End | Some lined ↦ lined.instr ]) (slice_get-get_or code n nothing low)) in
      ap (λ xs. flat_map facts_by (accesses_in new_def (leaves_defined c points) f xs)) (take_more code n nothing low)
      ∙ ap (flat_map facts_by) (lines_append f (take n code) (line ∷ []))
      ∙ flat_append facts_by (accesses_in new_def (leaves_defined c points) f (take n code)) (accesses_in new_def (leaves_defined c points) f (line ∷ []))
      ∙ ap (λ l. flat_map facts_by (accesses_in new_def (leaves_defined c points) f (take n code)) ++ l) (one_line f line ∙ ap (facts_of_instr c points f) instr)
    where
      nothing : Lined
      nothing = record { line = 0; instr = Instr.End }

  line_rest : (f n : ℕ) → flat_map facts_by (accesses_in new_def (leaves_defined c points) f (lines_of c f))
      ≡ flat_map facts_by (accesses_in new_def (leaves_defined c points) f (take n (lines_of c f))) ++ flat_map facts_by (accesses_in new_def (leaves_defined c points) f (drop n (lines_of c f)))
  line_rest f n =
      ap (λ xs. flat_map facts_by (accesses_in new_def (leaves_defined c points) f xs)) (sym (take-append-drop n (lines_of c f))) ∙ ap (flat_map facts_by) (lines_append f (take n (lines_of c f)) (drop n (lines_of c f)))
      ∙ flat_append facts_by (accesses_in new_def (leaves_defined c points) f (take n (lines_of c f))) (accesses_in new_def (leaves_defined c points) f (drop n (lines_of c f)))

  pub line_step : (f n : ℕ) (old pairs new : List Fact) → n < length (lines_of c f) → AreOfLines c points f old pairs n → new ≡ pairs ++ facts_of_instr c points f (instr_at c (point_at f n)) → length new ≤ fact_limit
      → AreOfLines c points f old new (n + 1)
  line_step f n old pairs new low before here few = record {
    added = added_next old (flat_map facts_by (accesses_in new_def (leaves_defined c points) f (take n (lines_of c f)))) pairs (facts_of_instr c points f (instr_at c (point_at f n))) new before.added here
        ∙ ap (λ l. old ++ l) (sym (line_next f n low));
    few = few;
  }

  pub line_stop : (f n : ℕ) (old pairs new : List Fact) → n < length (lines_of c f) → AreOfLines c points f old pairs n → new ≡ pairs ++ facts_of_instr c points f (instr_at c (point_at f n)) → (fault : FactsFault) → IsWithinLimit new (Err fault)
      → IsAdded old (flat_map facts_by (accesses_in new_def (leaves_defined c points) f (lines_of c f))) new (Err fault)
  line_stop f n old pairs new low before here (FactsFault.Wide k) h =
      let part = flat_map facts_by (accesses_in new_def (leaves_defined c points) f (take (n + 1) (lines_of c f))) in
      let now : new ≡ old ++ part =
      added_next old (flat_map facts_by (accesses_in new_def (leaves_defined c points) f (take n (lines_of c f)))) pairs (facts_of_instr c points f (instr_at c (point_at f n))) new before.added here
      ∙ ap (λ l. old ++ l) (sym (line_next f n low)) in (
        h.0,
        subst (λ l. fact_limit < length (old ++ l)) (sym (line_rest f (n + 1)))
            (too_much old part (flat_map facts_by (accesses_in new_def (leaves_defined c points) f (drop (n + 1) (lines_of c f)))) fact_limit (subst (λ l. fact_limit < length l) now h.1)),
      )
  line_stop f n old pairs new low before here FactsFault.Memory h = absurd h

  -- Functions.

  funs_append : (f : ℕ) (xs ys : List Fun) → accesses_in_funs new_def (leaves_defined c points) f (xs ++ ys)
      ≡ accesses_in_funs new_def (leaves_defined c points) f xs ++ accesses_in_funs new_def (leaves_defined c points) (f + length xs) ys
  funs_append f [] ys = (let same : f ≡ f + 0 = omega arith in ap (λ k. accesses_in_funs new_def (leaves_defined c points) k ys) same)
  funs_append f (x ∷ xs) ys =
      let same : suc f + length xs ≡ f + suc (length xs) = omega arith in
      ap (λ l. accesses_in new_def (leaves_defined c points) f x.code ++ l) (funs_append (suc f) xs ys ∙ ap (λ k. accesses_in_funs new_def (leaves_defined c points) (suc f) xs ++ accesses_in_funs new_def (leaves_defined c points) k ys) same)
      ∙ sym (append_assoc (accesses_in new_def (leaves_defined c points) f x.code) (accesses_in_funs new_def (leaves_defined c points) (suc f) xs) (accesses_in_funs new_def (leaves_defined c points) (f + suc (length xs)) ys))

  fun_next : (n : ℕ) → n < length c.funs → flat_map facts_by (accesses_in_funs new_def (leaves_defined c points) 0 (take (n + 1) c.funs))
      ≡ flat_map facts_by (accesses_in_funs new_def (leaves_defined c points) 0 (take n c.funs)) ++ flat_map facts_by (accesses_in new_def (leaves_defined c points) n (lines_of c n))
  fun_next n low =
      let fun = get_or c.funs n nothing in
      let lines = lines_are c n fun (slice_get-get_or c.funs n nothing low) in
      let count : 0 + length (take n c.funs) ≡ n = omega (arith, length-take-le n c.funs (omega (arith, low))) in
      ap (λ xs. flat_map facts_by (accesses_in_funs new_def (leaves_defined c points) 0 xs)) (take_more c.funs n nothing low)
      ∙ ap (flat_map facts_by) (funs_append 0 (take n c.funs) (fun ∷ []))
      ∙ flat_append facts_by (accesses_in_funs new_def (leaves_defined c points) 0 (take n c.funs)) (accesses_in_funs new_def (leaves_defined c points) (0 + length (take n c.funs)) (fun ∷ []))
      ∙ ap (λ l. flat_map facts_by (accesses_in_funs new_def (leaves_defined c points) 0 (take n c.funs)) ++ flat_map facts_by l)
      (append-nil (accesses_in new_def (leaves_defined c points) (0 + length (take n c.funs)) fun.code) ∙ ap (λ k. accesses_in new_def (leaves_defined c points) k fun.code) count ∙ ap (accesses_in new_def (leaves_defined c points) n) (sym lines))
    where
      nothing : Fun
      nothing = record { params = 0; vars = []; code = []; line = 0 }

  fun_rest : (n : ℕ) → flat_map facts_by (accesses_in_funs new_def (leaves_defined c points) 0 c.funs)
      ≡ flat_map facts_by (accesses_in_funs new_def (leaves_defined c points) 0 (take n c.funs)) ++ flat_map facts_by (accesses_in_funs new_def (leaves_defined c points) (0 + length (take n c.funs)) (drop n c.funs))
  fun_rest n =
      ap (λ xs. flat_map facts_by (accesses_in_funs new_def (leaves_defined c points) 0 xs)) (sym (take-append-drop n c.funs)) ∙ ap (flat_map facts_by) (funs_append 0 (take n c.funs) (drop n c.funs))
      ∙ flat_append facts_by (accesses_in_funs new_def (leaves_defined c points) 0 (take n c.funs)) (accesses_in_funs new_def (leaves_defined c points) (0 + length (take n c.funs)) (drop n c.funs))

  pub fun_step : (n : ℕ) (old pairs new : List Fact) → n < length c.funs → AreOfFuns c points old pairs n
      → (new ≡ pairs ++ flat_map facts_by (accesses_in new_def (leaves_defined c points) n (lines_of c n))) × (length new ≤ fact_limit) → AreOfFuns c points old new (n + 1)
  fun_step n old pairs new low before here = record {
    added = added_next old (flat_map facts_by (accesses_in_funs new_def (leaves_defined c points) 0 (take n c.funs))) pairs (flat_map facts_by (accesses_in new_def (leaves_defined c points) n (lines_of c n))) new before.added here.0
        ∙ ap (λ l. old ++ l) (sym (fun_next n low));
    few = here.1;
  }

  pub fun_stop : (n : ℕ) (old pairs new : List Fact) → n < length c.funs → AreOfFuns c points old pairs n → (fault : FactsFault)
      → IsAdded pairs (flat_map facts_by (accesses_in new_def (leaves_defined c points) n (lines_of c n))) new (Err fault)
      → IsAdded old (flat_map facts_by (accesses_in_funs new_def (leaves_defined c points) 0 c.funs)) new (Err fault)
  fun_stop n old pairs new low before (FactsFault.Wide k) h =
      let part = flat_map facts_by (accesses_in_funs new_def (leaves_defined c points) 0 (take (n + 1) c.funs)) in
      let one = flat_map facts_by (accesses_in new_def (leaves_defined c points) n (lines_of c n)) in
      let now : pairs ++ one ≡ old ++ part =
      added_next old (flat_map facts_by (accesses_in_funs new_def (leaves_defined c points) 0 (take n c.funs))) pairs one (pairs ++ one) before.added refl ∙ ap (λ l. old ++ l) (sym (fun_next n low)) in (
        h.0,
        subst (λ l. fact_limit < length (old ++ l)) (sym (fun_rest (n + 1)))
            (too_much old part (flat_map facts_by (accesses_in_funs new_def (leaves_defined c points) (0 + length (take (n + 1) c.funs)) (drop (n + 1) c.funs))) fact_limit (subst (λ l. fact_limit < length l) now h.1)),
      )
  fun_stop n old pairs new low before FactsFault.Memory h = h

-- Starting definitions.

abbrev pub start_facts : Code → ℕ → List Fact
start_facts c v = facts_with (suc v) (leaves_of_global c v)

pub starts_flat : (c : Code) (first n : ℕ) → flat_map facts_by (map (λ v. record { number = suc v; leaves = leaves_of_global c v }) (range_with_len first n)) ≡ flat_map (start_facts c) (range_with_len first n)
starts_flat c first zero = refl
starts_flat c first (suc n) = ap (λ l. start_facts c first ++ l) (starts_flat c (first + 1) n)

start_next : (c : Code) (n : ℕ) → flat_map (start_facts c) (range_with_len 0 (n + 1)) ≡ flat_map (start_facts c) (range_with_len 0 n) ++ start_facts c n
start_next c n =
    let same : 0 + n ≡ n = omega arith in
    ap (flat_map (start_facts c)) (range_split 0 n 1) ∙ flat_append (start_facts c) (range_with_len 0 n) (range_with_len (0 + n) 1)
    ∙ ap (λ l. flat_map (start_facts c) (range_with_len 0 n) ++ l) (append-nil (start_facts c (0 + n)) ∙ ap (start_facts c) same)

pub start_step : (c : Code) (n : ℕ) (old pairs new : List Fact) → AreStarts c old pairs n → new ≡ pairs ++ facts_with (n + 1) (leaves_of_global c n) → length new ≤ fact_limit → AreStarts c old new (n + 1)
start_step c n old pairs new before here few =
    let same : n + 1 ≡ suc n = omega arith in
    record {
      added = added_next old (flat_map (start_facts c) (range_with_len 0 n)) pairs (start_facts c n) new before.added (here ∙ ap (λ k. pairs ++ facts_with k (leaves_of_global c n)) same) ∙ ap (λ l. old ++ l) (sym (start_next c n));
      few = few;
    }

pub start_stop : (c : Code) (n : ℕ) (old pairs new : List Fact) → n < length c.globals → AreStarts c old pairs n → new ≡ pairs ++ facts_with (n + 1) (leaves_of_global c n) → (fault : FactsFault) → IsWithinLimit new (Err fault)
    → IsAdded old (flat_map facts_by (starting_accesses c)) new (Err fault)
start_stop c n old pairs new low before here (FactsFault.Wide k) h =
    let same : n + 1 ≡ suc n = omega arith in
    let part = flat_map (start_facts c) (range_with_len 0 (n + 1)) in
    let rest = flat_map (start_facts c) (range_with_len (0 + (n + 1)) (length c.globals - (n + 1))) in
    let now : new ≡ old ++ part =
    added_next old (flat_map (start_facts c) (range_with_len 0 n)) pairs (start_facts c n) new before.added (here ∙ ap (λ k. pairs ++ facts_with k (leaves_of_global c n)) same) ∙ ap (λ l. old ++ l) (sym (start_next c n)) in
    let count : length c.globals ≡ (n + 1) + (length c.globals - (n + 1)) = omega (arith, low) in
    let all : flat_map facts_by (starting_accesses c) ≡ part ++ rest =
    starts_flat c 0 (length c.globals) ∙ ap (λ k. flat_map (start_facts c) (range_with_len 0 k)) count ∙ ap (flat_map (start_facts c)) (range_split 0 (n + 1) (length c.globals - (n + 1)))
    ∙ flat_append (start_facts c) (range_with_len 0 (n + 1)) (range_with_len (0 + (n + 1)) (length c.globals - (n + 1))) in
    (h.0, subst (λ l. fact_limit < length (old ++ l)) (sym all) (too_much old part rest fact_limit (subst (λ l. fact_limit < length l) now h.1)))
start_stop c n old pairs new low before here FactsFault.Memory h = absurd h

pub starts_done : (c : Code) (n : ℕ) (old new : List Fact) → length c.globals ≤ n → n ≤ length c.globals → AreStarts c old new n → (new ≡ old ++ flat_map facts_by (starting_accesses c)) × (length new ≤ fact_limit)
starts_done c n old new high low h =
    let same : n ≡ length c.globals = omega (arith, high, low) in
    (h.added ∙ ap (λ k. old ++ flat_map (start_facts c) (range_with_len 0 k)) same ∙ ap (λ l. old ++ l) (sym (starts_flat c 0 (length c.globals))), h.few)

-- Leaves of a range.

pub leaf_next : (test : ℕ → Bool) (d first n : ℕ) (b : Bool) → test (first + n) ≡ b
    → facts_with d (filter test (range_with_len first (n + 1))) ≡ facts_with d (filter test (range_with_len first n)) ++ facts_with d (cond b ((first + n) ∷ []) [])
leaf_next test d first n b is =
    ap (λ l. facts_with d (filter test l)) (range_split first n 1) ∙ ap (facts_with d) (filter_append (range_with_len first n) ((first + n) ∷ []) ∙ ap (λ t. filter test (range_with_len first n) ++ cond t ((first + n) ∷ []) []) is)
    ∙ map-append (λ leaf. record { def = d; leaf = leaf }) (filter test (range_with_len first n)) (cond b ((first + n) ∷ []) [])
  where
    filter_append : (xs ys : List ℕ) → filter test (xs ++ ys) ≡ filter test xs ++ filter test ys
    filter_append [] ys = refl
    filter_append (x ∷ xs) ys = by (test x) (filter_append xs ys)
      where
        by : (t : Bool) → filter test (xs ++ ys) ≡ filter test xs ++ filter test ys → cond t (x ∷ filter test (xs ++ ys)) (filter test (xs ++ ys)) ≡ cond t (x ∷ filter test xs) (filter test xs) ++ filter test ys
        by true rest = ap (λ l. x ∷ l) rest
        by false rest = rest

pub one_leaf : (test : ℕ → Bool) (d first leaf : ℕ) (old pairs new : List Fact) → first ≤ leaf → pairs ≡ old ++ facts_with d (filter test (range_with_len first (leaf - first))) → (b : Bool) → test leaf ≡ b
    → new ≡ pairs ++ facts_with d (cond b (leaf ∷ []) []) → new ≡ old ++ facts_with d (filter test (range_with_len first (leaf + 1 - first)))
one_leaf test d first leaf old pairs new low before b is here =
    let at : leaf ≡ first + (leaf - first) = omega (arith, low) in
    let next : leaf + 1 - first ≡ leaf - first + 1 = omega (arith, low) in
    let step = leaf_next test d first (leaf - first) b (ap test (sym at) ∙ is) in
    added_next old (facts_with d (filter test (range_with_len first (leaf - first)))) pairs (facts_with d (cond b (leaf ∷ []) [])) new before here
    ∙ ap (λ z. old ++ (facts_with d (filter test (range_with_len first (leaf - first))) ++ facts_with d (cond b (z ∷ []) []))) at ∙ ap (λ l. old ++ l) (sym step) ∙ ap (λ k. old ++ facts_with d (filter test (range_with_len first k))) (sym next)
