-- From an index in no branch control goes to indexes in no branch.
use Rattle.std.proofs.Common.{◌≡◌, ℕ, zero, suc, ◌+◌, ◌-◌, ◌≤◌, ◌<◌, List, [], ◌∷◌, ◌++◌, drop, get_or, Bool, true, false, refl, Some, arith, sym, ◌∙◌, ap, subst}
use Rattle.std.specs.Prelude.{nat_lt, nat_le, slice_get, All, Contains}
use Rattle.std.proofs.lemmas.Bool.{leb-true, leb-false}
use Rattle.std.proofs.lemmas.Option.{slice_get_within, slice_get-get_or}
use Rattle.std.proofs.lemmas.List.Elements.{Contains-append_left, Contains-append_right, Contains-push}
use Rattle.tac_ir.specs.declared.code.Code.{Code}
use Rattle.tac_ir.specs.declared.code.Instr.{Instr}
use Rattle.tac_ir.specs.declared.code.Lined.{Lined}
use Rattle.tac_ir.specs.Module.{is_chain}
use Rattle.tac_ir.specs.Regions.{Region, regions_of, regions_by, regions_from, IsInside}
use Rattle.tac_ir.specs.GoodForm.{all_targets_of, IsEnd, IsGoodFork, ForksWell, IsGoodCode}
use Rattle.tac_ir.proofs.regions.Counted.{HasEntry, IsOutside}
use Rattle.tac_ir.proofs.regions.Inside.{chain_rest, chain_above, entry_below, end_inside}

pub front_is : (xs ys : List ℕ) (k e : ℕ) → slice_get xs k ≡ Some e → slice_get (xs ++ ys) k ≡ Some e
front_is [] ys k e at = cc
front_is (x ∷ xs) ys zero e at = at
front_is (x ∷ xs) ys (suc k) e at = front_is xs ys k e at

-- what holds of all behind the first holds of a later one
pub later_one : (P : ℕ → Type 0) (entries ys : List ℕ) (k e : ℕ) → All P (drop 1 entries ++ ys) → slice_get entries (suc k) ≡ Some e → P e
later_one P [] ys k e all at = cc
later_one P (x ∷ xs) ys k e all at =
    let found = front_is xs ys k e at in
    let within = slice_get_within (xs ++ ys) k e found in
    let got : Some (get_or (xs ++ ys) k e) ≡ Some e = sym (slice_get-get_or (xs ++ ys) k e within) ∙ found in
    let same : get_or (xs ++ ys) k e ≡ e = cc in
    subst P same (all k e within)

pub fork_of : (c : Code) (f : ℕ) (code : List Lined) → IsGoodCode c f code → (p k e join : ℕ) (h : HasEntry code p k e join) → IsGoodFork code p join h.entries
fork_of c f code good p k e join h = subst (ForksWell code p) h.fork (good.instrs p h.line h.here).fork

pub entry_after : (entries : List ℕ) (join first k e : ℕ) → is_chain nat_lt (entries ++ join ∷ []) ≡ true → slice_get entries 0 ≡ Some first → slice_get entries k ≡ Some e → first ≤ e
entry_after [] join first k e chain start at = cc
entry_after (x ∷ xs) join first zero e chain start at =
    let a : x ≡ first = cc in
    let b : x ≡ e = cc in
    omega (arith, a, b)
entry_after (x ∷ xs) join first (suc k) e chain start at =
    let a : x ≡ first = cc in
    let above = chain_above x (xs ++ join ∷ []) chain k e (front_is xs (join ∷ []) k e at) in
    omega (arith, a, above)

-- the entry of a function is in no branch
pub start_outside : (c : Code) (f : ℕ) (code : List Lined) → IsGoodCode c f code → IsOutside code 0
start_outside c f code good p k e join h low high =
    let fork = fork_of c f code good p k e join h in
    let after = entry_after h.entries join (p + 1) k e fork.ascends fork.first h.entry in
    omega (arith, after, low)

pub same_line : (code : List Lined) (at p : ℕ) (l m : Lined) → slice_get code at ≡ Some l → slice_get code p ≡ Some m → p ≡ at → l ≡ m
same_line code at p l m here there same =
    let both : Some l ≡ Some m = sym here ∙ ap (slice_get code) (sym same) ∙ there in cc

-- the index behind an instruction that is no fork
pub next_outside : (c : Code) (f : ℕ) (code : List Lined) → IsGoodCode c f code → (at : ℕ) (l : Lined) → slice_get code at ≡ Some l
    → ((join : ℕ) (entries : List ℕ) → l.instr ≡ Instr.Fork join entries → ⊥) → IsOutside code at → IsOutside code (at + 1)
next_outside c f code good at l found no_fork outside p k e join h low high = by (nat_le e at) refl
  where
    fork : IsGoodFork code p join h.entries
    fork = fork_of c f code good p k e join h

    is_next : e ≡ at + 1 → (k : ℕ) → slice_get h.entries k ≡ Some e → ⊥
    is_next same zero entry =
        let starts : Some (p + 1) ≡ Some e = sym fork.first ∙ entry in
        let first : p + 1 ≡ e = cc in
        let one = same_line code at p l h.line found h.here (omega (arith, first, same)) in
        no_fork join h.entries (ap (λ (z : Lined). z.instr) one ∙ h.fork)
    is_next same (suc k) entry =
        let stop = later_one (λ behind. IsEnd code (behind - 1)) h.entries (join ∷ []) k e fork.ends entry in
        let here : e - 1 ≡ at = omega (arith, same) in
        end_inside c f code good (e - 1) stop.0 stop.1 stop.2 (subst (IsOutside code) (sym here) outside)

    by : (b : Bool) → nat_le e at ≡ b → ⊥
    by true is = outside p k e join h (leb-true e at is) (omega (arith, high))
    by false is = let above = leb-false e at is in is_next (omega (arith, above, low)) k h.entry

-- Targets.

-- the branch of a fork that has an index, behind one that begins at e
pub record HasBranchAt (p join : ℕ) (entries : List ℕ) (t e : ℕ) : Type 0 where
  pub region : Region
  pub listed : Contains (regions_of p join entries) region
  pub inside : IsInside region t
  pub fork : region.fork ≡ p
  pub index : ℕ
  pub entry : slice_get entries index ≡ Some region.entry
  pub before : region.last < join
  pub from : e ≤ region.entry

one_more : (p join x next : ℕ) (rest : List ℕ) (t e f : ℕ) → e ≤ f → HasBranchAt p join (next ∷ rest) t f → HasBranchAt p join (x ∷ next ∷ rest) t e
one_more p join x next rest t e f le m =
    let first : Region = record { fork = p; entry = x; last = next - 1 } in
    record {
      region = m.region;
      listed = Contains-append_right (first ∷ []) (regions_of p join (next ∷ rest)) m.region m.listed;
      inside = m.inside;
      fork = m.fork;
      index = suc m.index;
      entry = m.entry;
      before = m.before;
      from = (let later = m.from in omega (arith, le, later));
    }

pub branch_at : (p join : ℕ) (entries : List ℕ) (t k e : ℕ) → is_chain nat_lt (entries ++ join ∷ []) ≡ true → slice_get entries k ≡ Some e → e ≤ t → t < join → HasBranchAt p join entries t e
branch_at p join [] t k e chain at low high = cc
branch_at p join (x ∷ []) t (suc k) e chain at low high = cc
branch_at p join (x ∷ []) t zero e chain at low high =
    let same : x ≡ e = cc in
    record {
      region = record { fork = p; entry = x; last = join - 1 };
      listed = Contains-push [] (record { fork = p; entry = x; last = join - 1 });
      inside = record { low = omega (arith, same, low); high = omega (arith, high) };
      fork = refl;
      index = 0;
      entry = refl;
      before = omega (arith, high);
      from = omega (arith, same);
    }
branch_at p join (x ∷ next ∷ rest) t zero e chain at low high = by (nat_le next t) refl
    (λ start. branch_at p join (next ∷ rest) t 0 next (chain_rest x (next ∷ (rest ++ join ∷ [])) chain) refl start high)
  where
    same : x ≡ e
    same = cc

    below : next < join
    below = entry_below (x ∷ next ∷ rest) join 1 next chain refl

    first : Region
    first = record { fork = p; entry = x; last = next - 1 }

    by : (b : Bool) → nat_le next t ≡ b → (next ≤ t → HasBranchAt p join (next ∷ rest) t next) → HasBranchAt p join (x ∷ next ∷ rest) t e
    by true is more =
        let above = chain_above x (next ∷ (rest ++ join ∷ [])) chain 0 next refl in
        one_more p join x next rest t e next (omega (arith, same, above)) (more (leb-true next t is))
    by false is more =
        let above = leb-false next t is in
        record {
          region = first;
          listed = Contains-append_left (first ∷ []) (regions_of p join (next ∷ rest)) first (Contains-push [] first);
          inside = record { low = omega (arith, same, low); high = omega (arith, above) };
          fork = refl;
          index = 0;
          entry = refl;
          before = omega (arith, below, above);
          from = omega (arith, same);
        }
branch_at p join (x ∷ next ∷ rest) t (suc k) e chain at low high =
    one_more p join x next rest t e e (omega arith) (branch_at p join (next ∷ rest) t k e (chain_rest x (next ∷ (rest ++ join ∷ [])) chain) at low high)

pub listed_in : (q : ℕ) (code : List Lined) (p : ℕ) (l : Lined) (r : Region) → slice_get code p ≡ Some l → Contains (regions_by (q + p) l.instr) r → Contains (regions_from q code) r
listed_in q [] p l r found listed = cc
listed_in q (x ∷ code) zero l r found listed =
    let same : x ≡ l = cc in
    let here : q + zero ≡ q = omega arith in
    Contains-append_left (regions_by q x.instr) (regions_from (suc q) code) r
    (subst (λ (z : Lined). Contains (regions_by q z.instr) r) (sym same) (subst (λ n. Contains (regions_by n l.instr) r) here listed))
listed_in q (x ∷ code) (suc p) l r found listed =
    let here : q + suc p ≡ suc q + p = omega arith in
    Contains-append_right (regions_by q x.instr) (regions_from (suc q) code) r
    (listed_in (suc q) code p l r found (subst (λ n. Contains (regions_by n l.instr) r) here listed))

-- what an instruction in no branch names, but for the entries of a fork
pub target_outside : (c : Code) (f : ℕ) (code : List Lined) → IsGoodCode c f code → (at : ℕ) (l : Lined) → slice_get code at ≡ Some l → IsOutside code at
    → (j t : ℕ) → slice_get (all_targets_of l.instr) j ≡ Some t → ((join : ℕ) (entries : List ℕ) → l.instr ≡ Instr.Fork join entries → t < join → ⊥) → IsOutside code t
target_outside c f code good at l found outside j t named not_entry p k e join h low high =
    let fork = fork_of c f code good p k e join h in
    let b = branch_at p join h.entries t k e fork.ascends h.entry low high in
    let whole : p ≡ 0 + p = omega arith in
    let listed = listed_in 0 code p h.line b.region h.here
    (subst (λ n. Contains (regions_by n h.line.instr) b.region) whole (subst (λ i. Contains (regions_by p i) b.region) (sym h.fork) b.listed)) in
    let not_in : IsInside b.region at → ⊥ = λ i. outside p b.index b.region.entry join (record { line = h.line; here = h.here; entries = h.entries; fork = h.fork; entry = b.entry }) i.low (let up = i.high in let last = b.before in omega (arith, up, last)) in
    let all = good.regions.closed at l b.region found listed not_in in
    let within = slice_get_within (all_targets_of l.instr) j t named in
    let got : Some (get_or (all_targets_of l.instr) j t) ≡ Some t = sym (slice_get-get_or (all_targets_of l.instr) j t within) ∙ named in
    let same : get_or (all_targets_of l.instr) j t ≡ t = cc in
    let entered = subst (λ q. IsInside b.region q → (q ≡ b.region.entry) × (at ≡ b.region.fork)) same (all j t within) b.inside in
    let one = same_line code at p l h.line found h.here (sym b.fork ∙ sym entered.1) in
    not_entry join h.entries (ap (λ (z : Lined). z.instr) one ∙ h.fork) high
