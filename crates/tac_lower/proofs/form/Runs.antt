-- Runs of drafts: each takes the next numbers, and names temporaries up to the next.
use Rattle.std.proofs.Common.{◌≡◌, ℕ, suc, ◌+◌, ◌≤◌, max, List, [], ◌∷◌, ◌++◌, Option, Some, None, refl, sym, subst, arith}
use Rattle.tac_ir.specs.Counts.{temps_named, past}
use Rattle.tac_ir.specs.Numbers.{new_def, new_read}
use Rattle.tac_lower.specs.declared.draft.Numbers.{Numbers}
use Rattle.tac_lower.specs.declared.draft.Taken.{Taken}
use Rattle.tac_lower.specs.declared.draft.Draft.{Draft}
use Rattle.tac_lower.specs.declared.draft.Ends.{Ends}
use Rattle.tac_lower.specs.Parts.{Part, given, behind, one, chained, from_here, within, in_turn, gathered, ◌▷◌, ◌⨟◌}

-- the next number is taken, or none
abbrev pub Takes : Option ℕ → ℕ → ℕ → Type 0
Takes None n m = m ≡ n
Takes (Some k) n m = (k ≡ n) × (m ≡ n + 1)

abbrev pub UpTo : ℕ → List ℕ → Type 0
UpTo m [] = Unit {0}
UpTo m (a ∷ rest) = (a ≤ m) × UpTo m rest

pub record IsStep (n : Numbers) (d : Draft) (m : Numbers) : Type 0 where
  pub at : m.at ≡ n.at + 1
  pub up : n.temp ≤ m.temp
  pub most : m.temp ≤ n.temp + 1
  pub temps : UpTo m.temp (temps_named d.instr)
  -- what is handed out is named
  pub reach : m.temp ≤ past n.temp (temps_named d.instr)
  pub def : Takes (new_def d.instr) n.def m.def
  pub read : Takes (new_read d.instr) n.read m.read

pub past_up : (least : ℕ) (xs : List ℕ) → least ≤ past least xs
past_up least [] = omega arith
past_up least (x ∷ xs) = (let rest = past_up (max least (suc x)) xs in omega arith)

abbrev pub Run : Numbers → List Draft → Numbers → Type 0
Run n [] m = n ≡ m
Run n (d ∷ ds) m = (k : Numbers) × IsStep n d k × Run k ds m

pub run_append : (n : Numbers) (ds es : List Draft) (k m : Numbers) → Run n ds k → Run k es m → Run n (ds ++ es) m
run_append n [] es k m same r = subst (λ x. Run x es m) (sym same) r
run_append n (d ∷ ds) es k m (j, s, rest) r = (j, s, run_append j ds es k m rest r)

pub run_up : (n : Numbers) (ds : List Draft) (m : Numbers) → Run n ds m → n.temp ≤ m.temp
run_up n [] m same = subst (λ x. n.temp ≤ x.temp) same (omega arith)
run_up n (d ∷ ds) m (j, s, rest) = (let r = run_up j ds m rest in let u = s.up in omega arith)

-- A piece is steady where its inputs are temporaries up to m: so is what it leaves.
pub record Steady {A : Type 0} (Left : ℕ → A → Type 0) (m : ℕ) (p : Part A) : Type 0 where
  pub run : (ends : Ends) (n : Numbers) → m ≤ n.temp → Run n (p.make ends n).drafts (p.make ends n).next
  pub left : (ends : Ends) (n : Numbers) → m ≤ n.temp → Left (p.make ends n).next.temp (p.make ends n).result

abbrev pub Up : ℕ → ℕ → Type 0
Up m a = a ≤ m

abbrev pub Steps : ℕ → Part ℕ → Type 0
Steps m p = Steady Up m p

pub steady_more : {A : Type 0} {Left : ℕ → A → Type 0} (m k : ℕ) (p : Part A) → m ≤ k → Steady Left m p → Steady Left k p
steady_more m k p h is = record { run = λ ends n up. is.run ends n (omega arith); left = λ ends n up. is.left ends n (omega arith) }

pub steady_chained : {A B : Type 0} {LeftA : ℕ → A → Type 0} {LeftB : ℕ → B → Type 0} (m : ℕ) (any : A) (p : Part A) (q : A → Part B)
    → Steady LeftA m p → ((k : ℕ) (a : A) → m ≤ k → LeftA k a → Steady LeftB k (q a)) → Steady LeftB m (chained any p q)
steady_chained {A} {B} {LeftA} {LeftB} m any p q is that = record {
  run = λ ends n h.
      let a = p.make ends n in
      let first = is.run ends n h in
      let up : m ≤ a.next.temp = (let r = run_up n a.drafts a.next first in omega arith) in
      let b = (q a.result).make ends a.next in
      run_append n a.drafts b.drafts a.next b.next first ((that a.next.temp a.result up (is.left ends n h)).run ends a.next (omega arith));
  left = λ ends n h.
      let a = p.make ends n in
      let up : m ≤ a.next.temp = (let r = run_up n a.drafts a.next (is.run ends n h) in omega arith) in
      (that a.next.temp a.result up (is.left ends n h)).left ends a.next (omega arith);
}

pub steps_then : {B : Type 0} {LeftB : ℕ → B → Type 0} (m : ℕ) (p : Part ℕ) (q : ℕ → Part B)
    → Steps m p → ((k a : ℕ) → m ≤ k → a ≤ k → Steady LeftB k (q a)) → Steady LeftB m (p ▷ q)
steps_then m p q is that = steady_chained m 0 p q is that

pub steps_next : {B : Type 0} {LeftB : ℕ → B → Type 0} (m : ℕ) (p : Part ℕ) (q : Part B) → Steps m p → Steady LeftB m q → Steady LeftB m (p ⨟ q)
steps_next m p q is that = steady_chained m 0 p (λ a. q) is (λ k a h left. steady_more m k q h that)

pub steady_given : {A : Type 0} {Left : ℕ → A → Type 0} (m : ℕ) (a : A) → ((k : ℕ) → m ≤ k → Left k a) → Steady Left m (given a)
steady_given m a left = record { run = λ ends n h. refl; left = λ ends n h. left n.temp h }

pub steps_one : (m : ℕ) (k : Taken) (draft : Numbers → Draft) → ((n : Numbers) → m ≤ n.temp → IsStep n (draft n) (behind k n)) → Steps m (one k draft)
steps_one m k draft is = record {
  run = λ ends n h. (behind k n, is n h, refl);
  left = λ ends n h. (is n h).up;
}

pub steady_from_here : {A : Type 0} {Left : ℕ → A → Type 0} (m : ℕ) (p : ℕ → Part A) → ((at : ℕ) → Steady Left m (p at)) → Steady Left m (from_here p)
steady_from_here m p is = record { run = λ ends n h. (is n.at).run ends n h; left = λ ends n h. (is n.at).left ends n h }

pub steady_within : {A : Type 0} {Left : ℕ → A → Type 0} (m : ℕ) (ends : Ends) (p : Part A) → Steady Left m p → Steady Left m (within ends p)
steady_within m ends p is = record { run = λ outer n h. is.run ends n h; left = λ outer n h. is.left ends n h }

-- Lists of pieces.
abbrev pub AllSteps : ℕ → List (Part ℕ) → Type 0
AllSteps m [] = Unit {0}
AllSteps m (p ∷ ps) = Steps m p × AllSteps m ps

pub steps_in_turn : (m : ℕ) (ps : List (Part ℕ)) → AllSteps m ps → Steps m (in_turn ps)
steps_in_turn m [] all = steady_given m 0 (λ k h. omega arith)
steps_in_turn m (p ∷ ps) all = steps_next m p (in_turn ps) all.0 (steps_in_turn m ps all.1)

up_append : (m : ℕ) (xs ys : List ℕ) → UpTo m xs → UpTo m ys → UpTo m (xs ++ ys)
up_append m [] ys is that = that
up_append m (a ∷ xs) ys is that = (is.0, up_append m xs ys is.1 that)

pub up_more : (m k : ℕ) (xs : List ℕ) → m ≤ k → UpTo m xs → UpTo k xs
up_more m k [] h is = tt
up_more m k (a ∷ xs) h is = (let first = is.0 in omega arith, up_more m k xs h is.1)

pub all_more : (m k : ℕ) (ps : List (Part ℕ)) → m ≤ k → AllSteps m ps → AllSteps k ps
all_more m k [] h all = tt
all_more m k (p ∷ ps) h all = (steady_more m k p h all.0, all_more m k ps h all.1)

pub steady_gathered : (m : ℕ) (temps : List ℕ) (ps : List (Part ℕ)) → UpTo m temps → AllSteps m ps → Steady UpTo m (gathered temps ps)
steady_gathered m temps [] is all = steady_given m temps (λ k h. up_more m k temps h is)
steady_gathered m temps (p ∷ ps) is all =
    steps_then m p (λ a. gathered (temps ++ a ∷ []) ps) all.0
    (λ k a h left. steady_gathered k (temps ++ a ∷ []) ps (up_append k temps (a ∷ []) (up_more m k temps h is) (left, tt)) (all_more m k ps h all.1))
