-- What a run of drafts says of its lines: definitions and reads count up, temporaries are few.
use Rattle.std.proofs.Common.{◌≡◌, ℕ, suc, ◌+◌, ◌<◌, ◌≤◌, max, List, [], ◌∷◌, ◌++◌, map, length, Option, Some, None, refl, ap, sym, ◌∙◌, subst, arith}
use Rattle.c_typed.specs.declared.types.ObjectType.{ObjectType}
use Rattle.tac_ir.specs.declared.code.Instr.{Instr}
use Rattle.tac_ir.specs.Counts.{temps_named, past, temps_in}
use Rattle.tac_ir.specs.Numbers.{new_def, new_read, numbers_in, IsCount}
use Rattle.tac_lower.specs.declared.draft.Numbers.{Numbers}
use Rattle.tac_lower.specs.declared.draft.Draft.{Draft}
use Rattle.tac_lower.specs.CodeOf.{shaped, finished}
use Rattle.tac_lower.proofs.form.Runs.{Takes, UpTo, IsStep, Run, run_up}

-- the numbers from n on, up to m
abbrev pub Tally : ℕ → List ℕ → ℕ → Type 0
Tally n [] m = m ≡ n
Tally n (x ∷ xs) m = (x ≡ n) × Tally (n + 1) xs m

pub tally_append : (n k m : ℕ) (xs ys : List ℕ) → Tally n xs k → Tally k ys m → Tally n (xs ++ ys) m
tally_append n k m [] ys same rest = subst (λ j. Tally j ys m) same rest
tally_append n k m (x ∷ xs) ys (is, more) rest = (is, tally_append (n + 1) k m xs ys more rest)

pub tally_count : (n m : ℕ) (xs : List ℕ) → Tally n xs m → IsCount n xs
tally_count n m [] same = refl
tally_count n m (x ∷ xs) (is, more) =
    ap (λ y. y ∷ xs) is ∙ ap (λ ys. n ∷ ys) (tally_count (n + 1) m xs more)

-- A shape's number changes none of these.
pub def-shaped : (shape : ObjectType → ℕ) (i : Instr) (o : Option ObjectType) → new_def (shaped shape i o) ≡ new_def i
def-shaped shape (Instr.Field to a s k) (Some t) = refl
def-shaped shape (Instr.Field to a s k) None = refl
def-shaped shape (Instr.Decay to a s) (Some t) = refl
def-shaped shape (Instr.Decay to a s) None = refl
def-shaped shape i o = refl

pub read-shaped : (shape : ObjectType → ℕ) (i : Instr) (o : Option ObjectType) → new_read (shaped shape i o) ≡ new_read i
read-shaped shape (Instr.Field to a s k) (Some t) = refl
read-shaped shape (Instr.Field to a s k) None = refl
read-shaped shape (Instr.Decay to a s) (Some t) = refl
read-shaped shape (Instr.Decay to a s) None = refl
read-shaped shape i o = refl

temps-shaped : (shape : ObjectType → ℕ) (i : Instr) (o : Option ObjectType) → temps_named (shaped shape i o) ≡ temps_named i
temps-shaped shape (Instr.Field to a s k) (Some t) = refl
temps-shaped shape (Instr.Field to a s k) None = refl
temps-shaped shape (Instr.Decay to a s) (Some t) = refl
temps-shaped shape (Instr.Decay to a s) None = refl
temps-shaped shape i o = refl

-- Definitions and reads.
tally_step : (o : Option ℕ) (n k m : ℕ) (xs : List ℕ) → Takes o n k → Tally k xs m → Tally n (elim o [ Some x ↦ x ∷ xs | None ↦ xs ]) m
tally_step None n k m xs same rest = subst (λ j. Tally j xs m) same rest
tally_step (Some x) n k m xs (is, next) rest = (is, subst (λ j. Tally j xs m) next rest)

pub run_tally : (number : Instr → Option ℕ) (part : Numbers → ℕ) (shape : ObjectType → ℕ)
    → ((i : Instr) (o : Option ObjectType) → number (shaped shape i o) ≡ number i)
    → ((n : Numbers) (d : Draft) (m : Numbers) → IsStep n d m → Takes (number d.instr) (part n) (part m))
    → (n : Numbers) (ds : List Draft) (m : Numbers) → Run n ds m → Tally (part n) (numbers_in number (map (finished shape) ds)) (part m)
run_tally number part shape same takes n [] m is = sym (ap part is)
run_tally number part shape same takes n (d ∷ ds) m (k, step, rest) =
    let more = run_tally number part shape same takes k ds m rest in
    tally_step (number (shaped shape d.instr d.object)) (part n) (part k) (part m) (numbers_in number (map (finished shape) ds))
    (subst (λ o. Takes o (part n) (part k)) (sym (same d.instr d.object)) (takes n d k step)) more

-- Temporaries.
past_most : (least most b : ℕ) (xs : List ℕ) → least ≤ b → most < b → UpTo most xs → past least xs ≤ b
past_most least most b [] h k is = h
past_most least most b (x ∷ xs) h k is = (let first = is.0 in past_most (max least (suc x)) most b xs (omega arith) k is.1)

temps_most : (shape : ObjectType → ℕ) (least : ℕ) (n : Numbers) (ds : List Draft) (m : Numbers) (b : ℕ) → Run n ds m → least ≤ b → m.temp < b → temps_in least (map (finished shape) ds) ≤ b
temps_most shape least n [] m b is h k = h
temps_most shape least n (d ∷ ds) m b (j, step, rest) h k =
    let up = run_up j ds m rest in
    temps_most shape (past least (temps_named (shaped shape d.instr d.object))) j ds m b rest
    (past_most least j.temp b (temps_named (shaped shape d.instr d.object)) h (omega arith) (subst (λ xs. UpTo j.temp xs) (sym (temps-shaped shape d.instr d.object)) step.temps)) k

run_most : (n : Numbers) (ds : List Draft) (m : Numbers) → Run n ds m → m.temp ≤ n.temp + length ds
run_most n [] m is = subst (λ x. x.temp ≤ n.temp + 0) is (omega arith)
run_most n (d ∷ ds) m (j, step, rest) = (let more = run_most j ds m rest in let most = step.most in omega arith)

pub run_temps : (shape : ObjectType → ℕ) (n : Numbers) (ds : List Draft) (m : Numbers) → Run n ds m → temps_in n.temp (map (finished shape) ds) ≤ n.temp + length ds + 1
run_temps shape n ds m is = (let most = run_most n ds m is in temps_most shape n.temp n ds m (n.temp + length ds + 1) is (omega arith) (omega arith))

past_more : (a b : ℕ) (xs : List ℕ) → a ≤ b → past a xs ≤ past b xs
past_more a b [] h = h
past_more a b (x ∷ xs) h = past_more (max a (suc x)) (max b (suc x)) xs (omega arith)

-- the temporaries that a run hands out are among those that its lines name
pub run_reach : (shape : ObjectType → ℕ) (least : ℕ) (n : Numbers) (ds : List Draft) (m : Numbers) → Run n ds m → n.temp ≤ least → m.temp ≤ temps_in least (map (finished shape) ds)
run_reach shape least n [] m is h = subst (λ x. x.temp ≤ least) is h
run_reach shape least n (d ∷ ds) m (j, step, rest) h =
    let more = past_more n.temp least (temps_named d.instr) h in
    let here = step.reach in
    let next : j.temp ≤ past least (temps_named (shaped shape d.instr d.object)) = subst (λ xs. j.temp ≤ past least xs) (sym (temps-shaped shape d.instr d.object)) (let up : j.temp ≤ past least (temps_named d.instr) = omega arith in up) in
    run_reach shape (past least (temps_named (shaped shape d.instr d.object))) j ds m rest next
