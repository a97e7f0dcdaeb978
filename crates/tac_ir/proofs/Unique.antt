-- A life has one path.
use Rattle.std.proofs.Common.{◌≡◌, ℕ, zero, suc, ◌+◌, List, [], ◌∷◌, length, Bool, true, false, refl, Option, Some, None, arith, sym, ◌∙◌, ap, ◌⊎◌, inl, inr}
use Rattle.tac_ir.specs.declared.code.Code.{Code}
use Rattle.tac_ir.specs.declared.run.Op.{Op}
use Rattle.tac_ir.specs.declared.run.Entry.{Entry}
use Rattle.tac_ir.specs.Layout.{instr_at}
use Rattle.tac_ir.specs.Effect.{Spot, is_last}
use Rattle.tac_ir.specs.Path.{Step, Start, next_spot, event_at, Takes, IsPath}
use Rattle.tac_ir.proofs.Trace.{onto, stride, trace}

-- after these steps the life has ended, or wants an answer
abbrev pub Halts : Code → Start → List Step → Type 0
Halts c s xs = (is_last (instr_at c (next_spot c s xs).point) ≡ true) ⊎ ((op : Op) × (event_at c s xs (next_spot c s xs) ≡ Some op))

-- a step takes its entry off those to come
took : (go : List Entry → List Step → List Step) (x : Step) (xs : List Step) (P : List Entry → Type 0) (own later : List Entry) (last : Bool) (event : Option Op)
    → last ≡ false → Takes event x P own
    → (older : List Entry) × (rest : List Entry) × P older × (onto own later ≡ onto older rest) × (stride go last event x.spot rest xs ≡ go later (x ∷ xs))
took go x xs P own later true event l t = absurd (cc)
took go x xs P own later false None l t = (own, later, t.1, refl, ap (λ a. go later (record { spot = x.spot; answer = a } ∷ xs)) (sym t.0))
took go x xs P [] later false (Some op) l t = absurd t
took go x xs P (e ∷ own) later false (Some op) l t = (own, e ∷ later, t.3, refl, ap (λ a. go later (record { spot = x.spot; answer = a } ∷ xs)) t.2)

-- a walk from the beginning comes along each path
walked : (c : Code) (s : Start) (xs : List Step) (own : List Entry) → IsPath c s xs own
    → (n : ℕ) (later : List Entry) → trace c s (length xs + n) (onto own later) [] ≡ trace c s n later xs
unfolding IsPath trace
walked c s [] own path n later =
    ap (λ k. trace c s k (onto own later) []) (omega arith) ∙ ap (λ o. trace c s n (onto o later) []) path
walked c s (x ∷ xs) own path n later =
    let t = took (trace c s n) x xs (IsPath c s xs) own later _ _ path.1 path.2 in
    let longer : suc (length xs) + n ≡ length xs + suc n = omega arith in
    ap (λ k. trace c s k (onto own later) []) longer
    ∙ ap (λ l. trace c s (length xs + suc n) l []) t.3
    ∙ walked c s xs t.0 t.2 (suc n) t.1
    ∙ ap (λ spot. stride (trace c s n) (is_last (instr_at c spot.point)) (event_at c s xs spot) spot t.1 xs) (sym path.0)
    ∙ t.4

-- without entries to come an event is not passed
stays : (go : List Entry → List Step → List Step) (last : Bool) (op : Op) (spot : Spot) (steps : List Step) → stride go last (Some op) spot [] steps ≡ steps
stays go true op spot steps = refl
stays go false op spot steps = refl

-- a walk goes no further than a halt
halted : (c : Code) (s : Start) (xs : List Step) → Halts c s xs → (n : ℕ) → trace c s n [] xs ≡ xs
unfolding trace
halted c s xs h zero = refl
halted c s xs (inl last) (suc n) =
    let spot = next_spot c s xs in
    ap (λ l. stride (trace c s n) l (event_at c s xs spot) spot [] xs) last
halted c s xs (inr wants) (suc n) =
    let spot = next_spot c s xs in
    ap (λ e. stride (trace c s n) (is_last (instr_at c spot.point)) e spot [] xs) wants.1 ∙ stays (trace c s n) _ wants.0 spot xs

-- by its entries a life comes to one halt, along one path
pub unique : (c : Code) (s : Start) (xs ys : List Step) (own : List Entry) → Halts c s xs → Halts c s ys → IsPath c s xs own → IsPath c s ys own → xs ≡ ys
unique c s xs ys own hx hy px py =
    let lengths : length xs + length ys ≡ length ys + length xs = omega arith in
    sym (halted c s xs hx (length ys))
    ∙ sym (walked c s xs own px (length ys) [])
    ∙ ap (λ k. trace c s k (onto own []) []) lengths
    ∙ walked c s ys own py (length xs) []
    ∙ halted c s ys hy (length xs)
