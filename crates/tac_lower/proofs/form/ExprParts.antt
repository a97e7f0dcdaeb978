-- Parts of expressions hold where they stand.
use Rattle.std.proofs.Common.{◌≡◌, ℕ, ◌+◌, ◌≤◌, inl, Bool, true, false, pos, List, [], ◌∷◌, ◌++◌, length, refl, arith}
use Rattle.std.proofs.lemmas.List.{length-append}
use Rattle.c_ast.specs.declared.expr.BinaryOp.{BinaryOp}
use Rattle.c_typed.specs.declared.types.ObjectType.{ObjectType}
use Rattle.c_typed.specs.declared.types.ExprType.{ExprType}
use Rattle.c_typed.specs.declared.expr.PrefixOp.{PrefixOp}
use Rattle.c_typed.specs.declared.program.Struct.{Struct}
use Rattle.c_typed.specs.Types.{words_of}
use Rattle.c_typed.specs.IsWell.{IsObject, IsTyping}
use Rattle.tac_ir.specs.declared.code.UnOp.{UnOp}
use Rattle.tac_ir.specs.declared.code.Place.{Place}
use Rattle.tac_lower.specs.declared.draft.Numbers.{Numbers}
use Rattle.tac_lower.specs.declared.draft.Ends.{Ends}
use Rattle.c_typed.specs.Elaboration as elaboration
use Rattle.c_typed.specs.Elaboration.{Truth, truth_of, Operation}
use Rattle.tac_lower.specs.Parts.{Part, given, gathered, ◌▷◌, ◌⨟◌}
use Rattle.tac_lower.specs.Instrs.{constant, null, prefixed, index, same, test, test_past, skip, zero_again}
use Rattle.tac_lower.specs.Values.{Yield, direct, left, onward, temp, against_null, truth_as, negation, prefix, operator, carried, settled, both, either}
use Rattle.tac_lower.proofs.emitted.Chains.{gathered_counts}
use Rattle.tac_lower.proofs.form.Zones.{top_behind}
use Rattle.tac_lower.proofs.form.Holds.{World, Anywhere, Holds, holds_chained, holds_then, holds_next, holds_given, top_chained}
use Rattle.tac_lower.proofs.form.Names.{IsPlaceOf}
use Rattle.tac_lower.proofs.form.Fits.{constant_holds, null_holds, prefixed_holds, computed_holds, index_holds, same_holds, zero_holds, goto_holds, test_holds, test_past_holds}

pub gathered_length : (ends : Ends) (n : Numbers) (temps : List ℕ) (ps : List (Part ℕ)) → length ((gathered temps ps).make ends n).result ≡ length temps + length ps
gathered_length ends n temps [] = omega arith
gathered_length ends n temps (p ∷ ps) =
    let a = p.make ends n in
    omega (arith, gathered_length ends a.next (temps ++ a.result ∷ []) ps, length-append temps (a.result ∷ []))

-- The words of an item are at least one.
abbrev pub HasItems : Operation → Type 0
HasItems (Operation.move_up words) = 1 ≤ words
HasItems (Operation.move_right_up words) = 1 ≤ words
HasItems (Operation.move_down words) = 1 ≤ words
HasItems p = Unit {0}

module _ (structs : List Struct) (sizes : List ℕ) (some : (t : ObjectType) → IsObject structs t → 1 ≤ words_of sizes t) where
  sum_items : (s u : ExprType) → IsTyping structs s → IsTyping structs u → HasItems (elaboration.sum sizes s u)
  sum_items (ExprType.Pointer t) u is that = some t is
  sum_items s (ExprType.Pointer u) is that = some u that
  sum_items s u is that = tt

  difference_items : (s : ExprType) → IsTyping structs s → HasItems (elaboration.difference sizes s)
  difference_items (ExprType.Pointer t) is = some t is
  difference_items s is = tt

  same_items : (op : BinaryOp) (s : ExprType) → HasItems (elaboration.equality op Operation.same_pointers s)
  same_items op ExprType.Int = tt
  same_items op s = tt

  other_items : (op : BinaryOp) (s : ExprType) → HasItems (elaboration.equality op Operation.other_pointers s)
  other_items op ExprType.Int = tt
  other_items op s = tt

  pub operation_items : (op : BinaryOp) (s u : ExprType) → IsTyping structs s → IsTyping structs u → HasItems (elaboration.operation sizes op s u)
  operation_items BinaryOp.Add s u is that = sum_items s u is that
  operation_items BinaryOp.Sub s u is that = difference_items s is
  operation_items BinaryOp.Equal s u is that = same_items _ s
  operation_items BinaryOp.NotEqual s u is that = other_items _ s
  operation_items op s u is that = tt

module _ (w : World) (b : Bool) (outs : Ends → ℕ → Type 0) where
  abbrev pub Piece : {A : Type 0} → Part A → Type 0
  Piece p = Holds w b (Anywhere outs) p

  -- a place that exists, or a piece
  abbrev pub YieldHolds : ExprType → Yield → Type 0
  YieldHolds s (direct p) = (t : ObjectType) × (s ≡ ExprType.Place t) × IsPlaceOf w p t
  YieldHolds s (left p) = Piece p

  pub onward_holds : {B : Type 0} (s : ExprType) (y : Yield) (d : Place → Part B) (l : ℕ → Part B) → YieldHolds s y
      → ((p : Place) (t : ObjectType) → s ≡ ExprType.Place t → IsPlaceOf w p t → Piece (d p)) → ((a : ℕ) → Piece (l a)) → ((a : ℕ) → (l a).points ≡ (l 0).points) → Piece (onward d l y)
  onward_holds s (direct p) d l is at that same = at p is.0 is.1 is.2
  onward_holds s (left p) d l is at that same = holds_then w b outs p l is that same

  pub temp_holds : (s : ExprType) (y : Yield) → YieldHolds s y → Piece (temp y)
  temp_holds s (direct p) is = holds_given w b (Anywhere outs) 0
  temp_holds s (left p) is = is

  against_holds : (line : ℕ) (ne : Bool) (a : ℕ) → Piece (against_null line ne a)
  against_holds line ne a = holds_then w b outs (null line) (λ n. same line ne a n) (null_holds w b (Anywhere outs) line) (λ n. same_holds w b (Anywhere outs) line ne a n) (λ n. refl)

  pub truth_as_holds : (line : ℕ) (int : Truth) (a : ℕ) → Piece (truth_as line int a)
  truth_as_holds line Truth.not_zero a = holds_given w b (Anywhere outs) a
  truth_as_holds line Truth.not_null a = against_holds line true a

  negation_holds : (line : ℕ) (int : Truth) (a : ℕ) → Piece (negation line int a)
  negation_holds line Truth.not_zero a = prefixed_holds w b (Anywhere outs) line UnOp.Not a
  negation_holds line Truth.not_null a = against_holds line false a

  pub prefix_holds : (line : ℕ) (op : PrefixOp) (t : ExprType) (a : ℕ) → Piece (prefix line op t a)
  prefix_holds line PrefixOp.Minus t a = prefixed_holds w b (Anywhere outs) line UnOp.Neg a
  prefix_holds line PrefixOp.Complement t a = prefixed_holds w b (Anywhere outs) line UnOp.Com a
  prefix_holds line PrefixOp.Not t a = negation_holds line (truth_of t) a

  pub carried_holds : (line : ℕ) (p : Operation) (x y : ℕ) → HasItems p → Piece (carried line p x y)
  carried_holds line (Operation.words op) x y is = computed_holds w b (Anywhere outs) line (operator op) x y
  carried_holds line (Operation.move_up words) x y is = index_holds w b (Anywhere outs) line words x y is
  carried_holds line (Operation.move_right_up words) x y is = index_holds w b (Anywhere outs) line words y x is
  carried_holds line (Operation.move_down words) x y is =
      holds_then w b outs (prefixed line UnOp.Neg y) (λ n. index line words x n) (prefixed_holds w b (Anywhere outs) line UnOp.Neg y) (λ n. index_holds w b (Anywhere outs) line words x n is) (λ n. refl)
  carried_holds line Operation.same_pointers x y is = same_holds w b (Anywhere outs) line false x y
  carried_holds line Operation.other_pointers x y is = same_holds w b (Anywhere outs) line true x y

  -- Two tests and one result.
  skipped_holds : (line t : ℕ) → Piece (skip line 1 ⨟ zero_again line t)
  skipped_holds line t =
      holds_chained w b (λ ends lo t. t ≡ lo + 1 + 1) (Anywhere outs) (Anywhere outs) 0 (skip line 1) (λ a. zero_again line t) (goto_holds w b line (λ at. at + 1 + 1))
      (λ ends n. holds_next w b outs _ (given t) (zero_holds w b (Anywhere outs) line t) (holds_given w b (Anywhere outs) t)) (λ ends n. refl)
      (λ ends n t e. inl (omega arith, omega arith, tt)) (λ ends n t o. o)

  settled_holds : (line y : ℕ) → Piece (settled line y)
  settled_holds line y =
      let rest = λ (a : ℕ). constant line (pos 1) ▷ λ t. skip line 1 ⨟ zero_again line t in
      holds_chained w b (λ ends lo t. t ≡ lo + 1 + 2) (Anywhere outs) (Anywhere outs) 0 (test line y 2) rest (test_holds w b line y 2)
      (λ ends n. holds_then w b outs (constant line (pos 1)) (λ t. skip line 1 ⨟ zero_again line t) (constant_holds w b (Anywhere outs) line (pos 1)) (λ t. skipped_holds line t) (λ t. refl))
      (λ ends n. refl) (λ ends n t e. inl (omega arith, omega arith, tt)) (λ ends n t o. o)

  -- the second operand and what settles it, behind a test that goes so far past it
  decided_holds : (line past : ℕ) (first p : Part ℕ) → past ≤ 4 → first.points ≡ 1 → Holds w b (λ ends lo t. t ≡ lo + 1 + (p.points + past)) first → Piece p → Piece (first ⨟ p ▷ settled line)
  decided_holds line past first p few count is that =
      holds_chained w b (λ ends lo t. t ≡ lo + 1 + (p.points + past)) (Anywhere outs) (Anywhere outs) 0 first (λ a. p ▷ settled line) is
      (λ ends n. holds_then w b outs p (settled line) that (λ y. settled_holds line y) (λ y. refl)) (λ ends n. refl)
      (λ ends n t e.
      let next = (first.make ends n).next in
      let at = is.keeps.at ends n in
      inl (
        omega arith,
        omega arith,
        top_chained w 0 p (settled line) ends next t that.keeps
            (top_behind next.at (next.at + p.points) t _ (omega arith) (that.keeps.held ends next)) tt,
      )) (λ ends n t o. o)

  pub both_holds : (line : ℕ) (p q : Part ℕ) → Piece p → Piece q → Piece (both line p q)
  both_holds line p q is that =
      holds_then w b outs p (λ x. test line x (q.points + 3) ⨟ q ▷ settled line) is
      (λ x. decided_holds line 3 (test line x (q.points + 3)) q (omega arith) refl (test_holds w b line x (q.points + 3)) that) (λ x. refl)

  pub either_holds : (line : ℕ) (p q : Part ℕ) → Piece p → Piece q → Piece (either line p q)
  either_holds line p q is that =
      holds_then w b outs p (λ x. test_past line x (q.points + 1) ⨟ q ▷ settled line) is
      (λ x. decided_holds line 1 (test_past line x (q.points + 1)) q (omega arith) refl (test_past_holds w b line x (q.points + 1)) that) (λ x. refl)

  -- Lists of pieces.
  abbrev pub AllHold : List (Part ℕ) → Type 0
  AllHold [] = Unit {0}
  AllHold (p ∷ ps) = Piece p × AllHold ps

  pub gathered_holds : (temps : List ℕ) (ps : List (Part ℕ)) → AllHold ps → Piece (gathered temps ps)
  gathered_holds temps [] all = holds_given w b (Anywhere outs) temps
  gathered_holds temps (p ∷ ps) all =
      holds_then w b outs p (λ a. gathered (temps ++ a ∷ []) ps) all.0 (λ a. gathered_holds (temps ++ a ∷ []) ps all.1) (λ a. gathered_counts (temps ++ a ∷ []) (temps ++ 0 ∷ []) ps)
