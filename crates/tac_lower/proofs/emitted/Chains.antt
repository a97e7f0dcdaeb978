-- Emitting one piece and then another emits both.
use Rattle.std.proofs.Common.{◌≡◌, ℕ, ◌+◌, ◌<◌, ◌≤◌, Bool, true, false, List, [], ◌∷◌, ◌++◌, Result, Ok, Err, refl, ap, sym, ◌∙◌, subst, arith, append_assoc, append-nil, add-zero}
use Rattle.c_typed.specs.declared.types.ObjectType.{ObjectType}
use Rattle.tac_ir.specs.declared.code.Place.{Place}
use Rattle.tac_lower.specs.declared.draft.Ends.{Ends}
use Rattle.tac_lower.specs.declared.writer.Writer.{Writer}
use Rattle.tac_lower.specs.declared.writer.Spot.{Spot}
use Rattle.tac_lower.specs.declared.writer.Stop.{Stop}
use Rattle.c_typed.specs.declared.types.ExprType.{ExprType}
use Rattle.c_typed.specs.declared.expr.PrefixOp.{PrefixOp}
use Rattle.c_typed.specs.Elaboration.{Truth, truth_of, Operation}
use Rattle.tac_lower.specs.Parts.{Part, Made, given, chained, followed, gathered, ◌▷◌}
use Rattle.tac_lower.specs.Instrs.{field, set, store, get, load}
use Rattle.tac_lower.specs.Stmts.{returned}
use Rattle.tac_lower.specs.Values.{Yield, direct, left, onward, temp, part_of, truth_as, negation, prefix, carried}
use Rattle.tac_lower.specs.tools.Emits.{Exact, Emitted, Emits, Yields, Counts, Counted, spots, temp_in, at_spot, part_at, write_at, changed}

-- no code
pub nothing : {A : Type 0} (a : A) (ends : Ends) (old : Writer) → Emits (given a) ends old old (Ok a)
nothing a ends old = record {
  count = sym (add-zero old.next.at);
  room = refl;
  dry = refl;
  exact = λ live. record { result = refl; drafts = sym (append-nil old.drafts); next = refl };
}

joined : {A B : Type 0} (m : Made A) (q : A → Part B) (ends : Ends) (old mid new : Writer) (a : A) (b : B)
    → Exact m old mid a → Exact ((q a).make ends mid.next) mid new b → Exact (followed m ((q m.result).make ends m.next)) old new b
joined {A} {B} m q ends old mid new a b first second =
    let same : (q a).make ends mid.next ≡ (q m.result).make ends m.next = ap (λ x. (q x).make ends mid.next) first.result ∙ ap (λ x. (q m.result).make ends x) first.next in
    record {
      result = second.result ∙ ap (λ x. x.result) same;
      drafts = second.drafts ∙ ap (λ x. mid.drafts ++ x.drafts) same ∙ ap (λ x. x ++ ((q m.result).make ends m.next).drafts) first.drafts
          ∙ append_assoc old.drafts m.drafts ((q m.result).make ends m.next).drafts;
      next = second.next ∙ ap (λ x. x.next) same;
    }

-- a piece was emitted, and then what follows it
pub follow : {A B : Type 0} (any : A) (p : Part A) (q : A → Part B) (ends : Ends) (old mid new : Writer) (a : A) (r : Result B Stop)
    → ((x : A) → (q x).points ≡ (q any).points)
    → Emitted (p.make ends old.next) p.points old mid a → Emits (q a) ends mid new r → Emits (chained any p q) ends old new r
follow any p q ends old mid new a (Ok b) counts first second = record {
  count = (let c1 = first.count in let c2 = second.count in let c3 = counts a in omega arith);
  room = second.room ∙ first.room;
  dry = second.dry ∙ first.dry;
  exact = λ live. joined (p.make ends old.next) q ends old mid new a b (first.exact live) (second.exact (first.dry ∙ live));
}
follow any p q ends old mid new a (Err Stop.Full) counts first second =
    let c1 = first.count in let c2 = first.room in let c3 = counts a in
    let past : mid.room < mid.next.at + (q a).points = second in
    omega arith
follow any p q ends old mid new a (Err Stop.Memory) counts first second = tt

-- the first piece was not emitted
pub stopped : {A B : Type 0} (any : A) (p : Part A) (q : A → Part B) (ends : Ends) (old mid : Writer) (e : Stop)
    → Emits p ends old mid (Err e) → Emits (chained any p q) ends old mid (Err e)
stopped any p q ends old mid Stop.Full past = (let h : old.room < old.next.at + p.points = past in omega arith)
stopped any p q ends old mid Stop.Memory past = tt

-- an answer that has nothing to do with code
pub no_memory : {B : Type 0} (p : Part B) (ends : Ends) (old new : Writer) (r : Result B Stop) → r ≡ Err Stop.Memory → Emits p ends old new r
no_memory p ends old new r is = subst (λ x. Emits p ends old new x) (sym is) tt

-- a place, and then what follows it
pub yields : {B : Type 0} (y : Yield) (d : Place → Part B) (l : ℕ → Part B) (ends : Ends) (old mid new : Writer) (spot : Spot) (r : Result B Stop)
    → ((x : ℕ) → (l x).points ≡ (l 0).points)
    → Yields y ends old mid (Ok spot) → Emits (at_spot d l spot) ends mid new r → Emits (onward d l y) ends old new r
yields (direct p) d l ends old mid new (Spot.Direct q) r counts first second =
    subst (λ w. Emits (d p) ends w new r) first.1 (subst (λ x. Emits (d x) ends mid new r) first.0 second)
yields (direct p) d l ends old mid new (Spot.Left a) r counts first second = absurd first
yields (left p) d l ends old mid new (Spot.Direct q) r counts first second = absurd first
yields (left p) d l ends old mid new (Spot.Left a) r counts first second = follow 0 p l ends old mid new a r counts first second

pub yields_stopped : {B : Type 0} (y : Yield) (d : Place → Part B) (l : ℕ → Part B) (ends : Ends) (old mid : Writer) (e : Stop)
    → Yields y ends old mid (Err e) → Emits (onward d l y) ends old mid (Err e)
yields_stopped (direct p) d l ends old mid Stop.Full past = absurd past
yields_stopped (direct p) d l ends old mid Stop.Memory past = tt
yields_stopped (left p) d l ends old mid Stop.Full past = stopped 0 p l ends old mid Stop.Full past
yields_stopped (left p) d l ends old mid Stop.Memory past = tt

-- what leaves a temporary
pub leaves : (p : Part ℕ) (ends : Ends) (old new : Writer) (r : Result ℕ Stop) → Emits p ends old new r → Yields (left p) ends old new (spots r)
leaves p ends old new (Ok a) h = h
leaves p ends old new (Err Stop.Full) h = h
leaves p ends old new (Err Stop.Memory) h = tt

-- the same where nothing was left
pub leaves_stopped : (p : Part ℕ) (ends : Ends) (old new : Writer) (e : Stop) → Emits p ends old new (Err e) → Yields (left p) ends old new (Err e)
leaves_stopped p ends old new Stop.Full h = h
leaves_stopped p ends old new Stop.Memory h = tt

-- a place, and then a field of it
pub yields_part : (line : ℕ) (struct : ObjectType) (k : ℕ) (y : Yield) (ends : Ends) (old mid new : Writer) (spot : Spot) (r : Result Spot Stop)
    → Yields y ends old mid (Ok spot) → Yields (part_at line struct k spot) ends mid new r → Yields (part_of line struct k y) ends old new r
yields_part line struct k (direct p) ends old mid new (Spot.Direct q) r first second =
    subst (λ w. Yields (part_at line struct k (Spot.Direct p)) ends w new r) first.1 (subst (λ x. Yields (part_at line struct k (Spot.Direct x)) ends mid new r) first.0 second)
yields_part line struct k (direct p) ends old mid new (Spot.Left a) r first second = absurd first
yields_part line struct k (left p) ends old mid new (Spot.Direct q) r first second = absurd first
yields_part line struct k (left p) ends old mid new (Spot.Left a) (Ok (Spot.Left b)) first second =
    follow 0 p (λ x. field line struct k x) ends old mid new a (Ok b) (λ x. refl) first second
yields_part line struct k (left p) ends old mid new (Spot.Left a) (Ok (Spot.Direct b)) first second = absurd second
yields_part line struct k (left p) ends old mid new (Spot.Left a) (Err Stop.Full) first second =
    follow 0 p (λ x. field line struct k x) ends old mid new a (Err Stop.Full) (λ x. refl) first second
yields_part line struct k (left p) ends old mid new (Spot.Left a) (Err Stop.Memory) first second = tt

pub part_stopped : (line : ℕ) (struct : ObjectType) (k : ℕ) (y : Yield) (ends : Ends) (old mid : Writer) (e : Stop)
    → Yields y ends old mid (Err e) → Yields (part_of line struct k y) ends old mid (Err e)
part_stopped line struct k (direct p) ends old mid Stop.Full past = absurd past
part_stopped line struct k (direct p) ends old mid Stop.Memory past = tt
part_stopped line struct k (left p) ends old mid Stop.Full past = stopped 0 p (λ x. field line struct k x) ends old mid Stop.Full past
part_stopped line struct k (left p) ends old mid Stop.Memory past = tt

-- a count of instructions to come, in a piece that was emitted with it
pub counted : {B : Type 0} (p : ℕ → Part B) (points n : ℕ) (ends : Ends) (old new : Writer) (b : B)
    → ((x : ℕ) → (p x).points ≡ (p 0).points) → Counted points old n
    → Emitted ((p n).make ends old.next) (p n).points old new b → Emitted ((p points).make ends old.next) (p points).points old new b
counted p points n ends old new b counts is first = record {
  count = (let c1 = first.count in let c2 = counts n in let c3 = counts points in omega arith);
  room = first.room;
  dry = first.dry;
  exact = λ live. subst (λ k. Exact ((p k).make ends old.next) old new b) (is.exact live) (first.exact live);
}

pub counted_stopped : {B : Type 0} (p : ℕ → Part B) (points n : ℕ) (ends : Ends) (old new : Writer) (e : Stop)
    → ((x : ℕ) → (p x).points ≡ (p 0).points) → Emits (p n) ends old new (Err e) → Emits (p points) ends old new (Err e)
counted_stopped p points n ends old new Stop.Full counts past =
    (let h : old.room < old.next.at + (p n).points = past in let c2 = counts n in let c3 = counts points in omega arith)
counted_stopped p points n ends old new Stop.Memory counts past = tt

-- a part of what follows is too long
pub too_long : {A B : Type 0} (p : Part A) (q : Part B) (ends : Ends) (old new : Writer) (e : Stop)
    → p.points ≤ q.points → Counts p old (Err e) → Emits q ends old new (Err e)
too_long p q ends old new Stop.Full part past = (let h : old.room < old.next.at + p.points = past in omega arith)
too_long p q ends old new Stop.Memory part past = tt

-- a dry run tells what the piece will need
pub dry_stopped : {A : Type 0} (p : Part A) (ends : Ends) (run new w : Writer) (e : Stop)
    → run.next ≡ w.next → run.room ≡ w.room → Emits p ends run new (Err e) → Counts p w (Err e)
dry_stopped p ends run new w Stop.Full next room past =
    (let h : run.room < run.next.at + p.points = past in let e = ap (λ n. n.at) next in omega arith)
dry_stopped p ends run new w Stop.Memory next room past = tt

-- the value of an expression
pub valued : (y : Yield) (ends : Ends) (old new : Writer) (r : Result Spot Stop) → Yields y ends old new r → Emits (temp y) ends old new (temp_in r)
valued (direct p) ends old new (Ok (Spot.Direct q)) h = subst (λ w. Emits {A = ℕ} (given 0) ends old w (Ok 0)) (sym h.1) (nothing 0 ends old)
valued (direct p) ends old new (Ok (Spot.Left a)) h = absurd h
valued (direct p) ends old new (Err Stop.Full) h = absurd h
valued (direct p) ends old new (Err Stop.Memory) h = tt
valued (left p) ends old new (Ok (Spot.Direct q)) h = absurd h
valued (left p) ends old new (Ok (Spot.Left a)) h = h
valued (left p) ends old new (Err Stop.Full) h = h
valued (left p) ends old new (Err Stop.Memory) h = tt

-- How many instructions there are does not depend on the temporaries.
pub truth_counts : (line : ℕ) (b : Truth) (x : ℕ) → (truth_as line b x).points ≡ (truth_as line b 0).points
truth_counts line Truth.not_zero x = refl
truth_counts line Truth.not_null x = refl

negation_counts : (line : ℕ) (b : Truth) (x : ℕ) → (negation line b x).points ≡ (negation line b 0).points
negation_counts line Truth.not_zero x = refl
negation_counts line Truth.not_null x = refl

pub prefix_counts : (line : ℕ) (op : PrefixOp) (t : ExprType) (x : ℕ) → (prefix line op t x).points ≡ (prefix line op t 0).points
prefix_counts line PrefixOp.Minus t x = refl
prefix_counts line PrefixOp.Complement t x = refl
prefix_counts line PrefixOp.Not t x = negation_counts line (truth_of t) x

pub carried_counts : (line : ℕ) (p : Operation) (a b c d : ℕ) → (carried line p a b).points ≡ (carried line p c d).points
carried_counts line (Operation.words op) a b c d = refl
carried_counts line (Operation.move_up words) a b c d = refl
carried_counts line (Operation.move_right_up words) a b c d = refl
carried_counts line (Operation.move_down words) a b c d = refl
carried_counts line Operation.same_pointers a b c d = refl
carried_counts line Operation.other_pointers a b c d = refl

pub gathered_counts : (xs ys : List ℕ) (ps : List (Part ℕ)) → (gathered xs ps).points ≡ (gathered ys ps).points
gathered_counts xs ys [] = refl
gathered_counts xs ys (p ∷ ps) = ap (λ n. p.points + n) (gathered_counts (xs ++ 0 ∷ []) (ys ++ 0 ∷ []) ps)

-- what follows a place before it is written
pub write_behind : (line : ℕ) (v : Part ℕ) (spot : Spot) (ends : Ends) (old new : Writer) (r : Result ℕ Stop)
    → Emits (v ▷ λ b. write_at line spot b) ends old new r → Emits (at_spot (λ p. v ▷ λ b. set line p b) (λ a. v ▷ λ b. store line a b) spot) ends old new r
write_behind line v (Spot.Direct p) ends old new r h = h
write_behind line v (Spot.Left a) ends old new r h = h

pub write_counts : (line : ℕ) (spot : Spot) (b : ℕ) → (write_at line spot b).points ≡ (write_at line spot 0).points
write_counts line (Spot.Direct p) b = refl
write_counts line (Spot.Left a) b = refl

-- the same with the old value and an operator
pub change_behind : (line : ℕ) (v : Part ℕ) (p : Operation) (spot : Spot) (ends : Ends) (old new : Writer) (r : Result ℕ Stop)
    → Emits (at_spot (λ p. get line p) (λ a. load line a) spot ▷ λ first. v ▷ λ b. changed line p spot first b) ends old new r
    → Emits (at_spot (λ q. get line q ▷ λ first. v ▷ λ b. carried line p first b ▷ λ c. set line q c) (λ a. load line a ▷ λ first. v ▷ λ b. carried line p first b ▷ λ c. store line a c) spot) ends old new r
change_behind line v p (Spot.Direct q) ends old new r h = h
change_behind line v p (Spot.Left a) ends old new r h = h

pub changed_counts : (line : ℕ) (p : Operation) (spot : Spot) (a b c d : ℕ) → (changed line p spot a b).points ≡ (changed line p spot c d).points
changed_counts line p spot a b c d = ap (λ n. n + (write_at line spot 0).points) (carried_counts line p a b c d)

pub returned_counts : (in_main : Bool) (line a : ℕ) → (returned in_main line a).points ≡ (returned in_main line 0).points
returned_counts true line a = refl
returned_counts false line a = refl
