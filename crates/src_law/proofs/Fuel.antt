-- As many calls and turns as answers are heard are enough: more make no difference.
use Rattle.std.proofs.Common.{◌≡◌, ℕ, zero, suc, ◌≤◌, Bool, true, false, nat_le, List, [], ◌∷◌, length, refl, ap, ◌∙◌, Option, Some, None, arith}
use Rattle.obj_mem.specs.declared.Maker.{Maker}
use Rattle.obj_mem.specs.declared.value.Value.{Value}
use Rattle.obj_mem.specs.declared.event.Event.{Event}
use Rattle.obj_mem.specs.declared.event.SrcAnswer.{SrcAnswer}
use Rattle.src_law.specs.Acts.{End, done, broken, again, returned, Kind, a_value, a_truth, an_end, Act, Acts, count}
use Rattle.src_law.specs.Traces.{turn, result_in}
use Rattle.src_law.specs.tools.Heard.{Heard, answer, branch, Res, got, wants, over, ended, off, Reads, bind, asks, unit_of, got_by, result_of, frame_of, nothing_more}
use Rattle.src_law.specs.tools.Reader.{Calls, Turns, reads, reads_by, branch_by, parted, to_end, calls_at, turns_at}

abbrev pub Bodies : Type 0
Bodies = ℕ → Maker → List Value → Act a_value

-- What is still to be heard is no more than this.

abbrev pub AtMost : {A : Type 0} → ℕ → Res A → Type 0
AtMost n (got x l) = length l ≤ n
AtMost n r = Unit {0}

most_up : {A : Type 0} (m n : ℕ) (r : Res A) → m ≤ n → AtMost m r → AtMost n r
most_up m n (got x l) low most = omega (arith, low, most)
most_up m n (wants e) low most = tt
most_up m n over low most = tt
most_up m n ended low most = tt
most_up m n off low most = tt

most_bind : {A B : Type 0} (n : ℕ) (r : Res A) (c : A → Reads B) → AtMost n r → ((x : A) (l : List Heard) → length l ≤ n → AtMost n (c x l)) → AtMost n (bind r c)
most_bind n (got x l) c most then = then x l most
most_bind n (wants e) c most then = tt
most_bind n over c most then = tt
most_bind n ended c most then = tt
most_bind n off c most then = tt

most_asks : (e : Event) (l : List Heard) → AtMost (length l) (asks e l)
most_asks e [] = tt
most_asks e (answer a ∷ l) = omega arith
most_asks e (branch i ∷ l) = tt

most_unit : (a : SrcAnswer) (l : List Heard) → AtMost (length l) (unit_of a l)
most_unit SrcAnswer.Unit l = omega arith
most_unit (SrcAnswer.Value v) l = tt
most_unit (SrcAnswer.Frame m) l = tt

most_frame : (a : SrcAnswer) (l : List Heard) → AtMost (length l) (frame_of a l)
most_frame SrcAnswer.Unit l = tt
most_frame (SrcAnswer.Value v) l = tt
most_frame (SrcAnswer.Frame m) l = omega arith

most_got : {A : Type 0} (o : Option A) (l : List Heard) → AtMost (length l) (got_by o l)
most_got None l = tt
most_got (Some x) l = omega arith

most_last : (A : Type 0) (a : SrcAnswer) (l : List Heard) (n : ℕ) → (let r : Res A = nothing_more a l in AtMost n r)
most_last A SrcAnswer.Unit [] n = tt
most_last A SrcAnswer.Unit (x ∷ l) n = tt
most_last A (SrcAnswer.Value v) l n = tt
most_last A (SrcAnswer.Frame m) l n = tt

most_end : (e : End) (l : List Heard) (n : ℕ) → AtMost n (to_end e l)
most_end done [] n = tt
most_end done (x ∷ l) n = tt
most_end broken l n = tt
most_end again l n = tt
most_end (returned v) l n = tt

most_parted : (of : ℕ → Reads End) (n : ℕ) (l : List Heard) → length l ≤ n → ((i : ℕ) (m : List Heard) → length m ≤ n → AtMost n (of i m)) → AtMost n (parted of l)
most_parted of n [] low most = omega arith
most_parted of n (answer a ∷ l) low most = low
most_parted of n (branch i ∷ l) low most = most i l (omega (arith, low))

most_if : {A : Type 0} (n : ℕ) (few : Bool) (r : Res A) → AtMost n r → AtMost n (elim few as (λ z. Res A) [ true ↦ r | false ↦ off ])
most_if n true r most = most
most_if n false r most = tt

module _ (calls : Calls) (turns : Turns) (most_calls : (f : ℕ) (m : Maker) (vs : List Value) (l : List Heard) → AtMost (length l) (calls f m vs l))
    (most_turns : (test : Act a_truth) (inner step : Act an_end) (l : List Heard) → AtMost (length l) (turns test inner step l)) where
  mutual
    pub most_by : (k : Kind) (a : Act k) (l : List Heard) → AtMost (length l) (reads_by calls turns k a l)
    most_by k (Act.gives x) l = omega arith
    most_by k (Act.does e is) l =
        most_bind (length l) (asks e l) (result_of k) (most_asks e l) (λ a m low. most_up (length m) (length l) (result_of k a m) low (most_got (result_in k a) m))
    most_by k (Act.stops e last) l = most_bind (length l) (asks e l) nothing_more (most_asks e l) (λ a m low. most_last _ a m (length l))
    most_by k (Act.then {j} a f) l =
        most_bind (length l) (reads_by calls turns j a l) (λ x. reads_by calls turns k (f x)) (most_by j a l)
        (λ x m low. most_up (length m) (length l) (reads_by calls turns k (f x) m) low (most_by k (f x) m))
    most_by k (Act.calls f vs) l =
        most_bind (length l) (bind (asks (Event.Call f) l) frame_of) (λ m. calls f m vs)
        (most_bind (length l) (asks (Event.Call f) l) frame_of (most_asks (Event.Call f) l) (λ a m low. most_up (length m) (length l) (frame_of a m) low (most_frame a m)))
        (λ x m low. most_up (length m) (length l) (calls f x vs m) low (most_calls f x vs m))
    most_by k (Act.loops test inner step) l =
        most_bind (length l) (bind (asks Event.Turn l) unit_of) (λ u. turns test inner step)
        (most_bind (length l) (asks Event.Turn l) unit_of (most_asks Event.Turn l) (λ a m low. most_up (length m) (length l) (unit_of a m) low (most_unit a m)))
        (λ x m low. most_up (length m) (length l) (turns test inner step m) low (most_turns test inner step m))
    most_by k (Act.forks branches) l =
        most_if (length l) (nat_le (count branches) 15) (bind (bind (asks (Event.Fork (count branches)) l) unit_of) (λ u. parted (branch_by calls turns branches)))
        (most_bind (length l) (bind (asks (Event.Fork (count branches)) l) unit_of) (λ u. parted (branch_by calls turns branches))
        (most_bind (length l) (asks (Event.Fork (count branches)) l) unit_of (most_asks (Event.Fork (count branches)) l) (λ a m low. most_up (length m) (length l) (unit_of a m) low (most_unit a m)))
        (λ u m low. most_parted (branch_by calls turns branches) (length l) m low (λ i x less. most_up (length x) (length l) (branch_by calls turns branches i x) less (most_branch branches i x))))

    most_branch : (branches : Acts) (i : ℕ) (l : List Heard) → AtMost (length l) (branch_by calls turns branches i l)
    most_branch Acts.no_more i l = tt
    most_branch (Acts.beside a rest) zero l = tt
    most_branch (Acts.beside a rest) (suc zero) l = most_bind (length l) (reads_by calls turns an_end a l) to_end (most_by an_end a l) (λ x m low. most_end x m (length l))
    most_branch (Acts.beside a rest) (suc (suc i)) l = most_branch rest (suc i) l

mutual
  unfolding calls_at turns_at

  most_calls : (b : Bodies) (n f : ℕ) (m : Maker) (vs : List Value) (l : List Heard) → AtMost (length l) (calls_at b n f m vs l)
  most_calls b zero f m vs l = tt
  most_calls b (suc n) f m vs l = most_by (calls_at b n) (turns_at b n) (most_calls b n) (most_turns b n) a_value (b f m vs) l

  most_turns : (b : Bodies) (n : ℕ) (test : Act a_truth) (inner step : Act an_end) (l : List Heard) → AtMost (length l) (turns_at b n test inner step l)
  most_turns b zero test inner step l = tt
  most_turns b (suc n) test inner step l = most_by (calls_at b n) (turns_at b n) (most_calls b n) (most_turns b n) an_end (turn test inner step) l

pub most_reads : (b : Bodies) (n : ℕ) (k : Kind) (a : Act k) (l : List Heard) → AtMost (length l) (reads b n k a l)
most_reads b n k a l = most_by (calls_at b n) (turns_at b n) (most_calls b n) (most_turns b n) k a l

-- Two that follow alike what is still to be heard.

pub bind_same : {A B : Type 0} (n : ℕ) (r : Res A) (c d : A → Reads B) → AtMost n r → ((x : A) (l : List Heard) → length l ≤ n → c x l ≡ d x l) → bind r c ≡ bind r d
bind_same n (got x l) c d most same = same x l most
bind_same n (wants e) c d most same = refl
bind_same n over c d most same = refl
bind_same n ended c d most same = refl
bind_same n off c d most same = refl

pub bind_bind : {A B C : Type 0} (r : Res A) (c : A → Reads B) (d : B → Reads C) → bind (bind r c) d ≡ bind r (λ x l. bind (c x l) d)
bind_bind (got x l) c d = refl
bind_bind (wants e) c d = refl
bind_bind over c d = refl
bind_bind ended c d = refl
bind_bind off c d = refl

pub bind_got : {A : Type 0} (r : Res A) → bind r got ≡ r
bind_got (got x l) = refl
bind_got (wants e) = refl
bind_got over = refl
bind_got ended = refl
bind_got off = refl

same_parted : (of og : ℕ → Reads End) (n : ℕ) (l : List Heard) → length l ≤ n → ((i : ℕ) (m : List Heard) → length m ≤ n → of i m ≡ og i m) → parted of l ≡ parted og l
same_parted of og n [] low same = refl
same_parted of og n (answer a ∷ l) low same = refl
same_parted of og n (branch i ∷ l) low same = same i l (omega (arith, low))

-- what is heard behind an event is less
less_asks : {A : Type 0} (e : Event) (l : List Heard) (n : ℕ) (c : SrcAnswer → Reads A) → length l ≤ suc n → ((a : SrcAnswer) (m : List Heard) → length m ≤ n → AtMost n (c a m)) → AtMost n (bind (asks e l) c)
less_asks e [] n c low most = tt
less_asks e (answer a ∷ l) n c low most = most a l (omega (arith, low))
less_asks e (branch i ∷ l) n c low most = tt

none_asks : {A : Type 0} (e : Event) (l : List Heard) (c d : SrcAnswer → Reads A) → length l ≤ 0 → bind (asks e l) c ≡ bind (asks e l) d
none_asks e [] c d low = refl
none_asks e (x ∷ l) c d low = absurd (omega (arith, low))

module _ (calls other_calls : Calls) (turns other_turns : Turns) (bound : ℕ)
    (most_calls : (f : ℕ) (m : Maker) (vs : List Value) (l : List Heard) → AtMost (length l) (calls f m vs l))
    (most_turns : (test : Act a_truth) (inner step : Act an_end) (l : List Heard) → AtMost (length l) (turns test inner step l))
    (same_calls : (f : ℕ) (m : Maker) (vs : List Value) (l : List Heard) → suc (length l) ≤ bound → calls f m vs l ≡ other_calls f m vs l)
    (same_turns : (test : Act a_truth) (inner step : Act an_end) (l : List Heard) → suc (length l) ≤ bound → turns test inner step l ≡ other_turns test inner step l) where
  behind_event : {A B : Type 0} (e : Event) (l : List Heard) (c : SrcAnswer → Reads A) (d g : A → Reads B) → length l ≤ bound
      → ((a : SrcAnswer) (m : List Heard) → AtMost (length m) (c a m)) → ((x : A) (m : List Heard) → suc (length m) ≤ bound → d x m ≡ g x m) → bind (bind (asks e l) c) d ≡ bind (bind (asks e l) c) g
  behind_event e [] c d g low most same = refl
  behind_event e (answer a ∷ l) c d g low most same = bind_same (length l) (c a l) d g (most a l) (λ x m less. same x m (omega (arith, less, low)))
  behind_event e (branch i ∷ l) c d g low most same = refl

  mutual
    pub same_by : (k : Kind) (a : Act k) (l : List Heard) → length l ≤ bound → reads_by calls turns k a l ≡ reads_by other_calls other_turns k a l
    same_by k (Act.gives x) l low = refl
    same_by k (Act.does e is) l low = refl
    same_by k (Act.stops e last) l low = refl
    same_by k (Act.then {j} a f) l low =
        bind_same (length l) (reads_by calls turns j a l) (λ x. reads_by calls turns k (f x)) (λ x. reads_by other_calls other_turns k (f x)) (most_by calls turns most_calls most_turns j a l)
        (λ x m less. same_by k (f x) m (omega (arith, less, low)))
        ∙ ap (λ r. bind r (λ x. reads_by other_calls other_turns k (f x))) (same_by j a l low)
    same_by k (Act.calls f vs) l low = behind_event (Event.Call f) l frame_of (λ m. calls f m vs) (λ m. other_calls f m vs) low most_frame (λ m x less. same_calls f m vs x less)
    same_by k (Act.loops test inner step) l low = behind_event Event.Turn l unit_of (λ u. turns test inner step) (λ u. other_turns test inner step) low most_unit (λ u x less. same_turns test inner step x less)
    same_by k (Act.forks branches) l low =
        ap (λ r. elim (nat_le (count branches) 15) [ true ↦ r | false ↦ off ])
        (behind_event (Event.Fork (count branches)) l unit_of (λ u. parted (branch_by calls turns branches)) (λ u. parted (branch_by other_calls other_turns branches)) low most_unit
        (λ u x less. same_parted (branch_by calls turns branches) (branch_by other_calls other_turns branches) (length x) x (omega arith) (λ i m shorter. same_branch branches i m (omega (arith, shorter, less)))))

    same_branch : (branches : Acts) (i : ℕ) (l : List Heard) → length l ≤ bound → branch_by calls turns branches i l ≡ branch_by other_calls other_turns branches i l
    same_branch Acts.no_more i l low = refl
    same_branch (Acts.beside a rest) zero l low = refl
    same_branch (Acts.beside a rest) (suc zero) l low = ap (λ r. bind r to_end) (same_by an_end a l low)
    same_branch (Acts.beside a rest) (suc (suc i)) l low = same_branch rest (suc i) l low

mutual
  unfolding calls_at turns_at

  same_calls : (b : Bodies) (n m bound : ℕ) → bound ≤ n → bound ≤ m → (f : ℕ) (x : Maker) (vs : List Value) (l : List Heard) → suc (length l) ≤ bound → calls_at b n f x vs l ≡ calls_at b m f x vs l
  same_calls b zero m bound low high f x vs l less = absurd (omega (arith, low, less))
  same_calls b (suc n) zero bound low high f x vs l less = absurd (omega (arith, high, less))
  same_calls b (suc n) (suc m) bound low high f x vs l less =
      same_by (calls_at b n) (calls_at b m) (turns_at b n) (turns_at b m) (length l) (most_calls b n) (most_turns b n)
      (same_calls b n m (length l) (omega (arith, low, less)) (omega (arith, high, less))) (same_turns b n m (length l) (omega (arith, low, less)) (omega (arith, high, less)))
      a_value (b f x vs) l (omega arith)

  same_turns : (b : Bodies) (n m bound : ℕ) → bound ≤ n → bound ≤ m → (test : Act a_truth) (inner step : Act an_end) (l : List Heard) → suc (length l) ≤ bound
      → turns_at b n test inner step l ≡ turns_at b m test inner step l
  same_turns b zero m bound low high test inner step l less = absurd (omega (arith, low, less))
  same_turns b (suc n) zero bound low high test inner step l less = absurd (omega (arith, high, less))
  same_turns b (suc n) (suc m) bound low high test inner step l less =
      same_by (calls_at b n) (calls_at b m) (turns_at b n) (turns_at b m) (length l) (most_calls b n) (most_turns b n)
      (same_calls b n m (length l) (omega (arith, low, less)) (omega (arith, high, less))) (same_turns b n m (length l) (omega (arith, low, less)) (omega (arith, high, less)))
      an_end (turn test inner step) l (omega arith)

pub same_branches : (b : Bodies) (n m : ℕ) (branches : Acts) (i : ℕ) (l : List Heard) → length l ≤ n → length l ≤ m
    → branch_by (calls_at b n) (turns_at b n) branches i l ≡ branch_by (calls_at b m) (turns_at b m) branches i l
same_branches b n m branches i l low high =
    same_branch (calls_at b n) (calls_at b m) (turns_at b n) (turns_at b m) (length l) (most_calls b n) (most_turns b n) (same_calls b n m (length l) low high) (same_turns b n m (length l) low high) branches i l (omega arith)

pub same_reads : (b : Bodies) (n m : ℕ) (k : Kind) (a : Act k) (l : List Heard) → length l ≤ n → length l ≤ m → reads b n k a l ≡ reads b m k a l
same_reads b n m k a l low high =
    same_by (calls_at b n) (calls_at b m) (turns_at b n) (turns_at b m) (length l) (most_calls b n) (most_turns b n) (same_calls b n m (length l) low high) (same_turns b n m (length l) low high) k a l (omega arith)
