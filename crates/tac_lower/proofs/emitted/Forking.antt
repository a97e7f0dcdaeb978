-- The fork in front of branches.
use Rattle.std.proofs.Common.{◌≡◌, ℕ, ◌+◌, ◌<◌, ◌≤◌, List, [], ◌∷◌, ◌++◌, map, sum, length, drop, Result, Ok, Err, refl, ap, sym, ◌∙◌, subst, arith, append_assoc, append-nil}
use Rattle.std.proofs.lemmas.List.{drop_all}
use Rattle.std.proofs.lemmas.List.Sums.{sum_by-cons}
use Rattle.tac_ir.specs.declared.code.Instr.{Instr}
use Rattle.tac_lower.specs.declared.draft.Ends.{Ends}
use Rattle.tac_lower.specs.declared.writer.Writer.{Writer}
use Rattle.tac_lower.specs.declared.writer.Stop.{Stop}
use Rattle.tac_lower.specs.Parts.{Part, one, in_turn}
use Rattle.tac_lower.specs.Instrs.{draft, no_number}
use Rattle.tac_lower.specs.Stmts.{entries, fork, branches}
use Rattle.tac_lower.specs.tools.Emits.{Exact, Emits, Counts}
use Rattle.tac_lower.specs.tools.Nested.{Forks}

abbrev pub total : List (Part ℕ) → ℕ
total ps = sum (map (λ p. p.points) ps)

pub total-cons : (p : Part ℕ) (ps : List (Part ℕ)) → total (p ∷ ps) ≡ p.points + total ps
total-cons p ps = sum_by-cons (λ n. n) p.points (map (λ p. p.points) ps)

turns_total : (ps : List (Part ℕ)) → (in_turn ps).points ≡ total ps
turns_total [] = refl
turns_total (p ∷ ps) = ap (λ n. p.points + n) (turns_total ps) ∙ sym (total-cons p ps)

-- From a place on the entries and the end are what they are from the start.
pub record Forking (start : ℕ) (all rest : List (Part ℕ)) (room join : ℕ) (done : List ℕ) : Type 0 where
  pub ends : join + total rest ≡ start + total all
  pub entries : done ++ entries join rest ≡ entries start all
  pub low : start ≤ join
  pub few : join ≤ room + 1

pub fork_begun : (start : ℕ) (all : List (Part ℕ)) (room : ℕ) → start ≤ room + 1 → Forking start all all room start []
fork_begun start all room few = record { ends = refl; entries = refl; low = (let h : start ≤ start = omega arith in h); few = few }

pub fork_more : {A : Type 0} (f : A → Part ℕ) (start : ℕ) (xs : List A) (i : ℕ) (x : A) (room join n : ℕ) (done more : List ℕ)
    → drop i xs ≡ x ∷ drop (i + 1) xs → more ≡ done ++ join ∷ [] → n ≡ (f x).points → join + n ≤ room
    → Forking start (map f xs) (map f (drop i xs)) room join done → Forking start (map f xs) (map f (drop (i + 1) xs)) room (join + n) more
fork_more f start xs i x room join n done more is pushed counted few h =
    let before : Forking start (map f xs) (f x ∷ map f (drop (i + 1) xs)) room join done = subst (λ ys. Forking start (map f xs) (map f ys) room join done) is h in
    record {
      ends = (let j = before.ends in let c = total-cons (f x) (map f (drop (i + 1) xs)) in omega arith);
      entries =
          ap (λ ys. ys ++ entries (join + n) (map f (drop (i + 1) xs))) pushed ∙ append_assoc done (join ∷ []) (entries (join + n) (map f (drop (i + 1) xs)))
          ∙ ap (λ k. done ++ join ∷ entries (join + k) (map f (drop (i + 1) xs))) counted ∙ before.entries;
      low = (let l = before.low in omega arith);
      few = omega arith;
    }

pub fork_done : {A : Type 0} (f : A → Part ℕ) (start : ℕ) (xs : List A) (i room join : ℕ) (done : List ℕ)
    → length xs ≤ i → Forking start (map f xs) (map f (drop i xs)) room join done → Instr.Fork join done ≡ Instr.Fork (start + total (map f xs)) (entries start (map f xs))
fork_done f start xs i room join done past h =
    let all : Forking start (map f xs) [] room join done = subst (λ ys. Forking start (map f xs) (map f ys) room join done) (drop_all i xs past) h in
    let last : join ≡ start + total (map f xs) = (let j = all.ends in omega arith) in
    ap (λ k. Instr.Fork k done) last ∙ ap (λ ys. Instr.Fork (start + total (map f xs)) ys) (sym (append-nil done) ∙ all.entries)

-- the branches so far have no room
pub fork_full : {A : Type 0} (f : A → Part ℕ) (start : ℕ) (xs : List A) (i : ℕ) (x : A) (room join : ℕ) (done : List ℕ)
    → drop i xs ≡ x ∷ drop (i + 1) xs → room < join + (f x).points → Forking start (map f xs) (map f (drop i xs)) room join done → room < start + total (map f xs)
fork_full f start xs i x room join done is past h =
    let before : Forking start (map f xs) (f x ∷ map f (drop (i + 1) xs)) room join done = subst (λ ys. Forking start (map f xs) (map f ys) room join done) is h in
    (let j = before.ends in let c = total-cons (f x) (map f (drop (i + 1) xs)) in omega arith)

-- a branch has no room
pub branch_full : {A : Type 0} (f : A → Part ℕ) (xs : List A) (i : ℕ) (x : A) (w : Writer) (join : ℕ) (done : List ℕ) (e : Stop)
    → drop i xs ≡ x ∷ drop (i + 1) xs → Counts (f x) w (Err e) → Forking (w.next.at + 1) (map f xs) (map f (drop i xs)) w.room join done → Forks (map f xs) w (Err e)
branch_full f xs i x w join done Stop.Full is past h =
    let before : Forking (w.next.at + 1) (map f xs) (f x ∷ map f (drop (i + 1) xs)) w.room join done = subst (λ ys. Forking (w.next.at + 1) (map f xs) (map f ys) w.room join done) is h in
    (let o : w.room < w.next.at + (f x).points = past in let j = before.ends in let l = before.low in let c = total-cons (f x) (map f (drop (i + 1) xs)) in omega arith)
branch_full f xs i x w join done Stop.Memory is past h = tt

-- the instruction, where it is the right one but in a dry run
pub forked : (line : ℕ) (ps : List (Part ℕ)) (instr : Instr) (ends : Ends) (old new : Writer) (r : Result ℕ Stop)
    → Forks ps old (Ok instr) → Emits (one no_number (λ n. draft line instr)) ends old new r → Emits (fork line ps) ends old new r
forked line ps instr ends old new (Ok a) is h = record {
  count = h.count;
  room = h.room;
  dry = h.dry;
  exact = λ live. subst (λ i. Exact ((one no_number (λ n. draft line i)).make ends old.next) old new a) (is live) (h.exact live);
}
forked line ps instr ends old new (Err Stop.Full) is past = past
forked line ps instr ends old new (Err Stop.Memory) is past = tt

-- no room for the branches
pub unforked : (line : ℕ) (ps : List (Part ℕ)) (ends : Ends) (w : Writer) (e : Stop) → Forks ps w (Err e) → Emits (branches line ps) ends w w (Err e)
unforked line ps ends w Stop.Full past = (let h : w.room < w.next.at + 1 + total ps = past in let t = turns_total ps in omega arith)
unforked line ps ends w Stop.Memory past = tt
