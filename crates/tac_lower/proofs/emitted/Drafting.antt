-- The drafts of all functions, one function after the other, and where the limit on points is passed.
use Rattle.std.proofs.Common.{◌≡◌, ℕ, suc, ◌+◌, ◌-◌, ◌<◌, ◌≤◌, Bool, true, false, nat_lt, List, [], ◌∷◌, ◌++◌, length, drop, add-one, Option, Some, None, Err, refl, ap, sym, ◌∙◌, subst, arith, append_assoc, append-nil}
use Rattle.std.proofs.lemmas.List.{drop_all}
use Rattle.std.proofs.lemmas.Bool.{le-ltb, lt-ltb}
use Rattle.c_typed.specs.Typed.{Typed}
use Rattle.c_typed.specs.declared.program.Function.{Function}
use Rattle.tac_lower.specs.declared.draft.Draft.{Draft}
use Rattle.tac_lower.specs.declared.draft.Numbers.{Numbers}
use Rattle.tac_lower.specs.declared.progress.Progress.{Progress}
use Rattle.tac_lower.specs.declared.writer.Stop.{Stop}
use Rattle.tac_lower.specs.Functions.{function, around, first_of, no_loop, drafts_from}
use Rattle.tac_lower.specs.Limits.{Share, passing, point_limit}
use Rattle.tac_lower.specs.CodeOf.{sizes_of, first_numbers}
use Rattle.tac_lower.specs.tools.Drafted.{draft_shares, IsWritten, Writes, Drafts, fault_of}
use Rattle.tac_lower.proofs.pieces.SizedStmts.{function_sized}

-- the points of each function
abbrev pub share_of : List ℕ → ℕ → ℕ → Function → Share
share_of sizes main k f = record { count = (function (around sizes main k) f).points; line = f.line.0 }

abbrev pub shares_from : List ℕ → ℕ → ℕ → List Function → List Share
shares_from sizes main k [] = []
shares_from sizes main k (f ∷ fs) = share_of sizes main k f ∷ shares_from sizes main (suc k) fs

pub shares_are : (sizes : List ℕ) (main k : ℕ) (n : Numbers) (fs : List Function) → draft_shares fs (drafts_from sizes main k n fs) ≡ shares_from sizes main k fs
shares_are sizes main k n [] = refl
shares_are sizes main k n (f ∷ fs) =
    let made = (function (around sizes main k) f).make no_loop (first_of f n) in
    let line = f.line.0 in
    ap (λ c. record { count = c; line = line } ∷ draft_shares fs (drafts_from sizes main (suc k) made.next fs)) (function_sized (around sizes main k) f no_loop (first_of f n))
    ∙ ap (λ z. share_of sizes main k f ∷ z) (shares_are sizes main (suc k) made.next fs)

-- a share that fits, and one that does not
fits : (b : Bool) (line : ℕ) (rest : Option ℕ) → b ≡ false → elim b [ true ↦ Some line | false ↦ rest ] ≡ rest
fits b line rest is = rw (is) refl

passes : (b : Bool) (line : ℕ) (rest : Option ℕ) → b ≡ true → elim b [ true ↦ Some line | false ↦ rest ] ≡ Some line
passes b line rest is = rw (is) refl

pub passing_within : (room left : ℕ) (s : Share) (shares : List Share) → left + s.count ≡ room → passing room (s ∷ shares) ≡ passing left shares
passing_within room left s shares is =
    fits (nat_lt room s.count) s.line (passing (room - s.count) shares) (le-ltb room s.count (let e = is in omega arith))
    ∙ ap (λ n. passing n shares) (let same : room - s.count ≡ left = omega arith in same)

pub passing_past : (room : ℕ) (s : Share) (shares : List Share) → room < s.count → passing room (s ∷ shares) ≡ Some s.line
passing_past room s shares past = passes (nat_lt room s.count) s.line (passing (room - s.count) shares) (lt-ltb room s.count past)

-- From a function on the drafts and the line are what they are from the first.
pub record Drafting (sizes : List ℕ) (main : ℕ) (first : Numbers) (all rest : List Function) (k : ℕ) (p : Progress) (done : List (List Draft)) : Type 0 where
  pub drafts : done ++ drafts_from sizes main k p.next rest ≡ drafts_from sizes main 0 first all
  pub shares : passing p.room (shares_from sizes main k rest) ≡ passing point_limit (shares_from sizes main 0 all)

pub drafting_begun : (sizes : List ℕ) (main : ℕ) (first : Numbers) (all : List Function) (p : Progress) → p.next ≡ first → p.room ≡ point_limit
    → Drafting sizes main first all all 0 p []
drafting_begun sizes main first all p next room = record {
  drafts = ap (λ n. drafts_from sizes main 0 n all) next;
  shares = ap (λ n. passing n (shares_from sizes main 0 all)) room;
}

pub drafting_more : (sizes : List ℕ) (main : ℕ) (first : Numbers) (all rest more : List Function) (f : Function) (k : ℕ) (p q : Progress) (done new : List (List Draft)) (ds : List Draft)
    → rest ≡ f ∷ more → new ≡ done ++ ds ∷ [] → IsWritten (function (around sizes main k) f) f p q ds
    → Drafting sizes main first all rest k p done → Drafting sizes main first all more (k + 1) q new
drafting_more sizes main first all rest more f k p q done new ds is pushed written h =
    let before : Drafting sizes main first all (f ∷ more) k p done = subst (λ fs. Drafting sizes main first all fs k p done) is h in
    let made = (function (around sizes main k) f).make no_loop (first_of f p.next) in
    subst (λ j. Drafting sizes main first all more j q new) (sym (add-one k))
    (record {
      drafts =
          ap (λ ys. ys ++ drafts_from sizes main (suc k) q.next more) pushed ∙ append_assoc done (ds ∷ []) (drafts_from sizes main (suc k) q.next more)
          ∙ ap (λ n. done ++ ds ∷ drafts_from sizes main (suc k) n more) written.next
          ∙ ap (λ z. done ++ z ∷ drafts_from sizes main (suc k) made.next more) written.drafts ∙ before.drafts;
      shares = sym (passing_within p.room q.room (share_of sizes main k f) (shares_from sizes main (suc k) more) written.room) ∙ before.shares;
    })

pub drafting_past : (sizes : List ℕ) (main : ℕ) (first : Numbers) (all rest more : List Function) (f : Function) (k : ℕ) (p : Progress) (done : List (List Draft))
    → rest ≡ f ∷ more → p.room < (function (around sizes main k) f).points → Drafting sizes main first all rest k p done
    → passing point_limit (draft_shares all (drafts_from sizes main 0 first all)) ≡ Some f.line.0
drafting_past sizes main first all rest more f k p done is past h =
    let before : Drafting sizes main first all (f ∷ more) k p done = subst (λ fs. Drafting sizes main first all fs k p done) is h in
    ap (λ ss. passing point_limit ss) (shares_are sizes main 0 first all) ∙ sym before.shares
    ∙ passing_past p.room (share_of sizes main k f) (shares_from sizes main (suc k) more) past

-- no function is left
pub drafting_done : (sizes : List ℕ) (main : ℕ) (first : Numbers) (all : List Function) (i k : ℕ) (p : Progress) (done : List (List Draft))
    → length all ≤ i → Drafting sizes main first all (drop i all) k p done
    → (done ≡ drafts_from sizes main 0 first all) × (passing point_limit (draft_shares all (drafts_from sizes main 0 first all)) ≡ None)
drafting_done sizes main first all i k p done past h =
    let end : Drafting sizes main first all [] k p done = subst (λ fs. Drafting sizes main first all fs k p done) (drop_all i all past) h in
    (sym (append-nil done) ∙ end.drafts, ap (λ ss. passing point_limit ss) (shares_are sizes main 0 first all) ∙ sym end.shares)

-- what is told of a function that was not written
pub drafting_stopped : (t : Typed) (more : List Function) (f : Function) (k : ℕ) (p q : Progress) (done : List (List Draft)) (stop : Stop)
    → drop k t.functions ≡ f ∷ more → Writes (function (around (sizes_of t) t.main k) f) f p q (Err stop)
    → Drafting (sizes_of t) t.main (first_numbers t) t.functions (drop k t.functions) k p done → Drafts t (Err (fault_of stop f.line))
drafting_stopped t more f k p q done Stop.Full is past h =
    (refl, drafting_past (sizes_of t) t.main (first_numbers t) t.functions (drop k t.functions) more f k p done is past h)
drafting_stopped t more f k p q done Stop.Memory is past h = tt
