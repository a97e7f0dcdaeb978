-- Lines, one after another.
use Rattle.std.proofs.Common.{◌≡◌, ℕ, ◌+◌, List, [], ◌∷◌, ◌++◌, ap, ◌∙◌, sym, append_assoc, arith}
use Rattle.std.specs.Prelude.{codes}
use Rattle.std.specs.List.{flat_map}
use Rattle.std.proofs.lemmas.List.{append-nil}
use Rattle.std.proofs.lemmas.List.Concat.{flat_map-append}
use Rattle.std.proofs.lemmas.List.FromFn.{map-range_with_len_more}
use Rattle.gen_prog.specs.Program.{array_line, branches_line, ended, function_line, line_for_each, sum_lines, text_of}

-- one more line
one_more : (line : ℕ → List ℕ) (k : ℕ) → flat_map ended (line_for_each line (k + 1)) ≡ flat_map ended (line_for_each line k) ++ ended (line k)
one_more line k =
    ap (flat_map ended) (map-range_with_len_more line 0 k k (omega arith))
    ∙ flat_map-append ended (line_for_each line k) (line k ∷ [])
    ∙ ap (λ l. flat_map ended (line_for_each line k) ++ l) (append-nil (ended (line k)))

pub grown : (line : ℕ → List ℕ) (k : ℕ) (first now new : List ℕ) → now ≡ first ++ flat_map ended (line_for_each line k) → new ≡ now ++ ended (line k)
    → new ≡ first ++ flat_map ended (line_for_each line (k + 1))
grown line k first now new before step =
    step ∙ ap (λ l. l ++ ended (line k)) before ∙ append_assoc first (flat_map ended (line_for_each line k)) (ended (line k))
    ∙ ap (λ l. first ++ l) (sym (one_more line k))

-- the parts of a program, one behind another

regroup : (a b c d e : List ℕ) → (((a ++ b) ++ c) ++ d) ++ e ≡ ((a ++ b) ++ (c ++ d)) ++ e
regroup a b c d e = simp append_assoc

whole : (n : ℕ) → (((ended (array_line n) ++ flat_map ended (line_for_each function_line n)) ++ ended (codes "int main() {"))
    ++ flat_map ended (line_for_each branches_line n)) ++ flat_map ended (sum_lines n) ≡ text_of n
whole n =
    let top = array_line n ∷ line_for_each function_line n in
    let body = codes "int main() {" ∷ line_for_each branches_line n in
    regroup (ended (array_line n)) (flat_map ended (line_for_each function_line n)) (ended (codes "int main() {"))
    (flat_map ended (line_for_each branches_line n)) (flat_map ended (sum_lines n))
    ∙ ap (λ l. l ++ flat_map ended (sum_lines n)) (sym (flat_map-append ended top body))
    ∙ sym (flat_map-append ended (top ++ body) (sum_lines n))

pub written : (n : ℕ) (array functions main branches sum : List ℕ) → array ≡ ended (array_line n)
    → functions ≡ array ++ flat_map ended (line_for_each function_line n) → main ≡ functions ++ ended (codes "int main() {")
    → branches ≡ main ++ flat_map ended (line_for_each branches_line n) → sum ≡ branches ++ flat_map ended (sum_lines n) → sum ≡ text_of n
written n array functions main branches sum a f m b s =
    s ∙ ap (λ l. l ++ flat_map ended (sum_lines n)) (b ∙ ap (λ l. l ++ flat_map ended (line_for_each branches_line n))
    (m ∙ ap (λ l. l ++ ended (codes "int main() {")) (f ∙ ap (λ l. l ++ flat_map ended (line_for_each function_line n)) a)))
    ∙ whole n
