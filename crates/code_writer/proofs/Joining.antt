-- Functions are written one behind another.
use Rattle.std.proofs.Common.{◌≡◌, ℕ, ◌+◌, ◌<◌, List, [], ◌∷◌, ◌++◌, length, drop, get_or, sym, ap, subst, ◌∙◌, length-append, arith}
use Rattle.std.specs.Prelude.{codes}
use Rattle.std.specs.Fmt.{decimal}
use Rattle.std.proofs.lemmas.List.{drop_more, append-nil}
use Rattle.dfi_base.specs.Limits.{file_limit}
use Rattle.tac_ir.specs.declared.code.Fun.{Fun}
use Rattle.line_format.specs.Lines.{lines}
use Rattle.line_writer.specs.Writes.{Writes, Passes}
use Rattle.line_writer.proofs.Lining.{line_some}
use Rattle.text_law.specs.ModuleText.{var_words, lined_words, fun_text, funs_text}

-- one more function
pub fun_more : (funs : List Fun) (i : ℕ) (f : Fun) (first now new : List ℕ) → i < length funs → f ≡ get_or funs i f
    → ((rest : List ℕ) → now ++ funs_text (drop i funs) rest ≡ first ++ funs_text funs rest) → Writes (fun_text f) now new
    → (rest : List ℕ) → new ++ funs_text (drop (i + 1) funs) rest ≡ first ++ funs_text funs rest
fun_more funs i f first now new within is before written rest =
    let d : drop i funs ≡ f ∷ drop (i + 1) funs = drop_more funs i f within ∙ ap (λ y. y ∷ drop (i + 1) funs) (sym is) in
    written (funs_text (drop (i + 1) funs) rest) ∙ (ap (λ l. now ++ funs_text l rest) (sym d) ∙ before rest)

-- a function with which the text is too long
pub fun_fails : (funs : List Fun) (i : ℕ) (f : Fun) (first now : List ℕ) → i < length funs → f ≡ get_or funs i f
    → ((rest : List ℕ) → now ++ funs_text (drop i funs) rest ≡ first ++ funs_text funs rest) → Passes (fun_text f) now → Passes (funs_text funs) first
fun_fails funs i f first now within is before passes rest =
    let d : drop i funs ≡ f ∷ drop (i + 1) funs = drop_more funs i f within ∙ ap (λ y. y ∷ drop (i + 1) funs) (sym is) in
    subst (λ z. file_limit < length z) (ap (λ l. now ++ funs_text l rest) (sym d) ∙ before rest) (passes (funs_text (drop (i + 1) funs) rest))

-- a function has a byte
pub fun_grows : (f : Fun) (old new : List ℕ) → Writes (fun_text f) old new → length old < length new
fun_grows f old new written =
    let rest : List ℕ = lines var_words f.vars (lines lined_words f.code []) in
    let some = line_some (codes "function" ∷ decimal f.params ∷ decimal (length f.vars) ∷ decimal (length f.code) ∷ decimal f.line ∷ []) rest in
    omega (arith, some, ap length (sym (append-nil new) ∙ written []), length-append old (fun_text f []))
