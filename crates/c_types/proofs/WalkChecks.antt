-- The walk over a whole program finds its types, or its first fault.
use Rattle.std.proofs.Common.{◌≡◌, ℕ, ◌+◌, ◌≤◌, Bool, true, false, List, [], ◌++◌, length, get_or, Option, Some, Ok, Err, nat_lt, refl, ap, sym, ◌∙◌, subst, arith}
use Rattle.c_ast.specs.Ast.{Ast}
use Rattle.c_typed.specs.declared.fault.TypeFault.{TypeFault}
use Rattle.c_typed.specs.declared.program.Function.{Function}
use Rattle.c_types.specs.declared.programs.Program.{Program}
use Rattle.c_types.specs.declared.outline.Outline.{Outline}
use Rattle.c_types.specs.declared.known.Known.{Known}
use Rattle.c_typed.specs.Whole.{Whole, whole_of}
use Rattle.c_typed.specs.Faults.{Fault, no_main, unless}
use Rattle.c_typed.specs.Parts.{Place}
use Rattle.c_typed.specs.Decls.{joined_lists}
use Rattle.c_typed.specs.Sites.{numbered}
use Rattle.c_typed.specs.Programs.{text, judged, main_number, functions_by, faults_of, typed_of}
use Rattle.c_types.specs.tools.Answers.{least}
use Rattle.c_types.specs.tools.Steps.{Found, ◌>>=◌, each, one, kept}
use Rattle.c_types.specs.tools.OutlineWalk.{outline_of}
use Rattle.c_types.specs.tools.ProgramSteps.{nothing_known}
use Rattle.c_types.specs.tools.ProgramWalk.{items_walk, main_walk, parts_of, program_walk}
use Rattle.c_types.proofs.First.{least_is_first}
use Rattle.c_types.proofs.AnswerLaws.{AllFrom, or_else, least_append}
use Rattle.c_types.proofs.BoundsPrograms.{inside_text}
use Rattle.c_types.proofs.Tells.{Tells}
use Rattle.c_types.proofs.OutlineIs.{outline_is, outline_shapes, structs_counted, outline_functions}
use Rattle.c_typed.proofs.WellTables.{shaped}
use Rattle.c_typed.proofs.WellTyped.{typed_tabled}
use Rattle.c_types.proofs.Walking.{Goes, result_of, flat}
use Rattle.c_types.proofs.ItemStands.{AtItem, nothing_stands}
use Rattle.c_types.proofs.ItemAnswers.{listed_item, items_flat, text_goes}
use Rattle.c_types.proofs.ProgramGlobals.{all_give}
use Rattle.c_types.proofs.MainAnswers.{main_by, main_found, structs_typed}
use Rattle.c_types.proofs.Judges.{as_typed, Judges}

module _ (a : Ast) where
  abbrev w : Whole
  w = whole_of a.names a.items

  abbrev o : Outline
  o = outline_of a.names a.items

  abbrev start : Place
  start = record { before = []; at = 0 }

  abbrev items_found : Found (List (List Function) × Known)
  items_found = each one (listed_item o) a.items nothing_known

  go : Goes (AtItem w) (text w a.items) start items_found
  go =
      text_goes w o (outline_is a.names a.items) (structs_counted a.names a.items) a.items start nothing_known (nothing_stands w)

  -- the fault of the end
  abbrev end_fault : Bool → List Fault
  end_fault there = unless there (text w a.items).tokens no_main a.last

  abbrev has_main : Bool
  has_main = nat_lt (main_number w) (length w.functions)

  end_from : (there : Bool) → AllFrom (0 + (text w a.items).tokens) (end_fault there)
  end_from true = tt
  end_from false = (omega arith, tt)

  -- A fault of the items.
  items_refused : (e : TypeFault) → Tells (judged w a.items) (Err e) → Judges a (Err e)
  items_refused e is = λ wanted.
      let o = is wanted in
      let fs = (judged w a.items).faults in (
        o.fault,
        least_is_first (faults_of a) o.fault
            (least_append (0 + (text w a.items).tokens) fs (end_fault has_main) ((inside_text w a.items).within start).end (end_from has_main) ∙ ap (λ p. or_else p (least (end_fault has_main))) o.first),
        o.told,
      )

  -- None, and `main` is there.
  same_typed : (fss : List (List Function)) (k : Known) → items_walk o a.items nothing_known ≡ Ok (joined_lists fss, k) → (judged w a.items).value ≡ Some fss → faults_of a ≡ []
      → as_typed (parts_of o (joined_lists fss) k (main_number w)) ≡ typed_of a
  same_typed fss k found value keeps =
      let t = typed_of a in
      let limits : (n : ℕ) → get_or w.sizes n 0 ≤ 24576 = λ n. subst (λ ns. get_or ns n 0 ≤ 24576) (shaped a.names a.items).sizes ((typed_tabled a keeps).words n) in
      ap (λ ss. record { structs = ss; globals = k.declared.globals; functions = numbered (joined_lists fss); main = main_number w })
      (structs_typed o.shapes w.structs w.sizes (outline_shapes a.names a.items) limits)
      ∙ ap (λ gs. record { structs = t.structs; globals = gs; functions = numbered (joined_lists fss); main = main_number w })
      (all_give w o (outline_is a.names a.items) a.items nothing_known (joined_lists fss, k) found)
      ∙ ap (λ fs. record { structs = t.structs; globals = t.globals; functions = numbered (functions_by fs); main = main_number w }) (sym value)

  abbrev end_of : Option ℕ → List Function → Known → Found Program
  end_of m fs k = kept no_main a.last m >>= (λ n. Ok (parts_of o fs k n))

  ended : (there : Bool) → has_main ≡ there → (fss : List (List Function)) (k : Known) → items_walk o a.items nothing_known ≡ Ok (joined_lists fss, k) → Tells (judged w a.items) (Ok fss)
      → Judges a (end_of (main_by w there) (joined_lists fss) k)
  ended true at fss k found is =
      let keeps : faults_of a ≡ [] = ap (λ fs. fs ++ end_fault has_main) is.0 ∙ ap end_fault at in
      (keeps, same_typed fss k found is.1 keeps)
  ended false at fss k found is = λ wanted.
      let f : Fault = record { at = (text w a.items).tokens; rule = no_main; line = a.last } in
      (f, least_is_first (faults_of a) f (ap (λ fs. least (fs ++ end_fault has_main)) is.0 ∙ ap (λ b. least (end_fault b)) at), refl)

  by_items : (r : Found (List (List Function) × Known)) → items_found ≡ r
      → Judges a (flat r >>= (λ s. main_walk o a.last >>= (λ n. Ok (parts_of o s.0 s.1 n))))
  by_items (Err e) at = items_refused e (subst (λ r. Tells (judged w a.items) (result_of r)) at go.tells)
  by_items (Ok s) at =
      let found : items_walk o a.items nothing_known ≡ Ok (joined_lists s.0, s.1) = items_flat o a.items nothing_known ∙ ap flat at in
      subst (λ m. Judges a (end_of m (joined_lists s.0) s.1)) (sym (main_found w o (outline_is a.names a.items) (outline_functions a.names a.items)))
      (ended has_main refl s.0 s.1 found (subst (λ r. Tells (judged w a.items) (result_of r)) at go.tells))

  walked : program_walk a.names a.items a.last ≡ (flat items_found >>= (λ s. main_walk o a.last >>= (λ n. Ok (parts_of o s.0 s.1 n))))
  walked = ap (λ r. r >>= (λ s. main_walk o a.last >>= (λ n. Ok (parts_of o s.0 s.1 n)))) (items_flat o a.items nothing_known)

pub walk_checks : (a : Ast) (r : Found Program) → program_walk a.names a.items a.last ≡ r → Judges a r
walk_checks a r is = subst (Judges a) (sym (walked a) ∙ is) (by_items a (items_found a) refl)
