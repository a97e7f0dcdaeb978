-- A declarator without stars begins with its name.
use Rattle.std.proofs.Common.{◌≡◌, ℕ, List, [], ◌∷◌, refl, ap, arith}
use Rattle.dfi_base.specs.declared.numbers.Line.{Line}
use Rattle.c_ast.specs.declared.decl.Declarator.{Declarator}
use Rattle.c_ast.specs.declared.decl.Decl.{Decl}
use Rattle.c_ast.specs.declared.decl.DeclItem.{DeclItem}
use Rattle.c_ast.specs.declared.program.Item.{Item}
use Rattle.parse_law.specs.Nesting.{Anywhere}
use Rattle.c_parse.specs.Symbol.{Symbols}
use Rattle.c_parse.specs.Types as t
use Rattle.c_parse.specs.Stmts as s
use Rattle.c_parse.specs.Programs as p
use Rattle.line_law.proofs.Decls.{BeginsWithName}
use Rattle.line_law.proofs.Programs.{AllBegin, ItemBegins, AllItemsBegin}

no_stars : {us vs : Symbols} {n : ℕ} → t.StarsAt us n vs → n ≡ 0 → us ≡ vs
no_stars t.no_star e = refl
no_stars (t.star d) e = absurd (omega (arith, e))

abbrev first_line : Line → Symbols → Line
first_line l [] = l
first_line l (x ∷ xs) = x.line

begins : {ts us : Symbols} {d : Declarator} → t.DeclaratorAt ts d us → BeginsWithName d
begins (t.declarator {l = l} stars lengths) e = ap (first_line l) (no_stars stars e)

item_begins : {c : ℕ} {ts us : Symbols} {i : DeclItem} → s.DeclItemAt Anywhere c ts i us → BeginsWithName i.declarator
item_begins (s.plain d) = begins d
item_begins (s.valued d e) = begins d

items_begin : {c : ℕ} {ts us : Symbols} {is : List DeclItem} → s.DeclItemsAt Anywhere c ts is us → AllBegin is
items_begin (s.last i) = (item_begins i, tt)
items_begin (s.more i is) = (item_begins i, items_begin is)

decl_begins : {c : ℕ} {ts us : Symbols} {d : Decl} → s.DeclAt Anywhere c ts d us → AllBegin d.items
decl_begins (s.decl base items) = items_begin items

program_item_begins : {ts us : Symbols} {i : Item} → p.ItemAt Anywhere ts i us → ItemBegins i
program_item_begins (p.struct fields) = tt
program_item_begins (p.decl d) = decl_begins d
program_item_begins (p.function r ps b) = tt
program_item_begins (p.proto r ps) = tt

pub program_begins : {ts : Symbols} {is : List Item} → p.ProgramAt Anywhere ts is → AllItemsBegin is
program_begins p.none = tt
program_begins (p.more i is) = (program_item_begins i, program_begins is)
