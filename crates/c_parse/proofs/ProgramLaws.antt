-- Programs are read by their grammar.
use Rattle.std.proofs.Common.{◌≡◌, ℕ, ◌+◌, ◌≤◌, ◌⊎◌, inl, inr, Bool, true, false, Option, Some, None, List, [], ◌∷◌, ◌++◌, refl, arith}
use Rattle.std.specs.Prelude.{is_some}
use Rattle.dfi_base.specs.declared.numbers.Line.{Line}
use Rattle.c_lex.specs.declared.token.Word.{Word}
use Rattle.c_lex.specs.declared.token.Mark.{Mark}
use Rattle.c_ast.specs.declared.ident.Ident.{Ident}
use Rattle.c_ast.specs.declared.decl.Base.{Base}
use Rattle.c_ast.specs.declared.decl.ResultType.{ResultType}
use Rattle.c_ast.specs.declared.decl.Declarator.{Declarator}
use Rattle.c_ast.specs.declared.decl.Decl.{Decl}
use Rattle.c_ast.specs.declared.decl.DeclItem.{DeclItem}
use Rattle.c_ast.specs.declared.decl.Params.{Params}
use Rattle.c_ast.specs.declared.decl.ProtoParams.{ProtoParams}
use Rattle.c_ast.specs.declared.program.Field.{Field}
use Rattle.c_ast.specs.declared.program.Item.{Item}
use Rattle.parse_law.specs.tools.Parsing.{fault, unexpected, and_then, Parser, ◌>>=◌, ◌>>◌, pure, refuse, many, whole}
use Rattle.parse_law.specs.Nesting.{May}
use Rattle.parse_law.specs.Tells.{Tells}
use Rattle.parse_law.proofs.Forms.{Form, Completes, Law}
use Rattle.parse_law.proofs.Bind.{Seq}
use Rattle.parse_law.proofs.Steps.{Any, Nothing, fits_any, nil_cons, false_true, convert}
use Rattle.parse_law.proofs.Repeat.{Takes, found_law}
use Rattle.parse_law.proofs.Verdicts.{All, Whole, whole_law, tells}
use Rattle.c_parse.specs.declared.sorts.BaseWord.{BaseWord}
use Rattle.c_parse.specs.declared.sorts.ItemStart.{ItemStart}
use Rattle.c_parse.specs.Symbol.{Symbol, Symbols, word, mark, name}
use Rattle.c_parse.specs.tools.Sorts.{base_word, item_start}
use Rattle.c_parse.specs.tools.Tokens.{next, kind_of, want, is_mark, mark_at, word_at, goes}
use Rattle.c_parse.specs.Types.{no_star, no_length, length as one_length, void, ProtoListAt}
use Rattle.c_parse.specs.Programs.{ItemAt, ProgramAt}
use Rattle.c_parse.specs.tools.TypeParser.{has}
use Rattle.c_parse.specs.tools.StmtParser.{is_open, stmt}
use Rattle.parse_law.specs.tools.Parsing as parsing
use Rattle.c_parse.specs.tools.TypeParser as types
use Rattle.c_parse.specs.tools.StmtParser as statements
use Rattle.c_parse.specs.tools.ProgramParser as spec
use Rattle.c_parse.proofs.Parts.{Part, Gives, gives, gives_part, seq, takes_seq, takes_want, restate, Branch, branch, refuses, dispatch}
use Rattle.c_parse.proofs.TokenParts.{MarkAt, marked, mark_any, mark_part, word_any, ident_any, ident_part, AnyToken, line_one, Only, only_mark, located_part}
use Rattle.c_parse.proofs.Lists.{many_part, others_part, Others, no_tail, tail}
use Rattle.c_parse.proofs.TypeLaws.{NoBracket, base_part, stars_part, declarator_part, Declared, declared_part, parameter_list_part}
use Rattle.c_parse.proofs.OperandForms.{takes_choose, takes_refuse}
use Rattle.c_parse.proofs.DeclLaws.{ValuedAt, without, with_value, valued_part, DeclRest, decl_rest_part, Declarators}
use Rattle.c_parse.proofs.StmtForms.{Blocks}
use Rattle.c_parse.proofs.StmtLaws.{block_part}
use Rattle.c_parse.proofs.StmtKnot.{stmt_known, stmt_none}
use Rattle.c_parse.proofs.ProgramForms.{Fields, field_to, field_back, fields_start, no_field, next_field, FieldTails, tails_split, MoreFields, StructRests, struct_to, struct_back, SignatureEnd, with_body, bodiless, SignatureEnds, FunctionBy, SignatureBy, signature_end_to, block_first, signature_end_back, proto_end, Signatures, signature_to, signature_back, GlobalEnd, of_signature, of_declared, GlobalEnds, GlobalBy, global_end_to, signature_first, global_end_back, GlobalFrom, Globals, ItemForms, TaggedBy, TaggedAt, tagged_struct, tagged_global, Taggeds, tagged_to, struct_first, tagged_back, ItemBy, item_to, signed_global, item_back}
use Rattle.dfi_base.specs.Limits.{nesting_limit}

-- ---- the parts

-- any token may begin an item, whatever came before
abbrev AnyItem : Symbol → Type 0
AnyItem t = (i : Item) → AnyToken t

data ItemList (M : May Symbol) : Symbols → List Item → Symbols → Type 0 where
  no_item : {ts : Symbols} → ItemList M ts [] ts
  next_item : {i : Item} {others : List Item} {ts m r : Symbols} → ItemAt M ts i m → ItemList M m others r → ItemList M ts (i ∷ others) r

abbrev ItemLists : Form Symbol (List Item)
ItemLists M ts all r = ItemList M ts all r

items_split : (M : May Symbol) (ts r : Symbols) (all : List Item) → ItemList M ts all r
    → ((all ≡ []) × (ts ≡ r)) ⊎ ((i : Item) × (others : List Item) × (m : Symbols) × (all ≡ i ∷ others) × ItemAt M ts i m × ItemList M m others r)
items_split M ts r all no_item = inl (refl, refl)
items_split M ts r all (next_item d ds) = inr (_, _, _, refl, d, ds)

items_start : (M : May Symbol) (ts m : Symbols) (i : Item) → ItemAt M ts i m
    → (t : Symbol) × (us : Symbols) × (ts ≡ t ∷ us) × (goes spec.is_more t ≡ true) × ((j : Item) → AnyToken t)
items_start M [] m i d = absurd (item_back M [] i m d)
items_start M (t ∷ us) m i d = (t, us, refl, refl, λ j. tt)

items_all : {M : May Symbol} {ts : Symbols} {all : List Item} → ItemList M ts all [] → ProgramAt M ts all
items_all no_item = ProgramAt.none
items_all (next_item d ds) = ProgramAt.more d (items_all ds)

all_items : {M : May Symbol} {ts : Symbols} {all : List Item} → ProgramAt M ts all → ItemList M ts all []
all_items ProgramAt.none = no_item
all_items (ProgramAt.more d ds) = next_item d (all_items ds)

rest_more : {M : May Symbol} {b : Base} {j : DeclItem} {ts : Symbols} {x : Decl} {r : Symbols} → DeclRest 0 b j M ts x r → is_some (next ts) ≡ true
rest_more (items, o, (others, no_tail, g), (q, u, marked, h)) = refl
rest_more (items, o, (others, tail e f, g), (q, u, m, h)) = refl

declared_more : {M : May Symbol} {l : Line} {b : Base} {n : ℕ} {i : Ident} {ts m o : Symbols} {d : Declarator} {j : DeclItem} {x : Decl} {r : Symbols}
    → Declared l n i M ts d m → ValuedAt M 0 d m j o → DeclRest 0 b j M o x r → is_some (next ts) ≡ true
declared_more (ks, u, one_length ds, g) f h = refl
declared_more (ks, u, no_length, gives) (with_value e) h = refl
declared_more {M = M} {b = b} (ks, u, no_length, gives) without h = rest_more {M = M} {b = b} h

module _ (limit : ℕ) where
  others_here : (d : Declarator) → Part limit (spec.more_declarators (d ∷ [])) (Others Declarators d) (λ all. Only Mark.Semicolon) NoBracket
  others_here =
      others_part limit types.declarator Declarators NoBracket (Only Mark.Semicolon) AnyToken (λ l. refl)
      (only_mark Mark.Semicolon (λ t. has Mark.Comma t ≡ false) (λ l. refl)) (only_mark Mark.Semicolon NoBracket (λ l. refl)) (declarator_part limit)

  field_rest : (b : Base)
      → Part limit {A = Field} (types.declarator >>= (λ d. spec.more_declarators (d ∷ []) >>= (λ items. want (mark_at Mark.Semicolon) >>= (λ q. pure (record { base = b; items = items })))))
      (Seq Declarators (λ d. Seq (Others Declarators d) (λ items. Seq (MarkAt Mark.Semicolon) (λ q. Gives (record { base = b; items = items }))))) Any AnyToken
  field_rest b =
      seq limit (declarator_part limit) (λ d. seq limit (others_here d) (λ items. seq limit (mark_part limit Mark.Semicolon (λ l. refl))
      (λ q. gives_part limit (record { base = b; items = items }))))

  field_part : Part limit spec.field Fields Any AnyToken
  unfolding spec.field
  field_part = restate limit Fields Any AnyToken (seq limit (base_part limit) field_rest) field_to (λ M ts f r d h. field_back M ts f r d) (λ f t h. h) (λ t h. h)

  takes_base : Takes types.base
  unfolding types.base
  takes_base = takes_choose base_word types.base_by by
    where
      by : (k : BaseWord) → Takes (types.base_by k)
      by BaseWord.Int = takes_seq limit {G = Any} (takes_want (word_at Word.Int)) (λ l. gives_part limit {F = Any} (Base.Int l))
      by BaseWord.Struct = takes_seq limit {G = Any} (takes_want (word_at Word.Struct)) (λ l. seq limit (ident_any limit) (λ i. gives_part limit {F = Any} (Base.Struct l i)))
      by BaseWord.Other = takes_refuse unexpected

  takes_field : Takes spec.field
  unfolding spec.field
  takes_field = takes_seq limit {G = Any} takes_base field_rest

  more_fields_part : (f : Field) → Part limit (spec.more_fields (f ∷ [])) (MoreFields f) (λ all. Only Mark.CloseBrace) AnyToken
  more_fields_part f = record {
    law = found_law limit (goes is_open) spec.field Fields FieldTails Any (λ all. Only Mark.CloseBrace) (λ M ts. no_field) (λ M ts m r a others d ds. next_field d ds) tails_split fields_start
        (λ all. only_mark Mark.CloseBrace (λ t. goes is_open t ≡ false) (λ l. refl)) (λ all t h b. tt) field_part.law takes_field (f ∷ []);
    leads = λ M ts all r d h. fits_any {A = Field} f ts;
    whole = record { tokens = []; value = f ∷ []; holds = λ M l r free h. ([], no_field, refl) };
  }

  struct_rest_part : (l : Line) (i : Ident) → Part limit (spec.struct_rest l i) (StructRests l i) Any AnyToken
  unfolding spec.struct_rest
  struct_rest_part l i =
      restate limit (StructRests l i) Any AnyToken
      (seq limit (mark_any limit Mark.OpenBrace) (λ p. seq limit field_part (λ f. seq limit (more_fields_part f) (λ fields. seq limit (mark_part limit Mark.CloseBrace (λ l. refl))
      (λ q. seq limit (mark_any limit Mark.Semicolon) (λ s. gives_part limit (Item.Struct (record { line = l; tag = i; fields = fields }))))))))
      (struct_to l i) (λ M ts x r d h. struct_back l i M ts x r d) (λ x t h. h) (λ t h. h)

  body_part : Part limit (spec.body limit) (Blocks 0) Any AnyToken
  unfolding spec.body
  body_part =
      let Good : ℕ → Type 0 = λ d. limit ≤ d + limit in
      let up : (d e : ℕ) → d ≤ e → Good d → Good e = λ d e l g. omega arith in
      block_part limit (stmt limit limit) (stmt_none limit limit) Good up (λ d g. (stmt_known limit limit d g).law) (λ d g. (stmt_known limit limit d g).takes) 0 (omega arith)

  function_branch : (t : ResultType) (i : Ident) (o : Option Params) → Branch limit (spec.function_by limit t i o) (FunctionBy t i o) Any AnyToken
  function_branch t i None = refuses limit
  function_branch t i (Some qs) = branch limit (seq limit body_part (λ b. gives_part limit (Item.Function (record { result = t; name = i; params = qs; body = b }))))

  signature_branches : (t : ResultType) (i : Ident) (ps : ProtoParams) (b : Bool)
      → Branch limit (spec.signature_by limit t i ps b) (SignatureBy t i ps b) Any AnyToken
  signature_branches t i ps true = function_branch t i (spec.named_params ps)
  signature_branches t i ps false = branch limit (seq limit (mark_any limit Mark.Semicolon) (λ q. gives_part limit (Item.Proto (record { result = t; name = i; params = ps }))))

  signature_end_part : (t : ResultType) (i : Ident) (ps : ProtoParams) → Part limit (spec.signature_end limit t i ps) (SignatureEnds t i ps) Any AnyToken
  unfolding spec.signature_end want
  signature_end_part t i ps =
      dispatch limit (λ u. is_mark Mark.OpenBrace (kind_of u)) (spec.signature_by limit t i ps) (SignatureBy t i ps) (SignatureEnds t i ps) Any AnyToken
      (λ M u us. signature_end_to t i ps (is_mark Mark.OpenBrace (Some u.kind)) M (u ∷ us)) (λ M ts x r d h. signature_end_back t i ps M ts x r d) (signature_branches t i ps)
      (record { tokens = mark Mark.Semicolon line_one ∷ []; value = Item.Proto (record { result = t; name = i; params = ps }); holds = λ M l r free h. bodiless })
      stuck (λ M x r d h. nothing d)
    where
      stuck : fault unexpected 0 ≡ spec.signature_by limit t i ps false []
      stuck = refl

      nothing : {M : May Symbol} {x : Item} {r : Symbols} → SignatureEnd M t i ps [] x r → ⊥
      nothing (with_body e d) = false_true (block_first d)

  signature_part : (t : ResultType) (i : Ident) → Part limit (spec.signature limit t i) (Signatures t i) Any AnyToken
  unfolding spec.signature
  signature_part t i =
      restate limit (Signatures t i) Any AnyToken
      (seq limit (mark_any limit Mark.OpenParen) (λ p. seq limit (parameter_list_part limit) (λ ps. seq limit (mark_part limit Mark.CloseParen (λ l. refl)) (λ q. signature_end_part t i ps))))
      (signature_to t i) (λ M ts x r d h. signature_back t i M ts x r d) (λ x t h. h) (λ t h. h)

  global_decl_part : (l : Line) (b : Base) (n : ℕ) (i : Ident) → Part limit (spec.global_by limit l b n i false) (GlobalBy l b n i false) Any AnyToken
  global_decl_part l b n i =
      seq limit (declared_part limit l n i) (λ d. seq limit (valued_part limit 0 d) (λ j. seq limit (decl_rest_part limit 0 b j) (λ x. gives_part limit (Item.Decl x))))

  global_branches : (l : Line) (b : Base) (n : ℕ) (i : Ident) (k : Bool) → Branch limit (spec.global_by limit l b n i k) (GlobalBy l b n i k) Any AnyToken
  global_branches l b n i true = branch limit (signature_part (ResultType.Type b n) i)
  global_branches l b n i false = branch limit (global_decl_part l b n i)

  global_end_part : (l : Line) (b : Base) (n : ℕ) (i : Ident) → Part limit (spec.global_end limit l b n i) (GlobalEnds l b n i) Any AnyToken
  unfolding spec.global_end types.declared parsing.repeat parsing.turns parsing.peek statements.valued statements.decl_rest want
  global_end_part l b n i =
      dispatch limit (λ t. is_mark Mark.OpenParen (kind_of t)) (spec.global_by limit l b n i) (GlobalBy l b n i) (GlobalEnds l b n i) Any AnyToken
      (λ M t us. global_end_to l b n i (is_mark Mark.OpenParen (Some t.kind)) M (t ∷ us)) (λ M ts x r d h. global_end_back l b n i M ts x r d) (global_branches l b n i)
      (let w : Completes limit (GlobalBy l b n i false) Any [] [] = (global_decl_part l b n i).whole in
      record { tokens = w.tokens; value = w.value; holds = λ M l' r free h. global_end_to l b n i false M (w.tokens ++ r) w.value r (w.holds M l' r free h) })
      stuck (λ M x r d h. nothing d)
    where
      stuck : fault unexpected 0 ≡ spec.global_by limit l b n i false []
      stuck = refl

      nothing : {M : May Symbol} {x : Item} {r : Symbols} → GlobalEnd M l b n i [] x r → ⊥
      nothing (of_signature d) = false_true (signature_first d)
      nothing {M = M} (of_declared e f g) = false_true (declared_more {M = M} {l = l} {b = b} {n = n} {i = i} e f g)

  global_from_part : (b : Base) (l : Line) → Part limit (spec.global_from limit b l) (GlobalFrom b l) Any AnyToken
  unfolding spec.global_from
  global_from_part b l = seq limit (stars_part limit) (λ n. seq limit (ident_part limit (λ k p. refl)) (λ i. global_end_part l b n i))

  global_part : (b : Base) → Part limit (spec.global limit b) (Globals b) Any AnyToken
  unfolding spec.global
  global_part b =
      located_part limit (spec.global_from limit b) (GlobalFrom b) (Globals b) Any AnyToken (λ M t us x r d. (t, us, refl, d)) (λ M ts x r d. d) (global_from_part b)
      (record {
        tokens = name 0 line_one ∷ mark Mark.OpenParen line_one ∷ mark Mark.CloseParen line_one ∷ mark Mark.Semicolon line_one ∷ [];
        value = Item.Proto (record { result = ResultType.Type b 0; name = record { line = line_one; name = 0 }; params = ProtoParams.Empty });
        holds = λ M l r free h. signed_global no_star (proto_end ProtoListAt.empty);
      })

  tagged_branches : (l : Line) (i : Ident) (k : Bool) → Branch limit (spec.tagged_by limit l i k) (TaggedBy l i k) Any AnyToken
  tagged_branches l i true = branch limit (struct_rest_part l i)
  tagged_branches l i false = branch limit (global_part (Base.Struct l i))

  tagged_part : (l : Line) (i : Ident) → Part limit (spec.tagged limit l i) (Taggeds l i) Any AnyToken
  unfolding spec.tagged spec.global
  tagged_part l i =
      dispatch limit (λ t. is_mark Mark.OpenBrace (kind_of t)) (spec.tagged_by limit l i) (TaggedBy l i) (Taggeds l i) Any AnyToken
      (λ M t us. tagged_to l i (is_mark Mark.OpenBrace (Some t.kind)) M (t ∷ us)) (λ M ts x r d h. tagged_back l i M ts x r d) (tagged_branches l i)
      (let w : Completes limit (Globals (Base.Struct l i)) Any [] [] = (global_part (Base.Struct l i)).whole in
      record { tokens = w.tokens; value = w.value; holds = λ M l' r free h. tagged_global (w.holds M l' r free h) })
      stuck (λ M x r d h. nothing d)
    where
      stuck : fault unexpected 0 ≡ spec.global limit (Base.Struct l i) []
      stuck = refl

      nothing : {M : May Symbol} {x : Item} {r : Symbols} → TaggedAt M l i [] x r → ⊥
      nothing (tagged_struct d) = false_true (struct_first d)
      nothing (tagged_global (t, us, e, d)) = nil_cons e

  item_branches : (k : ItemStart) → Branch limit (spec.item_by limit k) (ItemBy k) Any AnyToken
  item_branches ItemStart.Int = branch limit (seq limit (word_any limit Word.Int) (λ l. global_part (Base.Int l)))
  item_branches ItemStart.Struct = branch limit (seq limit (word_any limit Word.Struct) (λ l. seq limit (ident_any limit) (λ i. tagged_part l i)))
  item_branches ItemStart.Void = branch limit (seq limit (word_any limit Word.Void) (λ l. seq limit (ident_any limit) (λ i. signature_part (ResultType.Void l) i)))
  item_branches ItemStart.Other = refuses limit

  item_part : Part limit (spec.item limit) ItemForms Any AnyToken
  unfolding spec.item
  item_part =
      dispatch limit (λ t. item_start (kind_of t)) (spec.item_by limit) ItemBy ItemForms Any AnyToken
      (λ M t us. item_to (item_start (Some t.kind)) M (t ∷ us)) (λ M ts x r d h. item_back M ts x r d) item_branches
      (record {
        tokens = word Word.Void line_one ∷ name 0 line_one ∷ mark Mark.OpenParen line_one ∷ mark Mark.CloseParen line_one ∷ mark Mark.Semicolon line_one ∷ [];
        value = Item.Proto (record { result = ResultType.Void line_one; name = record { line = line_one; name = 0 }; params = ProtoParams.Empty });
        holds = λ M l r free h. ItemAt.proto void ProtoListAt.empty;
      })
      refl (λ M x r d h. item_back M [] x r d)

  takes_item : Takes (spec.item limit)
  unfolding spec.item
  takes_item = takes_choose item_start (spec.item_by limit) by
    where
      by : (k : ItemStart) → Takes (spec.item_by limit k)
      by ItemStart.Int = takes_seq limit {G = Any} (takes_want (word_at Word.Int)) (λ l. global_part (Base.Int l))
      by ItemStart.Struct = takes_seq limit {G = Any} (takes_want (word_at Word.Struct)) (λ l. seq limit (ident_any limit) (λ i. tagged_part l i))
      by ItemStart.Void = takes_seq limit {G = Any} (takes_want (word_at Word.Void)) (λ l. seq limit (ident_any limit) (λ i. signature_part (ResultType.Void l) i))
      by ItemStart.Other = takes_refuse unexpected

  items_part : Part limit (spec.more_items limit []) ItemLists Nothing AnyItem
  items_part =
      many_part limit (goes spec.is_more) (spec.item limit) ItemForms ItemLists Any (λ t. ⊥) (λ M ts. no_item) (λ M ts m r i others d ds. next_item d ds)
      items_split items_start (λ t h. absurd h) (λ t h i. tt) item_part.law takes_item

  -- the parser of programs is the grammar
  pub program_law : Law limit (spec.program limit) (All ProgramAt) Nothing
  unfolding spec.program
  program_law =
      convert limit (whole (spec.more_items limit [])) (All (Whole ItemLists)) Nothing (All ProgramAt) Nothing
      (λ M ts a r (d, e). (items_all d, e)) (λ M ts a r (d, e) h. (all_items d, e)) (λ a t h. h)
      (whole_law limit (spec.more_items limit []) ItemLists Nothing items_part.law)

-- What the parser of programs answers.
pub program_tells : (ts : Symbols) → Tells ProgramAt nesting_limit ts (spec.program nesting_limit ts)
program_tells = tells nesting_limit ProgramAt (spec.program nesting_limit) (program_law nesting_limit)
