use Rattle.std.proofs.Common.{arith, sym, ◌∙◌}
use Rattle.c_lex.proofs.Steps.{gap_taken, names_few, tells_byte, tells_piece, token_taken}
use Rattle.c_lex.proofs.lexer.Found.take_piece.Goals as goal
use Rattle.c_lex.proofs.lexer.Found.take_piece.Goals.{then-not-is_gap+in_ok-add_token, else-not-is_gap}

pub returns-in_default-clause-fault : goal.returns-in_default-clause-fault
returns-in_default-clause-fault c =
    tells_byte c.args.bytes.now c.args.self.now.tokens c.args.self.now.names c.args.self.now.line c.args.at c.requires.read c.in_default.ensures.piece

pub returns-in-Some-fault_of-clause-fault : goal.returns-in-Some-fault_of-clause-fault
returns-in-Some-fault_of-clause-fault c =
    tells_piece c.args.bytes.now c.args.self.now.tokens c.args.self.now.names c.args.self.now.line c.args.at c.in-Some.end c.in-Some.piece c.in-Some-fault_of.fault c.requires.read c.in-Some.ensures.piece (sym c.in-Some-fault_of.ensures)

pub add_token-requires-clause-few : goal.add_token-requires-clause-few
add_token-requires-clause-few c = let few = names_few _ _ _ _ _ c.requires.read in omega (arith, few)

pub returns-clause-read : goal.returns-clause-read
returns-clause-read c =
    elim c.if-not-is_gap.branch [
      | then-not-is_gap+in_ok-add_token w ↦
          let added = w.in_ok-add_token.ensures in
          rw (w.self-is, added.line, c.newlines.ensures.value)
          (token_taken c.args.bytes.now c.args.self.now.tokens w.add_token.new.self.tokens c.args.self.now.names w.add_token.new.self.names c.args.self.now.line c.args.at c.in-Some.end c.in-Some.piece
          c.requires.read c.in-Some.ensures.piece added.added added.names)
      | else-not-is_gap w ↦
          rw (w.self-is, c.newlines.ensures.value) (gap_taken c.args.bytes.now c.args.self.now.tokens c.args.self.now.names c.args.self.now.line c.args.at c.in-Some.end c.in-Some.piece (sym c.is_gap.ensures ∙ w.if-not-is_gap.false) c.requires.read c.in-Some.ensures.piece)
    ]
