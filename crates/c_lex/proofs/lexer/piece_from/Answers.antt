use Rattle.std.proofs.Common.{arith}
use Rattle.c_lex.proofs.Steps.{none_found, piece_found, piece_long}
use Rattle.c_lex.proofs.lexer.piece_from.Goals as goal

pub returns-in_err-length-clause-piece : goal.returns-in_err-length-clause-piece
returns-in_err-length-clause-piece c = rw c.from_residual.ensures (none_found c.args.bytes.now c.args.at c.requires c.in_err-length.ensures)

pub overflow_add-result : goal.overflow_add-result
overflow_add-result c =
    let p = piece_found c.args.bytes.now c.args.at c.in_ok-length.length c.in_ok-length.piece c.requires c.in_ok-length.ensures in
    grind (arith, p.within)

pub returns-clause-piece : goal.returns-clause-piece
returns-clause-piece c = piece_found c.args.bytes.now c.args.at c.in_ok-length.length c.in_ok-length.piece c.requires c.in_ok-length.ensures

pub returns-clause-further : goal.returns-clause-further
returns-clause-further c = piece_long _ _ _ c.in_ok-length.piece (piece_found c.args.bytes.now c.args.at c.in_ok-length.length c.in_ok-length.piece c.requires c.in_ok-length.ensures)

pub returns-clause-within : goal.returns-clause-within
returns-clause-within c = (piece_found c.args.bytes.now c.args.at c.in_ok-length.length c.in_ok-length.piece c.requires c.in_ok-length.ensures).within
