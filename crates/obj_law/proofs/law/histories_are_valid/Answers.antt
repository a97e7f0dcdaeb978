use Rattle.std.proofs.Common.{map}
use Rattle.obj_mem.proofs.Over.{written_made}
use Rattle.obj_run.specs.Entries.{stamps_of}
use Rattle.obj_run.specs.Starts.{global_values, opening}
use Rattle.obj_law.proofs.Valid.{valid}
use Rattle.obj_law.proofs.Firsts.{first_words}
use Rattle.obj_law.proofs.law.histories_are_valid.Goals as goal

pub returns-clause-valid : goal.returns-clause-valid
returns-clause-valid c = valid

pub returns-clause-made : goal.returns-clause-made
returns-clause-made c = λ code input h f d chain o off v is.
    written_made (opening code input) (stamps_of h) (valid code input h f d chain) (first_words (map (global_values code) code.globals) input) o off v is
