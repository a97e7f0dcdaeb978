use Rattle.std.proofs.Common.{◌++◌}
use Rattle.obj_run.specs.Entries.{stamps_of}
use Rattle.obj_run.specs.Starts.{opening}
use Rattle.obj_law.proofs.Sharing.{sharing}
use Rattle.obj_law.proofs.OpenCalls.{opens, makers_open}
use Rattle.obj_law.proofs.MadeFor.{functions_made, frames_active}
use Rattle.obj_law.proofs.Aging.{old_activations}
use Rattle.obj_law.proofs.law.frames_are_calls.Goals as goal

pub returns-clause-shared : goal.returns-clause-shared
returns-clause-shared c = sharing

pub returns-clause-calls : goal.returns-clause-calls
returns-clause-calls c = λ code input good h f d chain. record { calls = opens code input good h f d chain; frames = λ n. makers_open n (stamps_of h ++ opening code input); functions = λ n. functions_made n (stamps_of h ++ opening code input) }

pub returns-clause-old : goal.returns-clause-old
returns-clause-old c = λ code input good e h f g d b before after. old_activations code input good e h f g d b before after

pub returns-clause-living : goal.returns-clause-living
returns-clause-living c = λ code input good h f d chain m lives. frames_active code input good h f d chain m lives
