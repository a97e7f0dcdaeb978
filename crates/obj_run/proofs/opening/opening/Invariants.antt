use Rattle.std.proofs.Common.{◌≡◌, ◌++◌, map, drop}
use Rattle.obj_mem.specs.declared.event.Event.{Event}
use Rattle.obj_mem.specs.Opening.{opened, globals_opened}
use Rattle.obj_run.specs.Starts.{global_values}
use Rattle.obj_run.proofs.opening.opening.Given as goal

abbrev pub invariant-loop-site : goal.invariant-loop-site
invariant-loop-site l = l.stamps.items ++ globals_opened l.site (map (global_values l.c) (drop l.site l.global-items)) ≡ globals_opened 0 (map (global_values l.c) l.global-items)

abbrev pub invariant-loop-v : goal.invariant-loop-v
invariant-loop-v l =
    l.stamps.items ++ map (λ v. opened (Event.Given v)) (drop l.v-index l.input) ≡ globals_opened 0 (map (global_values l.c) l.c.globals) ++ map (λ v. opened (Event.Given v)) l.input
