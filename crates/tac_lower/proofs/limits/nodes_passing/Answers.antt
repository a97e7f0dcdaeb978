use Rattle.std.proofs.Common.{◌≡◌, ◌++◌, ◌∙◌, List, ℕ, ap, arith, map, subst, sum, slice_index}
use Rattle.tac_ir.specs.declared.code.Fun.{Fun}
use Rattle.tac_ir.specs.declared.code.Global.{Global}
use Rattle.tac_ir.specs.declared.code.Site.{Site}
use Rattle.tac_lower.specs.tools.Counting.{AreNodes, capped}
use Rattle.tac_lower.specs.Limits.{Share, passing, node_limit, node_shares}
use Rattle.tac_lower.proofs.counted.CountLaws.{node_shares-capped, passing-capped}
use Rattle.tac_lower.proofs.limits.nodes_passing.Goals as goal

-- the shares of each kind, by the table of nodes
abbrev of_globals : List ℕ → List Global → List Share
of_globals nodes globals = map (λ g. record { count = slice_index nodes g.shape; line = g.line }) globals

abbrev of_funs : List ℕ → List Fun → List Share
of_funs nodes funs = map (λ f. record { count = capped (sum (map (slice_index nodes) f.vars)); line = f.line }) funs

abbrev of_sites : List ℕ → List Site → List Share
of_sites nodes sites = map (λ s. record { count = slice_index nodes s.shape; line = s.line }) sites

pub returns : goal.returns
returns c =
    let code = c.args.code.now in
    let nodes = c.in_ok-nodes.nodes.items in
    let one : of_globals c.as_slice-2.result.now c.as_slice-3.result.now ≡ of_globals nodes code.globals = (λ j. of_globals (c.as_slice-2.ensures.value j) (c.as_slice-3.ensures j)) in
    let two : of_funs c.as_slice-4.result.now c.as_slice-5.result.now ≡ of_funs nodes code.funs = (λ j. of_funs (c.as_slice-4.ensures.value j) (c.as_slice-5.ensures j)) in
    let three : of_sites c.as_slice-6.result.now c.as_slice-7.result.now ≡ of_sites nodes code.sites = (λ j. of_sites (c.as_slice-6.ensures.value j) (c.as_slice-7.ensures j)) in
    let first = c.in_ok-add_global_nodes.ensures ∙ (λ j. c.new-shares.ensures.items j ++ one j) in
    let second = c.in_ok-add_fun_nodes.ensures ∙ (λ j. first j ++ two j) in
    let third = c.in_ok-add_site_nodes.ensures ∙ (λ j. second j ++ three j) in
    let all = c.as_slice-8.ensures.value ∙ third ∙ node_shares-capped code nodes (subst (λ shapes. AreNodes shapes nodes) c.as_slice.ensures c.in_ok-nodes.ensures) in
    c.passing.ensures ∙ ap (passing node_limit) all ∙ passing-capped node_limit (node_shares code) (omega arith)
