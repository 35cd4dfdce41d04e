use Rattle.std.proofs.Common.{◌≡◌, true, Some, map, sym, subst, rules, tests}
use Rattle.std.specs.List.{list_all}
use Rattle.json.specs.Tape.{node_token}
use Rattle.serde_json.specs.Read.{read}
use Rattle.lost_tape.specs.Tapes.{data_of, is_sure, nests_within, IsTree}
use Rattle.lost_tape.proofs.TreeLemmas.{tape_read}
use Rattle.lost_tape.proofs.line.root_of.Goals as goal

pub invariant_of-result : goal.invariant_of-result
invariant_of-result c =
    let nests : nests_within 0 (map node_token c.nodes-nodes.result.now) ≡ true = search (rules, tests) in
    let sure : list_all is_sure (map node_token c.nodes-nodes.result.now) ≡ true = search (rules, tests) in
    subst IsTree (sym c.root.ensures.same) (tape_read c.requires.0 _ c.nodes-nodes.result.now c.requires.1 c.nodes-nodes.ensures.tokens nests sure).0

pub returns : goal.returns
returns c text h =
    let nests : nests_within 0 (map node_token c.nodes-nodes.result.now) ≡ true = search (rules, tests) in
    let sure : list_all is_sure (map node_token c.nodes-nodes.result.now) ≡ true = search (rules, tests) in
    subst (λ ts. read text ≡ Some (data_of ts)) (sym c.root.ensures.same) (tape_read text _ c.nodes-nodes.result.now h c.nodes-nodes.ensures.tokens nests sure).1
