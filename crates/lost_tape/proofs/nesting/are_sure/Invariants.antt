use Rattle.std.proofs.Common.{◌≡◌, ◌≤◌, true, map, take, drop}
use Rattle.std.specs.List.{list_all}
use Rattle.json.specs.Tape.{node_token}
use Rattle.lost_tape.specs.Tapes.{is_sure, nests_within}
use Rattle.lost_tape.proofs.nesting.are_sure.Given as goal

abbrev pub invariant-loop-node : goal.invariant-loop-node
invariant-loop-node l = record {
  within : l.level ≤ 127;
  nests : nests_within 0 (map node_token l.nodes) ≡ nests_within l.level (map node_token (drop l.node-index l.nodes));
  numbers : list_all is_sure (map node_token (take l.node-index l.nodes)) ≡ true;
}
