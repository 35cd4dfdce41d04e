use Rattle.std.proofs.Common.{◌≡◌, map, take}
use Rattle.lost_writing.specs.Tokens.{then_values}
use Rattle.lost_writing.proofs.writing.lists.write_each.Given as goal

abbrev pub invariant-loop-thing : goal.invariant-loop-thing
invariant-loop-thing g l = l.text ≡ then_values (map g.T.Written.tree (take l.thing-index l.things)) l.initial.text
