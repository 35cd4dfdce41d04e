use Rattle.std.proofs.Common.{◌≡◌}
use Rattle.std.specs.List.{list_all}
use Rattle.lost_reading.specs.TreeParts.{is_pattern_entry}
use Rattle.lost_reading.proofs.regions.each_is_taken.Given as goal

abbrev pub invariant-loop-name : goal.invariant-loop-name
invariant-loop-name l = list_all is_pattern_entry l.pairs.entries ≡ list_all is_pattern_entry l.name-iterator
