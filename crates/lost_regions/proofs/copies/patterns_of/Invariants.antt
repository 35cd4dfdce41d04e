use Rattle.std.proofs.Common.{◌≡◌, take}
use Rattle.lost_regions.proofs.copies.patterns_of.Given as goal

abbrev pub invariant-loop-pattern : goal.invariant-loop-pattern
invariant-loop-pattern l = l.patterns.items ≡ take l.pattern-index l.mapping.regions.patterns
