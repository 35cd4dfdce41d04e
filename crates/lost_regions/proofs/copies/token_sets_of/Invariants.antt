use Rattle.std.proofs.Common.{◌≡◌, take}
use Rattle.lost_regions.proofs.copies.token_sets_of.Given as goal

abbrev pub invariant-loop-set : goal.invariant-loop-set
invariant-loop-set l = l.sets.items ≡ take l.set-index l.mapping.regions.token_sets
