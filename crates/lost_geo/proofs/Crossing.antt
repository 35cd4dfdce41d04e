-- When one edge crosses at a place.
use Rattle.std.proofs.Common.{arith}
use Rattle.std.proofs.lemmas.Int.{ints}
use Rattle.lost_geo.specs.Laws.{ReverseCrossesAlike}

pub reverse_crosses_alike : ReverseCrossesAlike
reverse_crosses_alike a b p = grind (arith, ints)
