use Rattle.std.proofs.Common.{◌≡◌, take}
use Rattle.lost_query.specs.Finding.{at_positions, all_found}
use Rattle.lost_query.proofs.picks.standing_at.Given as goal

abbrev pub invariant-loop-position : goal.invariant-loop-position
invariant-loop-position g l = all_found l.found ≡ at_positions (g.H.Holdings.book l.holdings).mappings (take l.position-index l.positions)
