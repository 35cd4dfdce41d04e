use Rattle.std.proofs.Common.{◌≡◌, filter, take}
use Rattle.lost_desk.specs.Sets.{is_living_at}
use Rattle.lost_desk.proofs.living.living_among.Given as goal

abbrev pub invariant-loop-position : goal.invariant-loop-position
invariant-loop-position l = l.living.items ≡ filter (is_living_at l.moment l.book.mappings) (take l.position-index l.positions)
