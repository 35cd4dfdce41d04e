use Rattle.std.proofs.Common.{subst}
use Rattle.lost_reading.specs.Members.{position_in}
use Rattle.lost_tape.specs.Values.{after_polygon, IsListBefore}
use Rattle.lost_tape.proofs.ValueLemmas.{map_same, ring_part}
use Rattle.lost_tape.proofs.compact_region.read_front_ring.Goals as goal

pub returns : goal.returns
unfolding after_polygon
returns c =
    let positions = c.in_ok-positions.positions.items in
    let list = subst (λ xs. IsListBefore 1 position_in c.args.text.now xs c.in_ok-positions.rest.now) (map_same positions) c.in_ok-positions.ensures in
    ring_part c.args.text.now c.in_ok-positions.rest.now c.in_ok-rest.rest.now positions list c.in_ok-rest.ensures
