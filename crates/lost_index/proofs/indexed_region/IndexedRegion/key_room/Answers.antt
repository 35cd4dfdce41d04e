-- A cover has no more keys than its profile says.
use Rattle.std.proofs.Common.{subst, arith}
use Rattle.lost_index.proofs.indexed_region.IndexedRegion.key_room.Goals as goal

pub returns : goal.returns
returns g c =
    let bound = g.met.P.Profile.cover_is_bounded c.args.self.now (subst g.P.Profile.is_region c.self.view_is c.self.invariant) in
    omega (arith, bound, c.COVER_MAX.ensures)
