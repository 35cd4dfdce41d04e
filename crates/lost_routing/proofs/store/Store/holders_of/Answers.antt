use Rattle.std.proofs.Common.{rules}
use Rattle.lost_spec.specs.Find.{holds}
use Rattle.lost_location.specs.Place.{place_of}
use Rattle.lost_routing.proofs.store.Store.holders_of.Goals as goal

pub returns : goal.returns
returns c = c.selected.ensures (λ m. holds m (place_of c.args.place.now)) (λ m r says. search rules) (λ m h. h)
