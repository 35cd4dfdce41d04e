-- What is live, is no default, has the service and holds the place holds it.
use Rattle.std.proofs.Common.{not, rules}
use Rattle.lost_spec.specs.Find.{holds, serves, is_holder}
use Rattle.lost_location.specs.Place.{place_of}
use Rattle.lost_routing.proofs.CoverLemmas.{held_of}
use Rattle.lost_routing.proofs.store.Store.at.Goals as goal

pub returns : goal.returns
returns c =
    c.selected.ensures (is_holder c.args.moment.now (place_of c.args.place.now) c.args.service.now) (λ m r says. search rules)
    (λ m h. held_of (serves m c.args.moment.now c.args.service.now) (not m.is_default) (holds m (place_of c.args.place.now)) h)
