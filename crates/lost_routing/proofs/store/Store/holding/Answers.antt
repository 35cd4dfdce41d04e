-- What is live, is no default and holds the place holds it.
use Rattle.std.proofs.Common.{not, rules}
use Rattle.lost_spec.specs.Mapping.{is_live}
use Rattle.lost_spec.specs.Find.{holds}
use Rattle.lost_spec.specs.Services.{is_holding}
use Rattle.lost_location.specs.Place.{place_of}
use Rattle.lost_routing.proofs.CoverLemmas.{held_of}
use Rattle.lost_routing.proofs.store.Store.holding.Goals as goal

pub returns : goal.returns
returns c =
    c.selected.ensures (is_holding c.args.moment.now (place_of c.args.place.now)) (λ m r says. search rules)
    (λ m h. held_of (is_live m c.args.moment.now) (not m.is_default) (holds m (place_of c.args.place.now)) h)
