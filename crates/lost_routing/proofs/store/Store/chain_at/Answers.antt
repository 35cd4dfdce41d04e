-- What is eligible and holds the place has the service or one above it, and holds it.
use Rattle.std.proofs.Common.{not, rules}
use Rattle.lost_spec.specs.Service.{is_at_or_below}
use Rattle.lost_spec.specs.Mapping.{is_live}
use Rattle.lost_spec.specs.Find.{holds}
use Rattle.lost_location.specs.Place.{place_of}
use Rattle.lost_routing.specs.Chain.{is_eligible, is_chain_holder}
use Rattle.lost_routing.proofs.CoverLemmas.{left_of, right_of, held_of}
use Rattle.lost_routing.proofs.store.Store.chain_at.Goals as goal

pub returns : goal.returns
returns c =
    let t = c.args.moment.now in
    let l = place_of c.args.place.now in
    let s = c.args.service.now in
    c.selected_below.ensures (is_chain_holder t l s) (λ m r says. search rules)
    (λ m h. record {
      above = held_of (is_live m t) (not m.is_default) (is_at_or_below s m.service) (left_of (is_eligible t s m) (holds m l) h);
      holder = right_of (is_eligible t s m) (holds m l) h;
    })
