use Rattle.std.proofs.Common.{◌≡◌, ◌++◌, List, ℕ}
use Rattle.std.specs.Option.{option_copied}
use Rattle.std.specs.Iterator.Adapters.{rev_source}
use Rattle.std.specs.Slice.Iter.{iter_rest}
use Rattle.lost_spec.specs.Positions.{positions}
use Rattle.lost_spec.specs.Services.{is_holding}
use Rattle.lost_location.specs.Place.{place_of}
use Rattle.lost_query.proofs.HasChildren.{HasChildren}
use Rattle.lost_query.specs.Finding.{at_positions}
use Rattle.lost_query.proofs.services.services_at.Given as goal

abbrev pub invariant-loop-position : goal.invariant-loop-position
invariant-loop-position g l =
    (done : List ℕ) × (iter_rest (rev_source l.position-iterator) ++ done ≡ positions (is_holding l.moment (place_of l.place)) (g.H.Holdings.book l.holdings).mappings)
    × HasChildren (option_copied l.above) (at_positions (g.H.Holdings.book l.holdings).mappings done) l.children
