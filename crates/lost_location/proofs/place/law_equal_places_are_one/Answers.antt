use Rattle.lost_location.proofs.EqualPlaces.{equal_places}
use Rattle.lost_location.proofs.place.law_equal_places_are_one.Goals as goal

pub returns : goal.returns
returns c = record { holds = equal_places }
