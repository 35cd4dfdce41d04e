use Rattle.std.proofs.Common.{◌≡◌, ◌∙◌, Bool, is_some, option_map, ap, rules, tests}
use Rattle.std.specs.Option.{option_copied}
use Rattle.std.specs.List.{find}
use Rattle.std.proofs.lemmas.Iterator.{YieldsList-from_slice}
use Rattle.std.proofs.lemmas.Iterator.Search.{find_from_yields_List}
use Rattle.lost_spec.specs.Request as spec
use Rattle.lost_spec.specs.Place.{kind_of}
use Rattle.lost_mapping.specs.Request.{location_of}
use Rattle.lost_query.proofs.FindLemmas.{find-map}
use Rattle.lost_query.proofs.used.first_used.Goals as goal

pub returns : goal.returns
returns c =
    let is_used : spec.Location → Bool = λ l. is_some (kind_of l.profile) in
    let direct : option_copied c.find.result ≡ find (λ l. is_used (location_of l)) c.args.locations.now = find_from_yields_List (λ l. is_used (location_of l)) _ _ c.find.result c.find.ensures.ran (YieldsList-from_slice c.args.locations.now (cc)) (λ x b q k. search (rules, tests)) in
    ap (option_map location_of) direct ∙ find-map location_of is_used c.args.locations.now
