use Rattle.std.proofs.Common.{◌≡◌, ◌∙◌, rules, tests}
use Rattle.std.specs.List.{list_any}
use Rattle.std.specs.Cow.{cow_str_bytes}
use Rattle.std.proofs.lemmas.Iterator.{YieldsList-from_slice}
use Rattle.std.proofs.lemmas.Iterator.Search.{any_from_yields_List}
use Rattle.lost_spec.specs.Text.{same_text}
use Rattle.lost_reading.proofs.LocationLemmas.{list_any-profiles}
use Rattle.lost_reading.proofs.locations.has_profile.Goals as goal

pub returns : goal.returns
returns c =
    let direct : c.any.result ≡ list_any (λ location. same_text c.args.profile.now (cow_str_bytes location.profile)) c.args.locations.now = any_from_yields_List (λ location. same_text c.args.profile.now (cow_str_bytes location.profile)) _ _ c.any.result c.any.ensures.ran (YieldsList-from_slice c.args.locations.now (cc)) (λ x b q k. search (rules, tests)) in
    direct ∙ list_any-profiles (same_text c.args.profile.now) c.args.locations.now
