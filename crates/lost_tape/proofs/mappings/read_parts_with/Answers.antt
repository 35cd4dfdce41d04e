use Rattle.std.proofs.Common.{◌≡◌, [], Some, map, subst}
use Rattle.std.specs.Prelude.{codes}
use Rattle.lost_location.specs.Region.{region_of}
use Rattle.lost_mapping.specs.Parts.{display_name_of}
use Rattle.lost_reading.specs.Desk.{regions_kind, display_name_in}
use Rattle.lost_reading.specs.Members.{defaulting, list_in}
use Rattle.lost_tape.specs.Tapes.{members_of}
use Rattle.lost_tape.proofs.PartsLemmas.{parts_made}
use Rattle.lost_tape.proofs.mappings.read_parts_with.Goals as goal

pub returns : goal.returns
returns c =
    let members = members_of c.args.object.now in
    let regions : defaulting regions_kind [] (codes "serviceBoundary") members ≡ Some (map region_of c.in_ok-defaulting.field-0.items) =
    subst (λ l. defaulting regions_kind (map region_of l) (codes "serviceBoundary") members ≡ Some (map region_of c.in_ok-defaulting.field-0.items)) c.new.ensures.items c.in_ok-defaulting.ensures in
    let names : defaulting (list_in display_name_in) [] (codes "displayName") members ≡ Some (map display_name_of c.in_ok-defaulting-3.field-0.items) =
    subst (λ l. defaulting (list_in display_name_in) (map display_name_of l) (codes "displayName") members ≡ Some (map display_name_of c.in_ok-defaulting-3.field-0.items)) c.new-2.ensures.items c.in_ok-defaulting-3.ensures in
    parts_made members _ _ _ _ _ _ _ _ _ _ _ c.in_ok-required.ensures c.in_ok-optional.ensures regions c.in_ok-defaulting-2.ensures names c.in_ok-optional-2.ensures
