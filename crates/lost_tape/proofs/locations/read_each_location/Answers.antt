use Rattle.std.proofs.Common.{◌≡◌, List, ◌∷◌, Option, None, Some, true, map, option_map, option_and_then, ap, ◌∙◌, rules, tests}
use Rattle.std.specs.Prelude.{if◌then◌else◌}
use Rattle.serde_json.specs.Data.{Data, Items, item}
use Rattle.serde_json.specs.Find.{as_array}
use Rattle.lost_mapping.specs.Request.{location_of}
use Rattle.lost_reading.specs.Members.{each_of, list_in}
use Rattle.lost_reading.specs.Requests.{location_in, are_locations, if_locations}
use Rattle.lost_tape.specs.Tapes.{data_of}
use Rattle.lost_tape.proofs.locations.read_each_location.Goals as goal

-- the first item, and the list of those after it, make the list
list_from_first : {Thing : Type 0} (kind : Data → Option Thing) (d a : Data) (items rest : Items) (first : Thing) (others : List Thing) → as_array d ≡ Some items → items ≡ item a rest
    → kind a ≡ Some first → each_of kind rest ≡ Some others → list_in kind d ≡ Some (first ∷ others)
list_from_first kind d a items rest first others from begins is_first are_others =
    ap (option_and_then (each_of kind)) from
    ∙ ap (each_of kind) begins
    ∙ ap (option_and_then (λ x. option_map (λ xs. x ∷ xs) (each_of kind rest))) is_first
    ∙ ap (option_map (λ xs. first ∷ xs)) are_others

pub returns-then-are_locations : goal.returns-then-are_locations
returns-then-are_locations c =
    let all = c.in_ok-items.ensures in
    let one = c.in_ok-item.ensures.value all.0 all.2 in
    let found = location_of c.in_ok-first.first ∷ map location_of c.in_ok-rest.rest.items in
    let listed = list_from_first location_in (data_of c.args.tree.now) (data_of c.in_ok-item.item) all.0 one.0 (location_of c.in_ok-first.first) (map location_of c.in_ok-rest.rest.items)
    all.1 one.1 c.in_ok-first.ensures (c.in_ok-rest.ensures one.0 one.2) in
    let are : are_locations found ≡ true = search (rules, tests) in
    ap (option_and_then if_locations) listed ∙ ap (λ b. if b then Some found else None) are
