-- Lists of things, seen through what they stand for.
use Rattle.std.proofs.Common.{◌≡◌, List, [], ◌∷◌, map, Some, ap, sym, refl}
use Rattle.std.proofs.lemmas.Simd.{map-map}
use Rattle.serde_json.specs.Data.{Data, array}
use Rattle.serde_json.specs.View.{items_of}
use Rattle.lost_mapping.specs.declared.parts.DisplayName.{DisplayName}
use Rattle.lost_mapping.specs.Parts.{display_name_of, display_names_of}
use Rattle.lost_writing.specs.Replies.{list_data, display_name_data, display_names_data}
use Rattle.lost_writing.specs.Written.{list_if_any}

-- to write what each thing stands for is to write each thing so
pub list_data-map : {Thing Seen : Type 0} (written : Seen → Data) (seen : Thing → Seen) (things : List Thing) → list_data (λ thing. written (seen thing)) things ≡ list_data written (map seen things)
list_data-map written seen things = ap (λ trees. array (items_of trees)) (sym (map-map written seen things))

-- display names are left out where there are none
pub list_if_any-display_names : (names : List DisplayName) → list_if_any (λ name. display_name_data (display_name_of name)) names ≡ display_names_data (display_names_of names)
list_if_any-display_names [] = refl
list_if_any-display_names (name ∷ names) = ap Some (list_data-map display_name_data display_name_of (name ∷ names))
