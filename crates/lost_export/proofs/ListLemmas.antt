-- Trees of a list, one after another.
use Rattle.std.proofs.Common.{◌≡◌, ℕ, ◌+◌, ◌<◌, List, [], ◌∷◌, ◌++◌, map, Some, take, length, get_or, sym, ap, ◌∙◌, append_assoc, false, ◌==◌}
use Rattle.std.proofs.lemmas.List.{take_more, map-append}
use Rattle.serde_json.specs.Data.{Data}
use Rattle.serde_json.specs.View.{view}
use Rattle.serde_json.specs.declared.value.Value.{Value}
use Rattle.lost_mapping.specs.declared.parts.DisplayName.{DisplayName}
use Rattle.lost_mapping.specs.Parts.{display_name_of, display_names_of}
use Rattle.lost_writing.proofs.ListLemmas.{list_data-map}
use Rattle.lost_export.specs.Export.{list_data, display_name_data, display_names_data}

-- one more tree is added after those up to a place
pub one_more : {Thing : Type 0} (shown : Thing → Data) (things : List Thing) (i : ℕ) (thing : Thing) (before list : List Value) (tree : Value) → i < length things → thing ≡ get_or things i thing
    → map view list ≡ map view before ++ map shown (take i things) → view tree ≡ shown thing → map view (list ++ tree ∷ []) ≡ map view before ++ map shown (take (i + 1) things)
one_more shown things i thing before list tree within is so_far of_thing =
    let longer : take (i + 1) things ≡ take i things ++ thing ∷ [] = take_more things i thing within ∙ ap (λ item. take i things ++ item ∷ []) (sym is) in
    let trees : map shown (take (i + 1) things) ≡ map shown (take i things) ++ shown thing ∷ [] = ap (map shown) longer ∙ map-append shown (take i things) (thing ∷ []) in
    map-append view list (tree ∷ [])
    ∙ (ap (λ front. front ++ view tree ∷ []) so_far
    ∙ (ap (λ last. (map view before ++ map shown (take i things)) ++ last ∷ []) of_thing
    ∙ (append_assoc (map view before) (map shown (take i things)) (shown thing ∷ []) ∙ ap (λ more. map view before ++ more) (sym trees))))

-- display names are there where there is one
pub some_display_names : (names : List DisplayName) → false ≡ (length names == 0) → display_names_data (display_names_of names) ≡ Some (list_data (λ name. display_name_data (display_name_of name)) names)
some_display_names [] some = absurd (cc)
some_display_names (name ∷ names) some = ap Some (sym (list_data-map display_name_data display_name_of (name ∷ names)))
