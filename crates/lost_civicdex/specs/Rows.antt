-- The worked rows of civic keys, each as a fact that holds by computing.
use Rattle.std.specs.Prelude.{◌≡◌, true, false, List, [], ◌∷◌, codes}
use Rattle.lost_spec.specs.Text.{Text}
use Rattle.lost_spec.specs.Examples.{wide_pattern, house_pattern, address_with}
use Rattle.lost_civic.specs.declared.elements.Element.TheVariants.{Country, A1, A3, Hno, Flr, Pc}
use Rattle.lost_civicdex.specs.Keys.{Key, keys_of}
use Rattle.lost_civicdex.specs.Covers.{civic_cover, names_all, required_probes}
use Rattle.lost_civicdex.specs.NamedElements.{names_element, named_cover}

-- the postal code of the row
abbrev pub code : Text
code = codes "07605"

-- a house is kept under its postal code, a town under its name, and an address is looked up under its six elements
abbrev pub CoversRow : Type 0
CoversRow =
    (civic_cover house_pattern ≡ (Pc, code) ∷ [])
    × (civic_cover wide_pattern ≡ (A3, codes "leonia") ∷ [])
    × (keys_of (address_with code) ≡ (Country, codes "us") ∷ (A1, codes "nj") ∷ (A3, codes "leonia") ∷ (Hno, codes "6") ∷ (Flr, codes "2") ∷ (Pc, code) ∷ [])

-- the elements that both patterns name are valid for the address
abbrev pub valid_elements : List Key
valid_elements = (Country, codes "us") ∷ (A1, codes "nj") ∷ (A3, codes "leonia") ∷ []

-- both patterns are references where those are required; the house is none where another text is
abbrev pub ReferencesRow : Type 0
ReferencesRow =
    (keys_of house_pattern ≡ (Country, codes "us") ∷ (A1, codes "nj") ∷ (A3, codes "leonia") ∷ (Hno, codes "5") ∷ (Pc, code) ∷ [])
    × (required_probes valid_elements ≡ (A3, codes "leonia") ∷ [])
    × (names_all wide_pattern valid_elements ≡ true)
    × (names_all house_pattern valid_elements ≡ true)
    × (names_all house_pattern ((A3, codes "leonia") ∷ (Hno, codes "6") ∷ []) ≡ false)
    × (names_all wide_pattern ((Pc, code) ∷ []) ≡ false)

-- a house is kept under the five elements that it names, and the town names no postal code
abbrev pub NamedRow : Type 0
NamedRow =
    (named_cover house_pattern ≡ Country ∷ A1 ∷ A3 ∷ Hno ∷ Pc ∷ [])
    × (names_element house_pattern Pc ≡ true)
    × (names_element wide_pattern Pc ≡ false)
