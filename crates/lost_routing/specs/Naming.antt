-- Numbers that the indexes give for a question on the elements that patterns name.
use Rattle.std.specs.Prelude.{◌⊎◌, ℕ, List, Contains}
use Rattle.lost_civic.specs.declared.elements.Element.{Element}
use Rattle.lost_civicdex.specs.Keys.{Key}
use Rattle.lost_civicdex.specs.Covers.{names_all}
use Rattle.lost_civicdex.specs.NamedElements.{names_element}
use Rattle.lost_index.specs.Entries.{holders}
use Rattle.lost_regions.specs.Regions.{Regions}

-- among the candidates is each number with a pattern that names all required elements, or else each with one that names another element
abbrev pub AreAmong : List Key → Element → Regions → List ℕ → Type 0
AreAmong required named regions candidates =
    ((number : ℕ) → Contains (holders names_all required regions.references) number → Contains candidates number)
    ⊎ ((number : ℕ) → Contains (holders names_element named regions.references) number → Contains candidates number)
