-- How the text of a mapping by reference is kept.
use Rattle.lost_spec.specs.Text.{Text}
use Rattle.lost_mapping.specs.declared.reference_text.ReferenceText.{ReferenceText}
use Rattle.lost_mapping.specs.declared.reference_text.ReferenceText.TheVariants.{Short, Long}

-- the bytes of a text, which lies in the value or apart from it
abbrev pub bytes_of : ReferenceText → Text
bytes_of (Short text) = text.items
bytes_of (Long text) = text.items
