-- Lists of texts as the definitions see them: by their bytes.
use Rattle.std.specs.Prelude.{List, map, String, string_bytes}
use Rattle.lost_spec.specs.Text.{Text, lowered}
use Rattle.lost_spec.specs.Mapping.{scheme_of}

abbrev pub texts_of : {A : Type 0} → List (String A) → List Text
texts_of texts = map string_bytes texts

-- the scheme of each URI, in lower case
abbrev pub schemes_of : List Text → List Text
schemes_of uris = map (λ uri. lowered (scheme_of uri)) uris
