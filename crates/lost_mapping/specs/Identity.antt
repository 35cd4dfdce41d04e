-- Which texts make an identity, and how one is kept.
use Rattle.std.specs.Prelude.{◌≡◌, not, Option, [], ◌∷◌, IsTrue}
use Rattle.lost_spec.specs.declared.faults.MappingError.{MappingError}
use Rattle.lost_spec.specs.declared.faults.MappingError.TheVariants.{BadSource, BadSourceId}
use Rattle.lost_spec.specs.Token.{is_id}
use Rattle.lost_spec.specs.Text.{Text, lowered, first_fault}
use Rattle.lost_spec.specs.Mapping.{is_source}

-- the first refusal of a source and a sourceId (RFC 5222, section 5.1; order own)
abbrev pub identity_fault : Text → Text → Option MappingError
identity_fault source source_id = first_fault ((not (is_source source), BadSource) ∷ (not (is_id source_id), BadSourceId) ∷ [])

-- the source is one, in lower case, and the sourceId is one
pub record IsWellFormed (source source_id : Text) : Type 0 where
  pub source_is : IsTrue (is_source source)
  pub lower : lowered source ≡ source
  pub source_id_is : IsTrue (is_id source_id)
