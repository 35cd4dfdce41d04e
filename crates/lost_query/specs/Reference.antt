-- What the code's reference asks of a mapping.
use Rattle.std.specs.Prelude.{Bool}
use Rattle.lost_spec.specs.Mapping.{Mapping}
use Rattle.lost_spec.specs.Book.{Book}
use Rattle.lost_civic.specs.declared.elements.Element.{Element}
use Rattle.lost_query.specs.declared.reference.Reference.{Reference}
use Rattle.lost_query.specs.Judged.{is_referring, is_naming, is_contradicted}

-- some pattern of the mapping is such a reference (own policy)
abbrev pub is_referring_by : Reference → Mapping → Bool
is_referring_by reference = is_referring reference.moment.now reference.service.now reference.address.now reference.elements.now

-- some pattern of the mapping is such a reference, and names another element with any text (own policy)
abbrev pub is_naming_by : Reference → Element → Mapping → Bool
is_naming_by reference named = is_naming reference.moment.now reference.service.now reference.address.now reference.elements.now named

-- where the reference has the valid elements: some pattern is such a reference and names this element too, but none names it as the address does (own policy)
abbrev pub is_contradicted_by : Book → Reference → Element → Bool
is_contradicted_by b reference = is_contradicted b reference.moment.now reference.service.now reference.address.now reference.elements.now
