-- What a validation names: each name of the address once.
use Rattle.std.specs.Prelude.{Bool, true, false, not, ◌&&◌, IsTrue, IsFalse, List}
use Rattle.std.proofs.Common.{refl, ◌∙◌}
use Rattle.std.proofs.lemmas.Bool.{false≢true}
use Rattle.lost_spec.specs.Text.{Text, has_repeat}
use Rattle.lost_spec.specs.Service.{Service}
use Rattle.lost_spec.specs.Civic.{Pairs, names_of, element_names}
use Rattle.lost_spec.specs.Moment.{Instant}
use Rattle.lost_spec.specs.Mapping.{Mapping}
use Rattle.lost_spec.specs.Book.{Book}
use Rattle.lost_spec.specs.Validation.{validation, ordered_names, reference_patterns, is_valid, is_invalid}
use Rattle.lost_spec.specs.ListLaws.{CoversEachNameOnce}
use Rattle.lost_spec.proofs.NameLemmas.{is_among-parted, has_repeat-parted, is_among-ordered_by, has_repeat-ordered_by}

-- what is valid is not invalid: k, the name is known; v, it is valid; r, a reference pattern names it; s, one agrees
valid_not_invalid : (k v r s : Bool) → IsTrue v → IsFalse (k && not v && r && not s)
valid_not_invalid true true r s h = refl
valid_not_invalid false true r s h = refl
valid_not_invalid k false r s h = absurd (false≢true h)

-- no element has its name twice
has_repeat-element_names : IsFalse (has_repeat element_names)
has_repeat-element_names = refl

-- the names of a validation are those of the address, each once
pub CoversEachNameOnce-validation :
    (b : Book) (t : Instant) (u : Service) (found : List Mapping) (address : Pairs)
    → CoversEachNameOnce address (validation b t u found address)
unfolding validation
CoversEachNameOnce-validation b t u found address =
    let valid : Text → Bool = is_valid found address in
    let invalid : Text → Bool = is_invalid (reference_patterns b t u found address) found address in
    let apart : (name : Text) → IsTrue (valid name) → IsFalse (invalid name) = λ name. valid_not_invalid _ (valid name) _ _ in
    let ordered_once = has_repeat-ordered_by element_names (names_of address) has_repeat-element_names in
    record {
      once = has_repeat-parted valid invalid apart (ordered_names address) ordered_once;
      same_names = λ name.
          is_among-parted valid invalid name (ordered_names address) ∙ is_among-ordered_by name element_names (names_of address);
    }
