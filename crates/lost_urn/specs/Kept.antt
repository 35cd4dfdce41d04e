-- How a service is kept: as its text, with the number of its labels beside it.
use Rattle.std.specs.Prelude.{ℕ, ◌≡◌, [], IsTrue, take, length, string_bytes}
use Rattle.std.specs.Result.{result_unwrap_or}
use Rattle.lost_spec.specs.Text.{Text}
use Rattle.lost_spec.specs.Service.{Service, read_service, is_service, service_text}
use Rattle.lost_urn.specs.declared.service_text.ServiceText.{ServiceText}
use Rattle.lost_urn.specs.declared.service_text.ServiceText.TheVariants.{Short, Long}

-- the bytes of a text, which lies in the value or apart from it
abbrev pub bytes_of : ServiceText → Text
bytes_of (Short text) = text.bytes
bytes_of (Long text) = string_bytes text

-- the service that a text spells, and no label where it spells none
unfoldable pub service_of : Text → Service
service_of text = result_unwrap_or (read_service text) []

-- the text is the one that its service has, and the depth is the number of its labels
pub record IsKept (text : Text) (depth : ℕ) : Type 0 where
  pub well_formed : IsTrue (is_service (service_of text))
  pub written : text ≡ service_text (service_of text)
  pub counted : depth ≡ length (service_of text)

-- where a text is that of a service, its first bytes up to `end` are the text of the service's first n labels
abbrev pub EndsLabels : Text → ℕ → ℕ → Type 0
EndsLabels text n end = (s : Service) → IsTrue (is_service s) → text ≡ service_text s → take end text ≡ service_text (take n s)
