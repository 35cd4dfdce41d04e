-- How a service is kept: the text that was read, in lower case, or the text of the service.
use Rattle.std.proofs.Common.{◌≡◌, ℕ, true, Result, Ok, Err, [], length, refl, sym, ap, ◌∙◌}
use Rattle.std.specs.Result.{IsOkAnd, result_unwrap_or}
use Rattle.std.specs.Str.{IsAscii}
use Rattle.lost_spec.specs.declared.faults.UrnError.{UrnError}
use Rattle.lost_spec.specs.Text.{Text, lowered}
use Rattle.lost_spec.specs.Service.{Service, read_service, is_service, service_text}
use Rattle.lost_urn.specs.Kept.{service_of, IsKept}
use Rattle.lost_urn.proofs.ReadLemmas.{read_ok, read_back, ascii_text}

-- the text of a service is kept for that service
pub service_of-text : (text : Text) (s : Service) → is_service s ≡ true → text ≡ service_text s → service_of text ≡ s
unfolding service_of
service_of-text text s h is = ap (λ t. result_unwrap_or (read_service t) []) is ∙ ap (λ r. result_unwrap_or r []) (read_back s h)

pub kept : (text : Text) (depth : ℕ) (s : Service) → is_service s ≡ true → text ≡ service_text s → depth ≡ length s → IsKept text depth
kept text depth s h is counted =
    let same = service_of-text text s h is in
    record { well_formed = rw same h; written = is ∙ ap service_text (sym same); counted = counted ∙ ap length (sym same) }

-- a text that was read, in lower case
pub kept_read : (text lower : Text) (depth : ℕ) → lower ≡ lowered text → IsOkAnd (read_service text) (λ s. depth ≡ length s) → IsKept lower depth × (read_service text ≡ Ok (service_of lower))
kept_read text lower depth is read = by (read_service text) refl read
  where
    by : (r : Result Service UrnError) → read_service text ≡ r → IsOkAnd r (λ s. depth ≡ length s) → IsKept lower depth × (read_service text ≡ Ok (service_of lower))
    by (Ok s) was counted =
        let known = read_ok text s was in
        (kept lower depth s known.1 (is ∙ known.0) counted, was ∙ ap Ok (sym (service_of-text lower s known.1 (is ∙ known.0))))
    by (Err e) was counted = absurd counted

-- what was read is ASCII
pub ascii_read : (text : Text) (depth : ℕ) → IsOkAnd (read_service text) (λ s. depth ≡ length s) → IsAscii text
ascii_read text depth read = by (read_service text) refl read
  where
    by : (r : Result Service UrnError) → read_service text ≡ r → IsOkAnd r (λ s. depth ≡ length s) → IsAscii text
    by (Ok s) was counted = ascii_text text s was
    by (Err e) was counted = absurd counted
