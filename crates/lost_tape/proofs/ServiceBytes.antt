-- A text that spells a service stands in JSON as it is.
use Rattle.std.proofs.Common.{◌≡◌, ℕ, ◌≤◌, ◌&&◌, true, true≢false, List, [], ◌∷◌, ◌++◌, Ok, refl, sym, ap, ap₂, ◌∙◌, subst}
use Rattle.std.specs.List.{list_all, join_with_byte}
use Rattle.std.specs.Char.{to_ascii_lowercase}
use Rattle.std.proofs.lemmas.Bool.Decides.{nat_tests}
use Rattle.std.proofs.lemmas.Bool.{and_parts}
use Rattle.std.proofs.lemmas.List.Folds.{list_all-append}
use Rattle.std.proofs.Common.{arith}
use Rattle.json.specs.Run.{is_plain}
use Rattle.json.proofs.Printed.Strings.{escape_byte_plain}
use Rattle.lost_spec.specs.Text.{Text, lowered, first_fault_of}
use Rattle.lost_spec.specs.Service.{Service, read_service, service_text, is_service, is_label_byte, label_fault}
use Rattle.lost_urn.proofs.FaultLemmas.{both_none}
use Rattle.lost_urn.proofs.ServiceLemmas.{NoFault, label_bytes}
use Rattle.lost_urn.proofs.ReadLemmas.{read_ok, labels_no_fault}
use Rattle.lost_writing.specs.FoundLine.{IsPlain}
use Rattle.lost_writing.proofs.PlainLemmas.{plain_from_all, all_unlowered, all_of_label}

all_of_join : (labels : List Text) → NoFault labels → list_all is_plain (join_with_byte 46 labels) ≡ true
all_of_join [] h = refl
all_of_join (label ∷ []) h = all_of_label label (label_bytes label (both_none (label_fault label) (first_fault_of label_fault []) h).0)
all_of_join (label ∷ next ∷ rest) h =
    let both = both_none (label_fault label) (first_fault_of label_fault (next ∷ rest)) h in
    list_all-append is_plain label (46 ∷ join_with_byte 46 (next ∷ rest))
    ∙ ap (λ b. b && list_all is_plain (join_with_byte 46 (next ∷ rest))) (all_of_label label (label_bytes label both.0)) ∙ all_of_join (next ∷ rest) both.1

all_of_service : (s : Service) → is_service s ≡ true → list_all is_plain (service_text s) ≡ true
all_of_service s h = all_of_join s (labels_no_fault s h)

pub service_plain : (text : Text) (s : Service) → read_service text ≡ Ok s → IsPlain text
service_plain text s h =
    let read = read_ok text s h in
    plain_from_all text (all_unlowered text (ap (list_all is_plain) read.0 ∙ all_of_service s read.1))
