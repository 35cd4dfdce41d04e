-- What a text spells, from what follows its prefix.
use Rattle.std.proofs.Common.{◌≡◌, ◌≢◌, ℕ, ◌<◌, Bool, true, false, cond, nat_eq, nat_lt, Option, None, Some, Result, Ok, Err, List, [], ◌∷◌, ◌++◌, drop, length, refl, sym, ap, ◌∙◌, arith}
use Rattle.std.specs.List.{list_all, slice_index, starts_with, join_with_byte}
use Rattle.std.specs.Char.{to_ascii_lowercase}
use Rattle.lost_urn.specs.Spelling.{labels_in, AnswersFault}
use Rattle.std.specs.Result.{IfOk, IfErr, IsOkAnd}
use Rattle.std.specs.Option.{is_none}
use Rattle.std.specs.Str.{IsAscii}
use Rattle.std.proofs.lemmas.Bool.Decides.{Decides-eqb, nat_tests}
use Rattle.std.proofs.Math.ListN.{get_or-map}
use Rattle.std.proofs.lemmas.Str.{IsAscii-append}
use Rattle.std.proofs.lemmas.Str.Ascii.{IsAscii-nil, IsAscii-cons}
use Rattle.std.proofs.lemmas.Slice.Eq.{starts_is}
use Rattle.std.proofs.lemmas.List.Splits.{length-slice_split, join_with_byte-slice_split}
use Rattle.lost_spec.specs.declared.faults.UrnError.{UrnError}
use Rattle.lost_spec.specs.declared.faults.UrnError.TheVariants.{Prefix}
use Rattle.lost_spec.specs.Text.{Text, lowered, first_fault_of}
use Rattle.lost_spec.specs.Service.{Service, read_service, read_lowered, service_or, label_fault, labels_fault, count_fault, split_at_dots, is_service, service_text, urn_prefix}
use Rattle.lost_urn.proofs.FaultLemmas.{both_none}
use Rattle.lost_urn.proofs.ServiceLemmas.{NoFault, both_true, lowered-join, split-join, ascii-join}

-- ---- with the prefix, and without it

-- a text in lower case that begins with the prefix spells what its labels say
read_prefixed : (labels : Text) → read_lowered (urn_prefix ++ labels) ≡ service_or (labels_fault (split_at_dots labels)) (split_at_dots labels)
read_prefixed labels = refl

pub read_labels : (text labels : Text) → lowered text ≡ urn_prefix ++ lowered labels → read_service text ≡ service_or (labels_fault (split_at_dots (lowered labels))) (split_at_dots (lowered labels))
unfolding read_service
read_labels text labels begins = ap read_lowered begins ∙ read_prefixed (lowered labels)

pub not_true : (b : Bool) → (b ≡ true → ⊥) → b ≡ false
not_true true h = absurd (h refl)
not_true false h = refl

-- any other text spells nothing
pub read_no_prefix : (text : Text) → ((rest : Text) → lowered text ≢ urn_prefix ++ rest) → read_service text ≡ Err Prefix
unfolding read_service
read_no_prefix text none =
    let starts = starts_is Decides-eqb (lowered text) urn_prefix (starts_with nat_eq (lowered text) urn_prefix) refl in
    let labels = split_at_dots (drop 12 (lowered text)) in
    ap (λ b. cond b (service_or (labels_fault labels) labels) (Err Prefix)) (not_true (starts_with nat_eq (lowered text) urn_prefix) (λ yes. none (drop 12 (lowered text)) (starts.0 yes)))

-- what a check of the labels says of the whole text
pub read_counted : (text labels : Text) (r : Result ℕ UrnError) → lowered text ≡ urn_prefix ++ lowered labels → AnswersFault r (labels_fault (labels_in labels)) → IfOk r (λ n. n ≡ length (labels_in labels))
    → IfOk r (λ n. IsOkAnd (read_service text) (λ s. n ≡ length s))
read_counted text labels (Ok n) begins none counted = rw (read_labels text labels begins, none) counted
read_counted text labels (Err e) begins fault counted = tt

pub read_refused : (text labels : Text) (r : Result ℕ UrnError) → lowered text ≡ urn_prefix ++ lowered labels → AnswersFault r (labels_fault (labels_in labels)) → IfErr r (λ e. read_service text ≡ Err e)
read_refused text labels (Ok n) begins none = tt
read_refused text labels (Err e) begins fault = rw (read_labels text labels begins, fault)

-- ---- what is known of a service that was read

service_or_ok : (fault : Option UrnError) (labels s : Service) → service_or fault labels ≡ Ok s → (fault ≡ None) × (labels ≡ s)
service_or_ok None labels s h = (refl, cc)
service_or_ok (Some e) labels s h = absurd (cc)

pub well_formed_labels : (labels : List Text) → 0 < length labels → labels_fault labels ≡ None → is_service labels ≡ true
well_formed_labels [] some none = absurd (omega arith)
well_formed_labels (label ∷ rest) some none = ap is_none none

read_prefixed_ok : (v : Text) (s : Service) → service_or (labels_fault (split_at_dots v)) (split_at_dots v) ≡ Ok s → (urn_prefix ++ v ≡ service_text s) × (is_service s ≡ true)
read_prefixed_ok v s h =
    let read = service_or_ok (labels_fault (split_at_dots v)) (split_at_dots v) s h in
    let some : 0 < length (split_at_dots v) = omega (arith, length-slice_split (λ b. nat_eq b 46) v) in (
      ap (λ w. urn_prefix ++ w) (sym (join_with_byte-slice_split 46 v) ∙ ap (join_with_byte 46) read.1),
      sym (ap is_service read.1) ∙ well_formed_labels (split_at_dots v) some read.0,
    )

read_lowered_ok : (u : Text) (s : Service) → read_lowered u ≡ Ok s → (u ≡ service_text s) × (is_service s ≡ true)
read_lowered_ok u s h = by (starts_with nat_eq u urn_prefix) refl
  where
    by : (b : Bool) → b ≡ starts_with nat_eq u urn_prefix → (u ≡ service_text s) × (is_service s ≡ true)
    by true is =
        let begins = (starts_is Decides-eqb u urn_prefix (starts_with nat_eq u urn_prefix) refl).0 (sym is) in
        let read = read_prefixed_ok (drop 12 u) s (ap read_lowered (sym begins) ∙ h) in
        (begins ∙ read.0, read.1)
    by false is =
        let labels = split_at_dots (drop 12 u) in
        let refused : read_lowered u ≡ Err Prefix = ap (λ b. cond b (service_or (labels_fault labels) labels) (Err Prefix)) (sym is) in
        absurd (cc)

-- a text that spells a service is the service's text, but for the case of letters
pub read_ok : (text : Text) (s : Service) → read_service text ≡ Ok s → (lowered text ≡ service_text s) × (is_service s ≡ true)
unfolding read_service
read_ok text s h = read_lowered_ok (lowered text) s h

-- ---- the text of a service

pub no_fault : (s : Service) → is_service s ≡ true → labels_fault s ≡ None
no_fault [] h = absurd (cc)
no_fault (label ∷ rest) h = from_is_none (labels_fault (label ∷ rest)) h
  where
    from_is_none : (fault : Option UrnError) → is_none fault ≡ true → fault ≡ None
    from_is_none None h = refl
    from_is_none (Some e) h = absurd (cc)

pub labels_no_fault : (s : Service) → is_service s ≡ true → NoFault s
labels_no_fault s h = (both_none (first_fault_of label_fault s) (count_fault s) (no_fault s h)).0

-- it is in lower case
pub lowered-service_text : (s : Service) → is_service s ≡ true → lowered (service_text s) ≡ service_text s
lowered-service_text s h = ap (λ w. urn_prefix ++ w) (lowered-join s (labels_no_fault s h))

-- its labels are the service's
pub split-service : (s : Service) → is_service s ≡ true → split_at_dots (join_with_byte 46 s) ≡ s
split-service [] h = absurd (cc)
split-service (label ∷ rest) h = split-join label rest (labels_no_fault (label ∷ rest) h)

-- it spells the service
pub read_back : (s : Service) → is_service s ≡ true → read_service (service_text s) ≡ Ok s
unfolding read_service
read_back s h =
    ap read_lowered (lowered-service_text s h)
    ∙ ap (λ labels. service_or (labels_fault labels) labels) (split-service s h)
    ∙ ap (λ fault. service_or fault s) (no_fault s h)

-- two services with one text are the same
pub same_from_text : (s u : Service) → is_service s ≡ true → is_service u ≡ true → service_text s ≡ service_text u → s ≡ u
same_from_text s u hs hu same =
    let read : Ok s ≡ Ok u = sym (read_back s hs) ∙ ap read_service same ∙ read_back u hu in cc

-- ---- ASCII

from_low : (b : ℕ) → nat_lt b 128 ≡ true → b < 128
from_low b h = grind (arith, nat_tests)

low_bytes : (bs : Text) → list_all (λ b. nat_lt b 128) bs ≡ true → IsAscii bs
low_bytes [] h = IsAscii-nil
low_bytes (b ∷ rest) h =
    let parts = both_true (nat_lt b 128) (list_all (λ c. nat_lt c 128) rest) h in
    IsAscii-cons b rest (from_low b parts.0) (low_bytes rest parts.1)

-- the text of a service is ASCII
pub ascii-service_text : (s : Service) → is_service s ≡ true → IsAscii (service_text s)
ascii-service_text s h = IsAscii-append urn_prefix (join_with_byte 46 s) (low_bytes urn_prefix refl) (ascii-join s (labels_no_fault s h))

from_lowered : (b : ℕ) → to_ascii_lowercase b < 128 → b < 128
from_lowered b h = grind (arith, nat_tests)

-- a text that spells a service is ASCII
pub ascii_text : (text : Text) (s : Service) → read_service text ≡ Ok s → IsAscii text
ascii_text text s h i =
    let read = read_ok text s h in
    let low : slice_index (lowered text) i < 128 = rw (read.0) (ascii-service_text s read.1 i) in
    from_lowered (slice_index text i) (rw (get_or-map to_ascii_lowercase text i 0) at low)
