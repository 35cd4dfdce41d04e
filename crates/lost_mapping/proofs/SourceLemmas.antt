-- A source in any case, and in lower case, and that a source is ASCII.
use Rattle.std.proofs.Common.{subst, ◌≡◌, ℕ, ◌<◌, suc, Bool, true, ◌&&◌, Option, None, Some, List, [], ◌∷◌, length, refl, ap, ◌∙◌, arith}
use Rattle.std.specs.List.{list_all, join_with_byte}
use Rattle.std.specs.Char.{to_ascii_lowercase}
use Rattle.std.specs.Option.{is_none}
use Rattle.std.specs.Str.{IsAscii}
use Rattle.std.proofs.lemmas.Bool.Decides.{nat_tests}
use Rattle.std.proofs.lemmas.List.Folds.{list_all-map}
use Rattle.std.proofs.lemmas.List.Splits.{join_with_byte-slice_split}
use Rattle.std.proofs.lemmas.Str.{IsAscii-append}
use Rattle.std.proofs.lemmas.Str.Ascii.{IsAscii-nil, IsAscii-cons, lowercase-lowercase}
use Rattle.lost_spec.specs.Text.{Text, lowered, is_between}
use Rattle.lost_spec.specs.Service.{label_fault, split_at_dots}
use Rattle.lost_spec.specs.Mapping.{is_source}
use Rattle.lost_mapping.specs.Source.{IsLowerSource}
use Rattle.lost_mapping.proofs.BoolLemmas.{both_true}
use Rattle.lost_urn.proofs.DotLemmas.{split-lowered}
use Rattle.lost_urn.proofs.LabelLemmas.{length-lowered}
use Rattle.lost_urn.proofs.ServiceLemmas.{label_bytes, ascii_bytes}

-- ---- the test of a source

-- the labels are good in any case
abbrev pub has_labels : Text → Bool
has_labels text = list_all (λ label. is_none (label_fault (lowered label))) (split_at_dots text)

pub is_source-labels : (text : Text) → is_source text ≡ (is_between 1 253 (length text) && has_labels text)
unfolding is_source
is_source-labels text =
    ap (λ parts. is_between 1 253 (length text) && list_all (λ label. is_none (label_fault label)) parts) (split-lowered text)
    ∙ ap (λ b. is_between 1 253 (length text) && b) (list_all-map (λ label. is_none (label_fault label)) lowered (split_at_dots text))

-- ---- a source in lower case

lowered-lowered : (text : Text) → lowered (lowered text) ≡ lowered text
lowered-lowered [] = refl
lowered-lowered (b ∷ rest) = rw (lowercase-lowercase b, lowered-lowered rest)

is_source-lowered : (text : Text) → is_source (lowered text) ≡ is_source text
unfolding is_source
is_source-lowered text = rw (length-lowered text, lowered-lowered text)

pub kept_lowered : (text lower : Text) → lower ≡ lowered text → is_source text ≡ true → IsLowerSource lower
kept_lowered text lower is h = record {
  well_formed = rw is (is_source-lowered text ∙ h);
  lower = rw is (lowered-lowered text);
}

-- ---- a source is ASCII

none_of : {A : Type 0} (o : Option A) → is_none o ≡ true → o ≡ None
none_of None h = refl
none_of (Some x) h = cc

ascii_label : (label : Text) → is_none (label_fault label) ≡ true → IsAscii label
ascii_label label h = ascii_bytes label (label_bytes label (none_of (label_fault label) h))

ascii-join : (labels : List Text) → list_all (λ label. is_none (label_fault label)) labels ≡ true → IsAscii (join_with_byte 46 labels)
ascii-join [] h = IsAscii-nil
ascii-join (label ∷ []) h = ascii_label label (both_true (is_none (label_fault label)) true h).0
ascii-join (label ∷ next ∷ rest) h =
    let parts = both_true (is_none (label_fault label)) (list_all (λ l. is_none (label_fault l)) (next ∷ rest)) h in
    IsAscii-append label (46 ∷ join_with_byte 46 (next ∷ rest)) (ascii_label label parts.0)
    (IsAscii-cons 46 (join_with_byte 46 (next ∷ rest)) (omega arith) (ascii-join (next ∷ rest) parts.1))

ascii_lowered_byte : (b : ℕ) → to_ascii_lowercase b < 128 → b < 128
ascii_lowered_byte b h = grind (arith, nat_tests)

ascii_from_lowered : (text : Text) → IsAscii (lowered text) → IsAscii text
ascii_from_lowered [] h = IsAscii-nil
ascii_from_lowered (b ∷ rest) h = IsAscii-cons b rest (ascii_lowered_byte b (h 0)) (ascii_from_lowered rest (λ i. h (suc i)))

pub ascii_source : (text : Text) → is_source text ≡ true → IsAscii text
unfolding is_source
ascii_source text h =
    let labels = (both_true (is_between 1 253 (length text)) (list_all (λ label. is_none (label_fault label)) (split_at_dots (lowered text))) h).1 in
    let joined = ascii-join (split_at_dots (lowered text)) labels in
    let P : Text → Type 0 = λ t. IsAscii t in
    ascii_from_lowered text (subst P (join_with_byte-slice_split 46 (lowered text)) joined)
