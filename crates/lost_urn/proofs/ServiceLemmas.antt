-- Services that are well formed: their labels are in lower case and have no dot, and so their text can be split again.
use Rattle.std.proofs.Common.{◌≡◌, ℕ, ◌<◌, Bool, true, false, not, ◌&&◌, cond, nat_eq, Option, None, Some, List, [], ◌∷◌, length, refl, arith}
use Rattle.std.specs.List.{list_all, join_with_byte}
use Rattle.std.specs.Char.{to_ascii_lowercase}
use Rattle.std.specs.Str.{IsAscii}
use Rattle.std.proofs.lemmas.Bool.Decides.{nat_tests}
use Rattle.std.proofs.lemmas.List.{map-append}
use Rattle.std.proofs.lemmas.Str.{IsAscii-append}
use Rattle.std.proofs.lemmas.Str.Ascii.{IsAscii-nil, IsAscii-cons}
use Rattle.lost_spec.specs.declared.faults.UrnError.{UrnError}
use Rattle.lost_spec.specs.declared.faults.UrnError.TheVariants.{EmptyLabel, BadCharacter}
use Rattle.lost_spec.specs.Text.{Text, lowered, first_fault_of}
use Rattle.lost_spec.specs.Service.{is_label_byte, label_fault, split_at_dots}
use Rattle.lost_urn.proofs.DotLemmas.{split-at_dot}
use Rattle.lost_urn.proofs.FaultLemmas.{both_none}

-- ---- one label

pub both_true : (a b : Bool) → (a && b) ≡ true → (a ≡ true) × (b ≡ true)
both_true true b h = (refl, h)
both_true false b h = absurd (cc)

second_passes : (a b : Bool) (x y : UrnError) (rest : Option UrnError) → cond a (Some x) (cond (not b) (Some y) rest) ≡ None → b ≡ true
second_passes true b x y rest h = absurd (cc)
second_passes false true x y rest h = refl
second_passes false false x y rest h = absurd (cc)

pub label_bytes : (label : Text) → label_fault label ≡ None → list_all is_label_byte label ≡ true
label_bytes label none = second_passes (nat_eq (length label) 0) (list_all is_label_byte label) EmptyLabel BadCharacter _ none

pub lowered_byte : (b : ℕ) → is_label_byte b ≡ true → to_ascii_lowercase b ≡ b
lowered_byte b h = grind (arith, nat_tests)

no_dot : (b : ℕ) → is_label_byte b ≡ true → nat_eq b 46 ≡ false
no_dot b h = grind (arith, nat_tests)

ascii_byte : (b : ℕ) → is_label_byte b ≡ true → b < 128
ascii_byte b h = grind (arith, nat_tests)

lowered_bytes : (bs : Text) → list_all is_label_byte bs ≡ true → lowered bs ≡ bs
lowered_bytes [] h = refl
lowered_bytes (b ∷ rest) h =
    let parts = both_true (is_label_byte b) (list_all is_label_byte rest) h in
    rw (lowered_byte b parts.0, lowered_bytes rest parts.1)

pub one_part : (bs : Text) → list_all is_label_byte bs ≡ true → split_at_dots bs ≡ bs ∷ []
one_part [] h = refl
one_part (b ∷ rest) h =
    let parts = both_true (is_label_byte b) (list_all is_label_byte rest) h in
    rw (no_dot b parts.0, one_part rest parts.1)

pub ascii_bytes : (bs : Text) → list_all is_label_byte bs ≡ true → IsAscii bs
ascii_bytes [] h = IsAscii-nil
ascii_bytes (b ∷ rest) h =
    let parts = both_true (is_label_byte b) (list_all is_label_byte rest) h in
    IsAscii-cons b rest (ascii_byte b parts.0) (ascii_bytes rest parts.1)

-- ---- labels without a fault

-- no label has a fault
abbrev pub NoFault : List Text → Type 0
NoFault labels = first_fault_of label_fault labels ≡ None

first_label : (label : Text) (rest : List Text) → NoFault (label ∷ rest) → list_all is_label_byte label ≡ true
first_label label rest h = label_bytes label (both_none (label_fault label) (first_fault_of label_fault rest) h).0

other_labels : (label : Text) (rest : List Text) → NoFault (label ∷ rest) → NoFault rest
other_labels label rest h = (both_none (label_fault label) (first_fault_of label_fault rest) h).1

-- lowering leaves the joined labels as they are
pub lowered-join : (labels : List Text) → NoFault labels → lowered (join_with_byte 46 labels) ≡ join_with_byte 46 labels
lowered-join [] h = refl
lowered-join (label ∷ []) h = lowered_bytes label (first_label label [] h)
lowered-join (label ∷ next ∷ rest) h =
    rw (map-append, lowered_bytes label (first_label label (next ∷ rest) h), lowered-join (next ∷ rest) (other_labels label (next ∷ rest) h))

-- the joined labels split into the labels
pub split-join : (label : Text) (rest : List Text) → NoFault (label ∷ rest) → split_at_dots (join_with_byte 46 (label ∷ rest)) ≡ label ∷ rest
split-join label [] h = one_part label (first_label label [] h)
split-join label (next ∷ rest) h =
    rw (split-at_dot label (join_with_byte 46 (next ∷ rest)), one_part label (first_label label (next ∷ rest) h), split-join next rest (other_labels label (next ∷ rest) h))

-- the joined labels are ASCII
pub ascii-join : (labels : List Text) → NoFault labels → IsAscii (join_with_byte 46 labels)
ascii-join [] h = IsAscii-nil
ascii-join (label ∷ []) h = ascii_bytes label (first_label label [] h)
ascii-join (label ∷ next ∷ rest) h =
    IsAscii-append label (46 ∷ join_with_byte 46 (next ∷ rest)) (ascii_bytes label (first_label label (next ∷ rest) h))
    (IsAscii-cons 46 (join_with_byte 46 (next ∷ rest)) (omega arith) (ascii-join (next ∷ rest) (other_labels label (next ∷ rest) h)))
