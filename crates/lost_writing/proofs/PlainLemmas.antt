-- Texts that stand in JSON as they are.
use Rattle.std.proofs.Common.{◌≡◌, ℕ, ◌≤◌, ◌&&◌, Bool, true, true≢false, List, [], ◌∷◌, ◌++◌, Option, None, Some, length, refl, sym, ap, ap₂, ◌∙◌, subst, arith}
use Rattle.std.specs.List.{list_all, join_with_byte}
use Rattle.std.specs.Char.{to_ascii_lowercase}
use Rattle.std.specs.Option.{is_none}
use Rattle.std.proofs.lemmas.Bool.Decides.{nat_tests}
use Rattle.std.proofs.lemmas.Bool.{and_parts}
use Rattle.std.proofs.lemmas.List.Folds.{list_all-append}
use Rattle.std.proofs.lemmas.List.Splits.{join_with_byte-slice_split}
use Rattle.json.specs.Run.{is_plain}
use Rattle.json.specs.Written.{PlainBetween}
use Rattle.json.proofs.Printed.Plain.{escape_on_plain}
use Rattle.json.proofs.Printed.Strings.{escape_byte_plain}
use Rattle.lost_spec.specs.Text.{Text, lowered, is_between}
use Rattle.lost_spec.specs.Service.{is_label_byte, label_fault, split_at_dots}
use Rattle.lost_spec.specs.Mapping.{is_source}
use Rattle.lost_urn.proofs.ServiceLemmas.{label_bytes}
use Rattle.lost_writing.specs.FoundLine.{IsPlain}

-- a text whose bytes are plain up to its end
pub plain_to_end : (text : Text) (n : ℕ) → n ≤ length text → length text ≤ n → PlainBetween text 0 n → IsPlain text
plain_to_end text n within all plain =
    let ends : n ≡ length text = omega (arith, within, all) in
    escape_on_plain true text (subst (λ m. PlainBetween text 0 m) ends plain)

-- ---- one byte

not_quote : (b : ℕ) → is_plain b ≡ true → b ≡ 34 → ⊥
not_quote b h e = let f : is_plain 34 ≡ true = subst (λ x. is_plain x ≡ true) e h in true≢false (sym f)

not_backslash : (b : ℕ) → is_plain b ≡ true → b ≡ 92 → ⊥
not_backslash b h e = let f : is_plain 92 ≡ true = subst (λ x. is_plain x ≡ true) e h in true≢false (sym f)

no_control : (b : ℕ) → is_plain b ≡ true → 32 ≤ b
no_control b h = grind (arith, nat_tests)

label_byte_plain : (b : ℕ) → is_label_byte b ≡ true → is_plain b ≡ true
label_byte_plain b h = grind (arith, nat_tests)

plain_from_lower : (b : ℕ) → is_plain (to_ascii_lowercase b) ≡ true → is_plain b ≡ true
plain_from_lower b h = grind (arith, nat_tests)

-- ---- texts of plain bytes

pub plain_from_all : (bs : Text) → list_all is_plain bs ≡ true → IsPlain bs
plain_from_all [] h = refl
plain_from_all (b ∷ bs) h =
    let parts = and_parts (is_plain b) (list_all is_plain bs) h in
    ap₂ (λ (x y : Text). x ++ y) (escape_byte_plain b (not_quote b parts.0) (not_backslash b parts.0) (no_control b parts.0)) (plain_from_all bs parts.1)

pub all_unlowered : (bs : Text) → list_all is_plain (lowered bs) ≡ true → list_all is_plain bs ≡ true
all_unlowered [] h = refl
all_unlowered (b ∷ bs) h =
    let parts = and_parts (is_plain (to_ascii_lowercase b)) (list_all is_plain (lowered bs)) h in
    rw (plain_from_lower b parts.0) (all_unlowered bs parts.1)

pub all_of_label : (bs : Text) → list_all is_label_byte bs ≡ true → list_all is_plain bs ≡ true
all_of_label [] h = refl
all_of_label (b ∷ bs) h =
    let parts = and_parts (is_label_byte b) (list_all is_label_byte bs) h in
    rw (label_byte_plain b parts.0) (all_of_label bs parts.1)

none_of : {A : Type 0} (o : Option A) → is_none o ≡ true → o ≡ None
none_of None h = refl
none_of (Some x) h = cc

-- ---- sources

abbrev is_label : Text → Bool
is_label label = is_none (label_fault label)

label_plain : (label : Text) → is_label label ≡ true → list_all is_plain label ≡ true
label_plain label h = all_of_label label (label_bytes label (none_of (label_fault label) h))

all_of_join : (labels : List Text) → list_all is_label labels ≡ true → list_all is_plain (join_with_byte 46 labels) ≡ true
all_of_join [] h = refl
all_of_join (label ∷ []) h = label_plain label (and_parts (is_label label) true h).0
all_of_join (label ∷ next ∷ rest) h =
    let parts = and_parts (is_label label) (list_all is_label (next ∷ rest)) h in
    list_all-append is_plain label (46 ∷ join_with_byte 46 (next ∷ rest))
    ∙ ap (λ b. b && list_all is_plain (join_with_byte 46 (next ∷ rest))) (label_plain label parts.0) ∙ all_of_join (next ∷ rest) parts.1

-- a source needs no escape
pub source_plain : (text : Text) → is_source text ≡ true → IsPlain text
unfolding is_source
source_plain text h =
    let labels = (and_parts (is_between 1 253 (length text)) (list_all is_label (split_at_dots (lowered text))) h).1 in
    let joined = all_of_join (split_at_dots (lowered text)) labels in
    plain_from_all text (all_unlowered text (subst (λ (t : Text). list_all is_plain t ≡ true) (join_with_byte-slice_split 46 (lowered text)) joined))
