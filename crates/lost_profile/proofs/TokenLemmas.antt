-- The test of a token, of a text that is known to be UTF-8 and of one that is known not to be.
use Rattle.std.proofs.Common.{◌≡◌, ◌<◌, ◌≤◌, ℕ, arith, Bool, true, false, not, ◌&&◌, ◌||◌, ◌==◌, nat_le, length, get_or, map, refl, sym, ap, ◌∙◌, List, [], ◌∷◌, IsTrue}
use Rattle.std.specs.List.{list_all, list_any}
use Rattle.std.proofs.lemmas.Bool.{and_parts, false≢true}
use Rattle.std.proofs.lemmas.Bool.Decides.{nat_tests}
use Rattle.std.proofs.lemmas.List.Folds.{list_all_at}
use Rattle.std.specs.Str.{IsUtf8, is_utf8}
use Rattle.std.proofs.lemmas.Str.{is_utf8-from_IsUtf8, IsUtf8-from_is_utf8}
use Rattle.lost_spec.specs.Text.{Text, is_between, has_repeat}
use Rattle.lost_spec.specs.Token.{is_token, is_token_set, is_id}

middle_true : (a b c : Bool) → b ≡ true → (a && b && c) ≡ (a && c)
middle_true true b c h = ap (λ v. v && c) h
middle_true false b c h = refl

pub is_token-utf8 : (text : Text) → IsUtf8 text → is_token text ≡ (is_between 1 128 (length text) && list_all (λ b. nat_le 32 b && not (b == 127)) text)
unfolding is_id
is_token-utf8 text utf8 =
    middle_true (is_between 1 128 (length text)) (is_utf8 text) (list_all (λ b. nat_le 32 b && not (b == 127)) text) (is_utf8-from_IsUtf8 text utf8)

middle_false : (a b c : Bool) → (b ≡ true → ⊥) → (a && b && c) ≡ false
middle_false true true c h = absurd (h refl)
middle_false true false c h = refl
middle_false false b c h = refl

pub is_token-not_utf8 : (text : Text) → (IsUtf8 text → ⊥) → is_token text ≡ false
unfolding is_id
is_token-not_utf8 text no_utf8 =
    middle_false (is_between 1 128 (length text)) (is_utf8 text) (list_all (λ b. nat_le 32 b && not (b == 127)) text) (λ is. no_utf8 (IsUtf8-from_is_utf8 text is))

-- ---- tokens that are apart

-- each is a token, and none stands twice
abbrev pub are_apart : List Text → Bool
are_apart tokens = list_all is_token tokens && not (has_repeat tokens)

-- ---- lists of what tells a text

pub list_any-map : {X Y : Type 0} (test : X → Bool) (told : Y → X) (ys : List Y) → list_any test (map told ys) ≡ list_any (λ y. test (told y)) ys
list_any-map test told [] = refl
list_any-map test told (y ∷ rest) = ap (λ found. test (told y) || found) (list_any-map test told rest)

unless_false : (b : Bool) → (b ≡ false → ⊥) → b ≡ true
unless_false true h = refl
unless_false false h = absurd (h refl)

middle_of : (a b c : Bool) → (a && b && not c) ≡ true → b ≡ true
middle_of true true c h = refl
middle_of true false c h = absurd (false≢true h)
middle_of false b c h = absurd (false≢true h)

-- each text of a token set is a token
pub token_at : (tokens : List Text) (i : ℕ) (other : Text) → IsTrue (is_token_set tokens) → i < length tokens → is_token (get_or tokens i other) ≡ true
token_at tokens i other lawful within =
    let each : list_all is_token tokens ≡ true = middle_of (is_between 1 64 (length tokens)) (list_all is_token tokens) (has_repeat tokens) lawful in
    unless_false (is_token (get_or tokens i other)) (λ fails. false≢true (sym (list_all_at is_token tokens i other within fails) ∙ each))

-- ---- the length of a token

up_to_most : (n : ℕ) → nat_le n 128 ≡ true → n ≤ 128
up_to_most n h = search (arith, nat_tests)

pub token_fits : (text : Text) → IsTrue (is_token text) → length text ≤ 128
unfolding is_id
token_fits text lawful =
    let parts = and_parts (is_between 1 128 (length text) && is_utf8 text) (list_all (λ b. nat_le 32 b && not (b == 127)) text) lawful in
    let counted = and_parts (is_between 1 128 (length text)) (is_utf8 text) parts.0 in
    let bounds = and_parts (nat_le 1 (length text)) (nat_le (length text) 128) counted.0 in
    up_to_most (length text) bounds.1
