-- The laws of token sets: of their equality, and of the profile that has them as its regions.
use Rattle.std.proofs.Common.{◌≡◌, ℕ, ◌≤◌, Bool, true, false, not, ◌&&◌, ◌||◌, List, [], ◌∷◌, length, IsTrue, nat_le, refl, sym, arith}
use Rattle.std.specs.Prelude.{bytes_eq}
use Rattle.std.specs.List.{list_all, AllByRecursion, IsDistinct}
use Rattle.std.specs.Cmp.{IsEquivalence}
use Rattle.std.specs.Cmp.Lexicographic.{lists_equiv, nat_list_eq_equiv}
use Rattle.std.proofs.lemmas.Bool.Decides.{nat_tests}
use Rattle.std.proofs.lemmas.Bool.{and_parts, false≢true}
use Rattle.std.proofs.lemmas.Map.Keys.{IsDistinct-cons}
use Rattle.std.proofs.lemmas.Map.Views.{Contains-from_any}
use Rattle.std.proofs.lemmas.Slice.Eq.{bytes_eq-Decides}
use Rattle.lost_spec.specs.Text.{Text, same_texts, is_among, has_repeat, is_between}
use Rattle.lost_spec.specs.Token.{is_token, is_token_set, contains_token}
use Rattle.lost_profile.specs.Keys.{SharesKey}

-- sameness of lists of texts is an equivalence
pub same_texts-equiv : IsEquivalence same_texts
same_texts-equiv = lists_equiv nat_list_eq_equiv

-- the tokens of a region are a token set
abbrev pub IsTokenSet : List Text → Type 0
IsTokenSet tokens = IsTrue (is_token_set tokens)

-- a set is kept under all its tokens, and a token is looked up under itself (own)
abbrev pub token_cover : List Text → List Text
token_cover tokens = tokens

abbrev pub token_probes : Text → List Text
token_probes token = token ∷ []

-- ---- the laws of the profile

-- where a set contains a token, the token is a key of both
pub token_shares : (tokens : List Text) (token : Text) → IsTrue (contains_token tokens token) → SharesKey (token_cover tokens) (token_probes token)
token_shares tokens token holds =
    record {
      key = token;
      in_left = Contains-from_any (λ x y same. (bytes_eq-Decides x y).0 same) token tokens holds;
      in_right = (0, omega arith, refl);
    }

none_so : (first second : Bool) → (first || second) ≡ false → (first ≡ false) × (second ≡ false)
none_so false false h = (refl, refl)
none_so true second h = absurd (false≢true (sym h))
none_so false true h = absurd (false≢true (sym h))

from_not : (b : Bool) → not b ≡ true → b ≡ false
from_not false h = refl
from_not true h = absurd (false≢true h)

-- a text that is not among others differs from each
differs : (text : Text) (others : List Text) → is_among text others ≡ false → AllByRecursion (λ other. bytes_eq text other ≡ false) others
differs text [] h = tt
differs text (other ∷ rest) h =
    let parts = none_so (bytes_eq text other) (is_among text rest) h in (parts.0, differs text rest parts.1)

distinct_none : IsDistinct bytes_eq []
unfolding IsDistinct
distinct_none = tt

-- texts of which none stands twice are distinct keys
distinct : (texts : List Text) → has_repeat texts ≡ false → IsDistinct bytes_eq texts
distinct [] h = distinct_none
distinct (text ∷ rest) h =
    let parts = none_so (is_among text rest) (has_repeat rest) h in
    IsDistinct-cons bytes_eq text rest (differs text rest parts.0) (distinct rest parts.1)

-- what a token set is, apart: their number, and that none stands twice
lawful_parts : (tokens : List Text) → IsTokenSet tokens → (is_between 1 64 (length tokens) ≡ true) × (has_repeat tokens ≡ false)
lawful_parts tokens lawful =
    let parts = and_parts (is_between 1 64 (length tokens) && list_all is_token tokens) (not (has_repeat tokens)) lawful in
    let counted = and_parts (is_between 1 64 (length tokens)) (list_all is_token tokens) parts.0 in
    (counted.0, from_not (has_repeat tokens) parts.1)

pub token_distinct : (tokens : List Text) → IsTokenSet tokens → IsDistinct bytes_eq (token_cover tokens)
token_distinct tokens lawful = distinct tokens (lawful_parts tokens lawful).1

up_to : (n : ℕ) → nat_le n 64 ≡ true → n ≤ 64
up_to n h = search (arith, nat_tests)

pub token_bounded : (tokens : List Text) → IsTokenSet tokens → length (token_cover tokens) ≤ 64
token_bounded tokens lawful =
    let bounds = and_parts (nat_le 1 (length tokens)) (nat_le (length tokens) 64) (lawful_parts tokens lawful).0 in
    up_to (length tokens) bounds.1
