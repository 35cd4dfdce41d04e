-- A test of each pair's name or value is a test of the pairs that definitions see.
use Rattle.std.proofs.Common.{◌≡◌, Bool, List, [], ◌∷◌, String, string_bytes, refl, sym, ◌∙◌, ap, ◌||◌, ◌&&◌, ℕ, ◌≤◌, false, length, nat_lt, arith}
use Rattle.std.proofs.lemmas.Bool.Decides.{nat_tests}
use Rattle.std.proofs.lemmas.List.{length-map}
use Rattle.std.specs.List.{list_any, list_all}
use Rattle.lost_spec.specs.Text.{Text}
use Rattle.lost_spec.specs.Civic.{names_of, is_too_long}
use Rattle.lost_civic.specs.Pairs.{seen_pair, seen_pairs}

pub list_any-seen : {A : Type 0} (test : Text × Text → Bool) (pairs : List (String A × String A)) → list_any (λ pair. test (seen_pair pair)) pairs ≡ list_any test (seen_pairs pairs)
list_any-seen test [] = refl
list_any-seen test (pair ∷ rest) = ap (λ found. test (seen_pair pair) || found) (list_any-seen test rest)

pub list_all-seen : {A : Type 0} (test : Text × Text → Bool) (pairs : List (String A × String A)) → list_all (λ pair. test (seen_pair pair)) pairs ≡ list_all test (seen_pairs pairs)
list_all-seen test [] = refl
list_all-seen test (pair ∷ rest) = ap (λ found. test (seen_pair pair) && found) (list_all-seen test rest)

pub list_any-names : {A : Type 0} (test : Text → Bool) (pairs : List (String A × String A)) → list_any (λ pair. test (string_bytes pair.0)) pairs ≡ list_any test (names_of (seen_pairs pairs))
list_any-names test [] = refl
list_any-names test (pair ∷ rest) = ap (λ found. test (string_bytes pair.0) || found) (list_any-names test rest)

pub list_all-names : {A : Type 0} (test : Text → Bool) (pairs : List (String A × String A)) → list_all (λ pair. test (string_bytes pair.0)) pairs ≡ list_all test (names_of (seen_pairs pairs))
list_all-names test [] = refl
list_all-names test (pair ∷ rest) = ap (λ found. test (string_bytes pair.0) && found) (list_all-names test rest)

nat_lt-few : (count : ℕ) → count ≤ 128 → nat_lt 128 count ≡ false
nat_lt-few count few = grind (arith, nat_tests)

-- of few pairs, some text is too long exactly where they are too long
pub is_too_long-few : {A : Type 0} (pairs : List (String A × String A)) → length pairs ≤ 128 → list_any (λ pair. nat_lt 512 (length (string_bytes pair.0)) || nat_lt 512 (length (string_bytes pair.1))) pairs ≡ is_too_long (seen_pairs pairs)
is_too_long-few pairs few =
    let long : Text × Text → Bool = λ pair. nat_lt 512 (length pair.0) || nat_lt 512 (length pair.1) in
    let not_many : nat_lt 128 (length (seen_pairs pairs)) ≡ false = nat_lt-few (length (seen_pairs pairs)) (omega (arith, length-map pairs seen_pair)) in
    list_any-seen long pairs ∙ sym (ap (λ many. many || list_any long (seen_pairs pairs)) not_many)
