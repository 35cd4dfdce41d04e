-- Which pairs are a pattern, pair by pair.
use Rattle.std.proofs.Common.{◌≡◌, ◌∙◌, ◌<◌, Bool, true, false, true≢false, not, ◌&&◌, ◌||◌, ℕ, nat_lt, nat_le, [], ◌∷◌, length, is_none, refl, sym, ap, arith}
use Rattle.std.specs.List.{list_any, list_all}
use Rattle.std.proofs.lemmas.Bool.Decides.{nat_tests}
use Rattle.lost_spec.specs.declared.faults.CivicError.TheVariants.{NoKnownElement, Repeated, TooLong, UnknownElement}
use Rattle.lost_spec.specs.Text.{has_repeat, is_between, first_fault}
use Rattle.lost_spec.specs.Civic.{Pairs, names_of, is_known, pattern_fault}
use Rattle.lost_civic.specs.Pairs.{is_pattern_pair}

-- a list of pairs passes where each of them does
each_so : (long known longs knowns : Bool) → (not (long || longs) && (known && knowns)) ≡ ((not long && known) && (not longs && knowns))
each_so true known longs knowns = refl
each_so false true true knowns = refl
each_so false true false knowns = refl
each_so false false true knowns = refl
each_so false false false knowns = refl

each_is_pattern_pair : (pairs : Pairs) → (not (list_any (λ pair. nat_lt 512 (length pair.0) || nat_lt 512 (length pair.1)) pairs) && list_all is_known (names_of pairs)) ≡ list_all is_pattern_pair pairs
each_is_pattern_pair [] = refl
each_is_pattern_pair (pair ∷ rest) =
    each_so (nat_lt 512 (length pair.0) || nat_lt 512 (length pair.1)) (is_known pair.0) (list_any (λ pair. nat_lt 512 (length pair.0) || nat_lt 512 (length pair.1)) rest) (list_all is_known (names_of rest))
    ∙ ap (λ others. is_pattern_pair pair && others) (each_is_pattern_pair rest)

first_known : (known knowns others : Bool) → (known && knowns) ≡ true → (known || others) ≡ true
first_known true knowns others h = refl
first_known false knowns others h = absurd (true≢false (sym h))

by_parts : (many long twice each some : Bool) → twice ≡ false → (each ≡ true → some ≡ true)
    → is_none (first_fault ((many || long, TooLong) ∷ (twice, Repeated) ∷ (not each, UnknownElement) ∷ (not some, NoKnownElement) ∷ [])) ≡ (not many && (not long && each))
by_parts true long twice each some unique known = refl
by_parts false true twice each some unique known = refl
by_parts false false true each some unique known = absurd (true≢false unique)
by_parts false false false false some unique known = refl
by_parts false false false true true unique known = refl
by_parts false false false true false unique known = known refl

few : (count : ℕ) → not (nat_lt 128 count) ≡ nat_le count 128
few count = grind (arith, nat_tests)

some : (count : ℕ) → 0 < count → true ≡ nat_le 1 count
some count h = grind (arith, nat_tests)

-- pairs with no name twice are a pattern where there are 1 to 128 of them, and each is a pair that a pattern takes
pub is_none-pattern_fault : (pairs : Pairs) → has_repeat (names_of pairs) ≡ false → is_none (pattern_fault pairs) ≡ (is_between 1 128 (length pairs) && list_all is_pattern_pair pairs)
is_none-pattern_fault [] unique = refl
is_none-pattern_fault (pair ∷ rest) unique =
    let pairs = pair ∷ rest in
    by_parts (nat_lt 128 (length pairs)) (list_any (λ pair. nat_lt 512 (length pair.0) || nat_lt 512 (length pair.1)) pairs) (has_repeat (names_of pairs)) (list_all is_known (names_of pairs)) (list_any is_known (names_of pairs)) unique
    (first_known (is_known pair.0) (list_all is_known (names_of rest)) (list_any is_known (names_of rest)))
    ∙ (ap (λ right. right && (not (list_any (λ pair. nat_lt 512 (length pair.0) || nat_lt 512 (length pair.1)) pairs) && list_all is_known (names_of pairs))) (few (length pairs))
    ∙ (ap (λ each. nat_le (length pairs) 128 && each) (each_is_pattern_pair pairs)
    ∙ ap (λ left. (left && nat_le (length pairs) 128) && list_all is_pattern_pair pairs) (some (length pairs) (omega arith))))
