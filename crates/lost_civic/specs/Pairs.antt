-- Pairs of a name and a value as the definitions see them: by the bytes of both.
use Rattle.std.specs.Prelude.{Bool, List, [], ◌∷◌, map, length, not, nat_lt, ◌++◌, ◌&&◌, ◌||◌, Option, String, string_bytes}
use Rattle.std.specs.Cmp.{IsEquivalence, and_equiv, on_equiv}
use Rattle.std.specs.Cmp.Lexicographic.{lists_equiv, nat_list_eq_equiv}
use Rattle.std.specs.Hash as fed
use Rattle.std.proofs.lemmas.Slice.Eq.{bytes_eq-Decides}
use lib.Pointwise.{pointwise}
use Rattle.lost_spec.specs.declared.faults.CivicError.{CivicError}
use Rattle.lost_spec.specs.declared.faults.CivicError.TheVariants.{Repeated, TooLong}
use Rattle.lost_spec.specs.Text.{Text, same_text, has_repeat, first_fault}
use Rattle.lost_spec.specs.Civic.{Pairs, names_of, is_known, is_too_long}

abbrev pub seen_pair : {A : Type 0} → String A × String A → Text × Text
seen_pair pair = (string_bytes pair.0, string_bytes pair.1)

abbrev pub seen_pairs : {A : Type 0} → List (String A × String A) → Pairs
seen_pairs pairs = map seen_pair pairs

-- the first refusal that addresses and patterns share: too long, a name twice (own)
abbrev pub shared_fault : Pairs → Option CivicError
shared_fault pairs = first_fault ((is_too_long pairs, TooLong) ∷ (has_repeat (names_of pairs), Repeated) ∷ [])

-- a pair that a pattern takes: neither text has over 512 bytes, and the name is known (own)
abbrev pub is_pattern_pair : Text × Text → Bool
is_pattern_pair pair = not (nat_lt 512 (length pair.0) || nat_lt 512 (length pair.1)) && is_known pair.0

-- two pairs are the same, name and value, byte for byte
abbrev pub same_pair : Text × Text → Text × Text → Bool
same_pair a b = same_text a.0 b.0 && same_text a.1 b.1

-- two lists of pairs are the same, in their order
abbrev pub same_pairs : Pairs → Pairs → Bool
same_pairs a b = pointwise same_pair a b

-- what a hasher is fed of pairs
abbrev pub hashed_pairs : Pairs → fed.HashWrites
hashed_pairs pairs = fed.slice (λ pair. fed.str pair.0 ++ fed.str pair.1) pairs

-- sameness is an equivalence
pub same_pairs-equiv : IsEquivalence same_pairs
same_pairs-equiv =
    lists_equiv (and_equiv (on_equiv (λ (pair : Text × Text). pair.0) nat_list_eq_equiv) (on_equiv (λ (pair : Text × Text). pair.1) nat_list_eq_equiv))

-- a hasher is fed the same of the same pairs
pub hashed_pairs-alike : fed.Alike same_pairs hashed_pairs
hashed_pairs-alike =
    fed.items_Alike (fed.and-Alike (fed.on_Alike (λ (pair : Text × Text). pair.0) (fed.same_Alike fed.str bytes_eq-Decides)) (fed.on_Alike (λ (pair : Text × Text). pair.1) (fed.same_Alike fed.str bytes_eq-Decides)))
