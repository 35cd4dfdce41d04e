-- The signature of an address or a pattern: 64 bits, of which each element that stands there sets some.
use Rattle.std.specs.Prelude.{ℕ, ◌/◌, ◌%◌, ◌^◌, ◌==◌, Bool, List, ◌++◌, Option, Some, None, bit_and, bit_or}
use Rattle.std.specs.List.{fold}
use Rattle.std.specs.Hash as fed
use Rattle.std.specs.Hash.FoldHasher as folding
use Rattle.lost_spec.specs.Text.{Text}
use Rattle.lost_spec.specs.Civic.{Pairs}
use Rattle.lost_civic.specs.declared.elements.Element.{Element}
use Rattle.lost_civic.specs.Element.{element_index, all_elements}
use Rattle.lost_civic.specs.Texts.{text_of}

-- the hash of an element with its comparison text (own)
unfoldable pub hash_of : Element → Text → ℕ
hash_of element text =
    folding.finish (fold folding.write folding.initial (fed.usize (element_index element) ++ fed.str text))

-- one bit of 64, by the last six bits of a number
abbrev pub one_bit : ℕ → ℕ
one_bit n = 2 ^ (n % 64)

-- the bits that a hash sets: one by each of the first three groups of its six bits
unfoldable pub bits_of_hash : ℕ → ℕ
bits_of_hash hash = bit_or (bit_or (one_bit hash) (one_bit (hash / 64))) (one_bit (hash / 4096))

-- the bits that an element sets, where it stands there with a comparison text
abbrev pub bits_of : Element → Option Text → ℕ
bits_of element None = 0
bits_of element (Some text) = bits_of_hash (hash_of element text)

abbrev pub with_bits : Pairs → ℕ → Element → ℕ
with_bits pairs bits element = bit_or bits (bits_of element (text_of element pairs))

-- the bits of all elements that stand there (own)
abbrev pub signature_of : Pairs → ℕ
signature_of pairs = fold (with_bits pairs) 0 all_elements

abbrev pub with_key : ℕ → Element × Text → ℕ
with_key bits key = bit_or bits (bits_of key.0 (Some key.1))

-- the bits of elements with comparison texts (own)
abbrev pub signature_of_keys : List (Element × Text) → ℕ
signature_of_keys keys = fold with_key 0 keys

-- each bit that is set in the first is set in the second
abbrev pub are_among : ℕ → ℕ → Bool
are_among bits others = bit_and bits others == bits
