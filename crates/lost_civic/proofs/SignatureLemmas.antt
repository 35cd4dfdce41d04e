-- Signatures, an element at a time, and what a match says of them.
use Rattle.std.proofs.Common.{◌≡◌, ℕ, zero, suc, subst, ◌+◌, ◌<◌, ◌≤◌, true, List, [], ◌∷◌, length, take, get_or, Option, Some, None, IfSome, bit_and, bit_or, option_map, String, string_bytes, sym, ◌∙◌, ap, arith}
use Rattle.std.specs.Int.{bit_at}
use Rattle.std.specs.List.{fold, AllByRecursion}
use Rattle.std.proofs.lemmas.Nat.Bits.{bit_at-zero, bit_at_or, bit_at_and, same_from_bits}
use Rattle.std.proofs.lemmas.Bool.Decides.{Decides-eqb}
use Rattle.std.proofs.lemmas.List.{take_all}
use Rattle.std.proofs.lemmas.List.Sums.{fold_more}
use Rattle.lost_spec.specs.Text.{Text}
use Rattle.lost_spec.specs.Civic.{Pairs, matches}
use Rattle.lost_civic.specs.declared.elements.Element.{Element}
use Rattle.lost_civic.specs.declared.elements.Element.TheVariants.{Country}
use Rattle.lost_civic.specs.Element.{element_index, all_elements}
use Rattle.lost_civic.specs.Signatures.{bits_of, with_bits, signature_of, with_key, signature_of_keys, are_among}
use Rattle.lost_civic.specs.Texts.{text_of, table_of, seen_table}
use Rattle.lost_civic.proofs.ElementLemmas.{all_elements-element_index}
use Rattle.lost_civic.proofs.Present.{shared_text}
use Rattle.lost_civic.proofs.TextLemmas.{text_of-at}

-- each element has a place in the table
index_within : (element : Element) → element_index element < 31
index_within Country = omega arith
index_within other = omega arith

-- ---- an element at a time

-- the bits of the elements before a place
abbrev pub bits_before : Pairs → ℕ → ℕ
bits_before pairs i = fold (with_bits pairs) 0 (take i all_elements)

-- those of the one at it are added
pub bits_more : (pairs : Pairs) (i bits after : ℕ) (text : Option Text) → i < 31 → bits ≡ bits_before pairs i → text ≡ text_of (get_or all_elements i Country) pairs → after ≡ bit_or bits (bits_of (get_or all_elements i Country) text) → after ≡ bits_before pairs (i + 1)
bits_more pairs i bits after text within before is grown =
    let element = get_or all_elements i Country in
    grown ∙ (ap (λ found. bit_or bits (bits_of element found)) is ∙ (ap (λ own. with_bits pairs own element) before ∙ sym (fold_more (with_bits pairs) 0 all_elements i Country within)))

-- an element that doesn't stand there adds none
pub bits_kept : (pairs : Pairs) (i bits : ℕ) → i < 31 → bits ≡ bits_before pairs i → None ≡ text_of (get_or all_elements i Country) pairs → bits ≡ bits_before pairs (i + 1)
bits_kept pairs i bits within before is =
    bits_more pairs i bits bits None within before is (same_from_bits bits (bit_or bits 0) (λ place. omega (arith, bit_at_or bits 0 place, bit_at-zero place)))

-- past the last element they are the signature
pub bits_done : (pairs : Pairs) (i bits : ℕ) → 31 ≤ i → bits ≡ bits_before pairs i → bits ≡ signature_of pairs
bits_done pairs i bits past before = before ∙ ap (fold (with_bits pairs) 0) (take_all i all_elements past)

-- the table has the text of the element at a place
pub table_text : {A : Type 0} (texts : List (Option (String A))) (pairs : Pairs) (i : ℕ) (text : Option (String A)) → i < 31 → seen_table texts ≡ table_of pairs → text ≡ get_or texts (element_index (get_or all_elements i Country)) text → option_map string_bytes text ≡ text_of (get_or all_elements i Country) pairs
table_text texts pairs i text within kept is =
    let element = get_or all_elements i Country in
    text_of-at texts pairs element text (index_within element) kept is

-- ---- a match

-- each bit of the first is one of the second
abbrev AreWithin : ℕ → ℕ → Type 0
AreWithin bits others = (i : ℕ) → bit_at bits i ≤ bit_at others i

or_within : (a b c d : ℕ) → AreWithin a c → AreWithin b d → AreWithin (bit_or a b) (bit_or c d)
or_within a b c d first second = λ i. omega (arith, bit_at_or a b i, bit_at_or c d i, first i, second i)

same_within : (a b : ℕ) → a ≡ b → AreWithin a b
same_within a b same = λ i. omega (arith, ap (λ n. bit_at n i) same)

-- an element's bits are among those of the same element with the same text
bits_within : (element : Element) (own other : Option Text) → IfSome own (λ text. other ≡ Some text) → AreWithin (bits_of element own) (bits_of element other)
bits_within element None other h = λ i. omega (arith, bit_at-zero i)
bits_within element (Some text) other h = same_within (bits_of element (Some text)) (bits_of element other) (ap (bits_of element) (sym h))

fold_within : (pattern address : Pairs) (elements : List Element) (bits others : ℕ) → ((element : Element) → IfSome (text_of element pattern) (λ text. text_of element address ≡ Some text)) → AreWithin bits others → AreWithin (fold (with_bits pattern) bits elements) (fold (with_bits address) others elements)
fold_within pattern address [] bits others each h = h
fold_within pattern address (element ∷ rest) bits others each h =
    let own = text_of element pattern in
    let other = text_of element address in
    fold_within pattern address rest (with_bits pattern bits element) (with_bits address others element) each (or_within bits (bits_of element own) others (bits_of element other) h (bits_within element own other (each element)))

among-from_within : (bits others : ℕ) → AreWithin bits others → are_among bits others ≡ true
among-from_within bits others h =
    (Decides-eqb (bit_and bits others) bits).1 (same_from_bits (bit_and bits others) bits (λ i. omega (arith, bit_at_and bits others i, h i)))

-- where a pattern matches an address, its signature is within the address's
pub signatures_meet : (pattern address : Pairs) → matches pattern address ≡ true → are_among (signature_of pattern) (signature_of address) ≡ true
signatures_meet pattern address h =
    among-from_within (signature_of pattern) (signature_of address) (fold_within pattern address all_elements 0 0 (λ element. shared_text pattern address element h) (λ i. omega arith))

-- ---- one element

left_within : (a b : ℕ) → AreWithin a (bit_or a b)
left_within a b = λ i. omega (arith, bit_at_or a b i)

right_within : (a b : ℕ) → AreWithin b (bit_or a b)
right_within a b = λ i. omega (arith, bit_at_or a b i)

within_both : (a b c : ℕ) → AreWithin a c → AreWithin b c → AreWithin (bit_or a b) c
within_both a b c first second = λ i. omega (arith, bit_at_or a b i, first i, second i)

within_along : (a b c : ℕ) → AreWithin a b → AreWithin b c → AreWithin a c
within_along a b c first second = λ i. omega (arith, first i, second i)

fold_grows : (pairs : Pairs) (elements : List Element) (bits : ℕ) → AreWithin bits (fold (with_bits pairs) bits elements)
fold_grows pairs [] bits = λ i. omega arith
fold_grows pairs (element ∷ rest) bits =
    let more = with_bits pairs bits element in
    within_along bits more (fold (with_bits pairs) more rest) (left_within bits (bits_of element (text_of element pairs))) (fold_grows pairs rest more)

fold_has : (pairs : Pairs) (elements : List Element) (bits i : ℕ) → i < length elements → AreWithin (bits_of (get_or elements i Country) (text_of (get_or elements i Country) pairs)) (fold (with_bits pairs) bits elements)
fold_has pairs [] bits i within = absurd (omega arith)
fold_has pairs (element ∷ rest) bits zero within =
    let own = bits_of element (text_of element pairs) in
    let more = with_bits pairs bits element in
    within_along own more (fold (with_bits pairs) more rest) (right_within bits own) (fold_grows pairs rest more)
fold_has pairs (element ∷ rest) bits (suc i) within = fold_has pairs rest (with_bits pairs bits element) i (omega arith)

-- the bits of an element that stands there are among those of the signature
element_within : (pairs : Pairs) (element : Element) (text : Text) → text_of element pairs ≡ Some text → AreWithin (bits_of element (Some text)) (signature_of pairs)
element_within pairs element text stands =
    let here : get_or all_elements (element_index element) Country ≡ element = all_elements-element_index element Country in
    subst (λ found. AreWithin (bits_of element found) (signature_of pairs)) stands (subst (λ other. AreWithin (bits_of other (text_of other pairs)) (signature_of pairs)) here (fold_has pairs all_elements 0 (element_index element) (index_within element)))

-- the keys' elements stand there with the keys' texts
abbrev pub AllStand : Pairs → List (Element × Text) → Type 0
AllStand pairs keys = AllByRecursion (λ key. text_of key.0 pairs ≡ Some key.1) keys

all_within : (pairs : Pairs) (keys : List (Element × Text)) (bits : ℕ) → AreWithin bits (signature_of pairs) → AllStand pairs keys → AreWithin (fold with_key bits keys) (signature_of pairs)
all_within pairs [] bits h stand = h
all_within pairs (key ∷ rest) bits h stand =
    all_within pairs rest (with_key bits key) (within_both bits (bits_of key.0 (Some key.1)) (signature_of pairs) h (element_within pairs key.0 key.1 stand.0)) stand.1

-- so their bits are among those of the signature
pub keys_meet : (pairs : Pairs) (keys : List (Element × Text)) → AllStand pairs keys → are_among (signature_of_keys keys) (signature_of pairs) ≡ true
keys_meet pairs keys stand =
    among-from_within (signature_of_keys keys) (signature_of pairs) (all_within pairs keys 0 (λ i. omega (arith, bit_at-zero i)) stand)
