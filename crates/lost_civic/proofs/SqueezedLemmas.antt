-- The comparison text of a value as one pass over it writes it: what is left to write, from what was read before.
use Rattle.std.proofs.Common.{◌≡◌, ℕ, ◌+◌, ◌<◌, ◌≤◌, Bool, true, false, cond, List, [], ◌∷◌, ◌++◌, length, filter, nat_lt, refl, sym, ◌∙◌, ap, arith, append_assoc, append-nil, get_or, encode_utf8, ⊎_elim, suc, not, ◌==◌, Result, Ok, Err, OnOk, is_ok}
use Rattle.std.specs.List.{slice_split, onto_first, join_with_byte}
use Rattle.std.specs.Char.{to_ascii_lowercase}
use Rattle.std.proofs.lemmas.Bool.Decides.{nat_tests}
use Rattle.std.proofs.lemmas.Bool.{cases_lt}
use Rattle.std.proofs.lemmas.Str.{encode_ascii, inside_one, length-encode, len_utf8_bounds}
use Rattle.std.proofs.lemmas.Str.Ascii.{lowercase_ascii, lowercase_is}
use Rattle.std.proofs.lemmas.List.Splits.{slice_split-cons_yes, slice_split-cons_no}
use Rattle.lost_spec.specs.Text.{Text, lowered}
use Rattle.lost_spec.specs.Civic.{is_white, words, comparison_text}
use Rattle.lost_civic.specs.Squeezed.{gap}

-- what is left to write for the rest of a value: whether something was written, and whether white space was read last
abbrev pub squeezed : Bool → Bool → Text → Text
squeezed started white [] = []
squeezed started white (b ∷ rest) =
    cond (is_white b) (squeezed started true rest) (gap started white ++ (to_ascii_lowercase b ∷ squeezed true false rest))

abbrev nonempty : Text → Bool
nonempty word = nat_lt 0 (length word)

-- the words, a space before each
abbrev spaced : List Text → Text
spaced [] = []
spaced (word ∷ rest) = 32 ∷ (word ++ spaced rest)

-- the pieces, where the first goes on with a word
abbrev in_word : List Text → Text
in_word [] = []
in_word (piece ∷ pieces) = piece ++ spaced (filter nonempty pieces)

join-spaced : (word : Text) (rest : List Text) → join_with_byte 32 (word ∷ rest) ≡ word ++ spaced rest
join-spaced word [] = sym (append-nil word)
join-spaced word (next ∷ rest) = ap (λ t. word ++ (32 ∷ t)) (join-spaced next rest)

nonempty-cons : (b : ℕ) (piece : Text) → nonempty (b ∷ piece) ≡ true
nonempty-cons b piece = grind (arith, nat_tests)

filter-cons : (b : ℕ) (piece : Text) (pieces : List Text) → filter nonempty ((b ∷ piece) ∷ pieces) ≡ (b ∷ piece) ∷ filter nonempty pieces
filter-cons b piece pieces =
    ap (λ test. cond test ((b ∷ piece) ∷ filter nonempty pieces) (filter nonempty pieces)) (nonempty-cons b piece)

join-onto_first : (b : ℕ) (pieces : List Text) → join_with_byte 32 (filter nonempty (onto_first b pieces)) ≡ b ∷ in_word pieces
join-onto_first b [] = refl
join-onto_first b (piece ∷ pieces) =
    ap (join_with_byte 32) (filter-cons b piece pieces) ∙ join-spaced (b ∷ piece) (filter nonempty pieces)

in_word-onto_first : (b : ℕ) (pieces : List Text) → in_word (onto_first b pieces) ≡ b ∷ in_word pieces
in_word-onto_first b [] = refl
in_word-onto_first b (piece ∷ pieces) = refl

spaced-onto_first : (b : ℕ) (pieces : List Text) → spaced (filter nonempty (onto_first b pieces)) ≡ 32 ∷ (b ∷ in_word pieces)
spaced-onto_first b [] = refl
spaced-onto_first b (piece ∷ pieces) = ap spaced (filter-cons b piece pieces)

is_white-lower : (b : ℕ) → is_white (to_ascii_lowercase b) ≡ is_white b
is_white-lower b = grind (arith, nat_tests)

-- what the pass writes is the comparison text: at the start, inside a word, and after white space
record IsSqueezed (rest : Text) : Type 0 where
  start : (white : Bool) → join_with_byte 32 (words (lowered rest)) ≡ squeezed false white rest
  inside : in_word (slice_split is_white (lowered rest)) ≡ squeezed true false rest
  after : spaced (words (lowered rest)) ≡ squeezed true true rest

split-white : (b : ℕ) (rest : Text) → is_white b ≡ true → slice_split is_white (lowered (b ∷ rest)) ≡ [] ∷ slice_split is_white (lowered rest)
split-white b rest e = slice_split-cons_yes is_white (to_ascii_lowercase b) (lowered rest) (is_white-lower b ∙ e)

split-word : (b : ℕ) (rest : Text) → is_white b ≡ false → slice_split is_white (lowered (b ∷ rest)) ≡ onto_first (to_ascii_lowercase b) (slice_split is_white (lowered rest))
split-word b rest e = slice_split-cons_no is_white (to_ascii_lowercase b) (lowered rest) (is_white-lower b ∙ e)

pub squeezed-white : (started white : Bool) (b : ℕ) (rest : Text) → is_white b ≡ true → squeezed started white (b ∷ rest) ≡ squeezed started true rest
squeezed-white started white b rest e =
    ap (λ test. cond test (squeezed started true rest) (gap started white ++ (to_ascii_lowercase b ∷ squeezed true false rest))) e

pub squeezed-word : (started white : Bool) (b : ℕ) (rest : Text) → is_white b ≡ false → squeezed started white (b ∷ rest) ≡ gap started white ++ (to_ascii_lowercase b ∷ squeezed true false rest)
squeezed-word started white b rest e =
    ap (λ test. cond test (squeezed started true rest) (gap started white ++ (to_ascii_lowercase b ∷ squeezed true false rest))) e

IsSqueezed-white : (b : ℕ) (rest : Text) → is_white b ≡ true → IsSqueezed rest → IsSqueezed (b ∷ rest)
IsSqueezed-white b rest e h =
    let split = split-white b rest e in
    record {
      start = λ white. ap (λ pieces. join_with_byte 32 (filter nonempty pieces)) split ∙ (h.start true ∙ sym (squeezed-white false white b rest e));
      inside = ap in_word split ∙ (h.after ∙ sym (squeezed-white true false b rest e));
      after = ap (λ pieces. spaced (filter nonempty pieces)) split ∙ (h.after ∙ sym (squeezed-white true true b rest e));
    }

IsSqueezed-word : (b : ℕ) (rest : Text) → is_white b ≡ false → IsSqueezed rest → IsSqueezed (b ∷ rest)
IsSqueezed-word b rest e h =
    let low = to_ascii_lowercase b in
    let pieces = slice_split is_white (lowered rest) in
    let split = split-word b rest e in
    record {
      start = λ white. ap (λ pieces. join_with_byte 32 (filter nonempty pieces)) split ∙ (join-onto_first low pieces ∙ (ap (λ t. low ∷ t) h.inside ∙ sym (squeezed-word false white b rest e)));
      inside = ap in_word split ∙ (in_word-onto_first low pieces ∙ (ap (λ t. low ∷ t) h.inside ∙ sym (squeezed-word true false b rest e)));
      after = ap (λ pieces. spaced (filter nonempty pieces)) split ∙ (spaced-onto_first low pieces ∙ (ap (λ t. 32 ∷ (low ∷ t)) h.inside ∙ sym (squeezed-word true true b rest e)));
    }

IsSqueezed-by : (b : ℕ) (rest : Text) (test : Bool) → is_white b ≡ test → IsSqueezed rest → IsSqueezed (b ∷ rest)
IsSqueezed-by b rest true e h = IsSqueezed-white b rest e h
IsSqueezed-by b rest false e h = IsSqueezed-word b rest e h

all_squeezed : (rest : Text) → IsSqueezed rest
all_squeezed [] = record { start = λ white. refl; inside = refl; after = refl }
all_squeezed (b ∷ rest) = IsSqueezed-by b rest (is_white b) refl (all_squeezed rest)

-- the whole pass
pub comparison_text-squeezed : (value : Text) → comparison_text value ≡ squeezed false false value
comparison_text-squeezed value = (all_squeezed value).start false

-- ---- a character at a time

is_white-beyond : (b : ℕ) → 128 ≤ b → is_white b ≡ false
is_white-beyond b h = grind (arith, nat_tests)

lower-beyond : (b : ℕ) → 128 ≤ b → to_ascii_lowercase b ≡ b
lower-beyond b h = (lowercase_is b).2 (omega arith)

-- each byte is beyond ASCII
abbrev AllBeyond : Text → Type 0
AllBeyond bytes = (k : ℕ) → k < length bytes → 128 ≤ get_or bytes k 0

-- bytes beyond ASCII are written as they are, inside a word and as its beginning
squeezed-inside : (bytes rest : Text) → AllBeyond bytes → squeezed true false (bytes ++ rest) ≡ bytes ++ squeezed true false rest
squeezed-inside [] rest h = refl
squeezed-inside (b ∷ bytes) rest h =
    let high : 128 ≤ b = h 0 (omega arith) in
    squeezed-word true false b (bytes ++ rest) (is_white-beyond b high) ∙ (ap (λ low. low ∷ squeezed true false (bytes ++ rest)) (lower-beyond b high) ∙ ap (λ t. b ∷ t) (squeezed-inside bytes rest (λ k within. h (suc k) (omega arith))))

squeezed-beyond : (started white : Bool) (bytes rest : Text) → 0 < length bytes → AllBeyond bytes → squeezed started white (bytes ++ rest) ≡ gap started white ++ (bytes ++ squeezed true false rest)
squeezed-beyond started white [] rest l h = absurd (omega arith)
squeezed-beyond started white (b ∷ bytes) rest l h =
    let high : 128 ≤ b = h 0 (omega arith) in
    squeezed-word started white b (bytes ++ rest) (is_white-beyond b high) ∙ (ap (λ low. gap started white ++ (low ∷ squeezed true false (bytes ++ rest))) (lower-beyond b high) ∙ ap (λ t. gap started white ++ (b ∷ t)) (squeezed-inside bytes rest (λ k within. h (suc k) (omega arith))))

pub length-character : (c : ℕ) → 0 < length (encode_utf8 c)
length-character c = omega (arith, length-encode c, (len_utf8_bounds c).0)

encode-beyond : (c : ℕ) → 128 ≤ c → AllBeyond (encode_utf8 c)
encode-beyond c h = λ k within. ⊎_elim
    (λ low. let same = inside_one c [] (encode_utf8 c) k (sym (append-nil (encode_utf8 c))) within low in absurd (omega arith))
    (λ high. high)
    (cases_lt (get_or (encode_utf8 c) k 0) 128)

-- what a character that is no white space adds
pub squeezed-character : (started white : Bool) (c : ℕ) (rest : Text) → is_white c ≡ false → squeezed started white (encode_utf8 c ++ rest) ≡ gap started white ++ (encode_utf8 (to_ascii_lowercase c) ++ squeezed true false rest)
squeezed-character started white c rest e = ⊎_elim
    (λ low. ap (λ bytes. squeezed started white (bytes ++ rest)) (encode_ascii c low) ∙ (squeezed-word started white c rest e ∙ ap (λ bytes. gap started white ++ (bytes ++ squeezed true false rest)) (sym (encode_ascii (to_ascii_lowercase c) (lowercase_ascii c low)))))
    (λ high. squeezed-beyond started white (encode_utf8 c) rest (length-character c) (encode-beyond c high) ∙ ap (λ low. gap started white ++ (encode_utf8 low ++ squeezed true false rest)) (sym (lower-beyond c high)))
    (cases_lt c 128)

white-is-ascii : (c : ℕ) → is_white c ≡ true → c < 128
white-is-ascii c e = grind (arith, nat_tests)

-- what white space adds
pub squeezed-space : (started white : Bool) (c : ℕ) (rest : Text) → is_white c ≡ true → squeezed started white (encode_utf8 c ++ rest) ≡ squeezed started true rest
squeezed-space started white c rest e =
    ap (λ bytes. squeezed started white (bytes ++ rest)) (encode_ascii c (white-is-ascii c e)) ∙ squeezed-white started white c rest e

-- ---- the steps of the pass

pub OnOk-longer : {T E : Type 0} (r : Result T E) (before more now : ℕ) → 0 < more → now ≡ cond (is_ok r) (before + more) before → OnOk r (0 < now)
OnOk-longer (Ok x) before more now some e = omega arith
OnOk-longer (Err x) before more now some e = tt

pub at_start : (value written rest : Text) (size : ℕ) → written ≡ [] → size ≡ 0 → rest ≡ value → comparison_text value ≡ written ++ squeezed (not (size == 0)) false rest
at_start value written rest size w z r = rw (w, z, r) (comparison_text-squeezed value)

pub past_space : (value written rest others : Text) (started white : Bool) (c : ℕ) → is_white c ≡ true → rest ≡ encode_utf8 c ++ others → comparison_text value ≡ written ++ squeezed started white rest → comparison_text value ≡ written ++ squeezed started true others
past_space value written rest others started white c e r h =
    h ∙ ap (λ t. written ++ t) (ap (squeezed started white) r ∙ squeezed-space started white c others e)

has_started : (size : ℕ) → 0 < size → not (size == 0) ≡ true
has_started size h = grind (arith, nat_tests)

pub past_character : (value written longer rest others : Text) (size grown : ℕ) (white : Bool) (c : ℕ) → is_white c ≡ false → rest ≡ encode_utf8 c ++ others → longer ≡ written ++ (gap (not (size == 0)) white ++ encode_utf8 (to_ascii_lowercase c)) → 0 < grown → comparison_text value ≡ written ++ squeezed (not (size == 0)) white rest → comparison_text value ≡ longer ++ squeezed (not (grown == 0)) false others
past_character value written longer rest others size grown white c e r l g h =
    let low = encode_utf8 (to_ascii_lowercase c) in
    let before = gap (not (size == 0)) white in
    let tail = squeezed true false others in
    let step : squeezed (not (size == 0)) white rest ≡ before ++ (low ++ tail) = ap (squeezed (not (size == 0)) white) r ∙ squeezed-character (not (size == 0)) white c others e in
    let moved : (written ++ (before ++ low)) ++ tail ≡ written ++ (before ++ (low ++ tail)) = simp append_assoc in
    rw (l, has_started grown g) (h ∙ (ap (λ t. written ++ t) step ∙ sym moved))
