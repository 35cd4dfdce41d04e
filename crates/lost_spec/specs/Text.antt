-- Texts, as lists of bytes: how they are compared, and how a list of checks gives its first refusal.
use Rattle.std.specs.Prelude.{ℕ, Bool, false, cond, if◌then◌else◌, ◌&&◌, ◌||◌, List, [], ◌∷◌, Option, Some, None, nat_le, bytes_eq, ◌==◌}
use Rattle.std.specs.List.{list_any}
use Rattle.std.specs.Option.{option_or}
use Rattle.std.specs.Ordering.{nat_cmp, is_lt}
use Rattle.std.specs.Str.{str_to_ascii_lowercase}
use lib.Pointwise.{pointwise}
use Rattle.std.specs.Cmp.Lexicographic.{slice_cmp}

-- a text is a list of bytes
abbrev pub Text : Type 0
Text = List ℕ

-- two texts are the same, byte for byte
abbrev pub same_text : Text → Text → Bool
same_text a b = bytes_eq a b

-- two lists of texts are the same
abbrev pub same_texts : List Text → List Text → Bool
same_texts xs ys = pointwise same_text xs ys

-- the ASCII letters in lower case, all other bytes as they are
abbrev pub lowered : Text → Text
lowered text = str_to_ascii_lowercase text

-- two texts are the same but for the case of ASCII letters
abbrev pub same_ignoring_case : Text → Text → Bool
same_ignoring_case a b = same_text (lowered a) (lowered b)

-- the text stands in the list
abbrev pub is_among : Text → List Text → Bool
is_among text texts = list_any (same_text text) texts

-- some text stands in the list twice
abbrev pub has_repeat : List Text → Bool
has_repeat [] = false
has_repeat (text ∷ rest) = is_among text rest || has_repeat rest

-- a text comes before another by its bytes: the first byte that differs decides, and else the shorter one is first
abbrev pub is_before : Text → Text → Bool
is_before a b = is_lt (slice_cmp nat_cmp a b)

-- n lies from low to high, both included
abbrev pub is_between : ℕ → ℕ → ℕ → Bool
is_between low high n = nat_le low n && nat_le n high

-- bytes: `a` to `z`, `A` to `Z`, `0` to `9`, and the hyphen
abbrev pub is_lower_letter : ℕ → Bool
is_lower_letter b = is_between 97 122 b

abbrev pub is_letter : ℕ → Bool
is_letter b = is_lower_letter b || is_between 65 90 b

abbrev pub is_digit : ℕ → Bool
is_digit b = is_between 48 57 b

abbrev pub is_hyphen : ℕ → Bool
is_hyphen b = b == 45

-- the first byte, and the last byte, of a text that has one
abbrev pub first_is : (ℕ → Bool) → Text → Bool
first_is test [] = false
first_is test (b ∷ rest) = test b

abbrev pub last_is : (ℕ → Bool) → Text → Bool
last_is test [] = false
last_is test (b ∷ []) = test b
last_is test (b ∷ c ∷ rest) = last_is test (c ∷ rest)

-- the refusal of the first check that fails: a check is a fault and whether it is there
abbrev pub first_fault : {Fault : Type 0} → List (Bool × Fault) → Option Fault
first_fault [] = None
first_fault (check ∷ rest) = cond check.0 (Some check.1) (first_fault rest)

-- the first fault of a list of things, each with its own first fault
abbrev pub first_fault_of : {Thing Fault : Type 0} → (Thing → Option Fault) → List Thing → Option Fault
first_fault_of fault [] = None
first_fault_of fault (thing ∷ rest) = option_or (fault thing) (first_fault_of fault rest)

-- ---- lists in order, each thing once

-- x put into a list in the order of the texts of its things, unless a thing with the same text is there
abbrev pub insert_by : {Thing : Type 0} → (Thing → Text) → Thing → List Thing → List Thing
insert_by text_of x [] = x ∷ []
insert_by text_of x (y ∷ rest) =
    if is_before (text_of x) (text_of y) then x ∷ y ∷ rest
    else (if same_text (text_of x) (text_of y) then y ∷ rest else y ∷ insert_by text_of x rest)

-- the things of a list in ascending order of their texts, each once
abbrev pub ascending_by : {Thing : Type 0} → (Thing → Text) → List Thing → List Thing
ascending_by text_of [] = []
ascending_by text_of (x ∷ rest) = insert_by text_of x (ascending_by text_of rest)
