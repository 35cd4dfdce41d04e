-- Services, as lists of labels: which texts spell one, the chain of a service, and its parts.
use Rattle.std.specs.Prelude.{ℕ, zero, suc, ◌+◌, Bool, false, is_none, not, ◌&&◌, ◌||◌, if◌then◌else◌, List, [], ◌∷◌, ◌++◌, take, drop, length, Option, Some, None, unwrap_or, Result, Ok, Err, nat_eq, nat_lt, ◌==◌, codes}
use Rattle.std.specs.List.{list_all, starts_with, slice_split, join_with_byte}
use Rattle.std.specs.Option.{option_or}
use Rattle.lost_spec.specs.declared.faults.UrnError.{UrnError}
use Rattle.lost_spec.specs.declared.faults.UrnError.TheVariants.{Prefix, EmptyLabel, BadCharacter, HyphenAtEnd, LabelTooLong, TooManyLabels}
use Rattle.lost_spec.specs.Text.{Text, same_text, same_texts, lowered, is_before, is_lower_letter, is_digit, is_hyphen, first_is, last_is, first_fault, first_fault_of}

-- a service is a list of labels in lower case, the topmost first (RFC 5031, section 3)
abbrev pub Service : Type 0
Service = List Text

-- the same labels (RFC 5031, section 3: lexical equivalence)
abbrev pub same_service : Service → Service → Bool
same_service s u = same_texts s u

-- ---- which texts spell a service

-- a byte of a label in lower case: a letter, a digit or a hyphen (RFC 5031, section 3)
abbrev pub is_label_byte : ℕ → Bool
is_label_byte b = is_lower_letter b || is_digit b || is_hyphen b

-- the first refusal of one label in lower case (RFC 5031, section 3; the length and the order are own)
abbrev pub label_fault : Text → Option UrnError
label_fault label =
    first_fault (
    (length label == 0, EmptyLabel)
    ∷ (not (list_all is_label_byte label), BadCharacter)
    ∷ (first_is is_hyphen label || last_is is_hyphen label, HyphenAtEnd)
    ∷ (nat_lt 63 (length label), LabelTooLong) ∷ [])

-- there are more than 8 labels (own)
abbrev pub count_fault : List Text → Option UrnError
count_fault labels = first_fault ((nat_lt 8 (length labels), TooManyLabels) ∷ [])

-- the first refusal of labels: each label from the left with all its checks, and their number last (own order)
abbrev pub labels_fault : List Text → Option UrnError
labels_fault labels = option_or (first_fault_of label_fault labels) (count_fault labels)

-- the labels, unless they are refused
abbrev pub service_or : Option UrnError → List Text → Result Service UrnError
service_or None labels = Ok labels
service_or (Some fault) labels = Err fault

-- what every service URN begins with (RFC 5031, section 3)
abbrev pub urn_prefix : Text
urn_prefix = codes "urn:service:"

-- the parts of a text between its dots
abbrev pub split_at_dots : Text → List Text
split_at_dots text = slice_split (λ b. b == 46) text

-- the service that a text in lower case spells, or its first refusal
abbrev pub read_lowered : Text → Result Service UrnError
read_lowered text =
    if starts_with nat_eq text urn_prefix
    then service_or (labels_fault (split_at_dots (drop 12 text))) (split_at_dots (drop 12 text))
    else Err Prefix

-- the service that a text spells in any case, or the text's first refusal (RFC 5031, section 3; order own)
unfoldable pub read_service : Text → Result Service UrnError
read_service text = read_lowered (lowered text)

-- a list of labels is a service: 1 to 8 labels, none refused
abbrev pub is_service : List Text → Bool
is_service [] = false
is_service (label ∷ rest) = is_none (labels_fault (label ∷ rest))

-- the text of a service, which is the one that is printed (RFC 5031, section 3)
abbrev pub service_text : Service → Text
service_text s = urn_prefix ++ join_with_byte 46 s

-- ---- parts of a service

-- s cut to its first n labels, then to one label less, and so on down to one
abbrev pub cuts : ℕ → Service → List Service
cuts zero s = []
cuts (suc n) s = take (suc n) s ∷ cuts n s

-- the chain of a service: itself, then without its last label, and so on down to one label (own policy; RFC 5031, section 3, on sub-services)
abbrev pub chain : Service → List Service
chain s = cuts (length s) s

-- the labels of b are a prefix of those of a
abbrev pub is_at_or_below : Service → Service → Bool
is_at_or_below a b = starts_with same_text a b

-- q is a prefix of s, and shorter
abbrev pub is_above : Service → Service → Bool
is_above q s = is_at_or_below s q && nat_lt (length q) (length s)

-- the first labels of s, one more than q has, where q is a proper prefix of s; without a q, the first label (RFC 5222, section 10)
abbrev pub child : Option Service → Service → Option Service
child q s = let above = unwrap_or q [] in if is_above above s then Some (take (length above + 1) s) else None

-- services in the order of their texts (own)
abbrev pub is_service_before : Service → Service → Bool
is_service_before s u = is_before (service_text s) (service_text u)
