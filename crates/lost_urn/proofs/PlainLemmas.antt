-- Plain texts: labels in lower case, which one walk over the bytes counts.
use Rattle.std.proofs.Common.{◌≡◌, ℕ, ◌+◌, ◌<◌, ◌≤◌, suc, Bool, true, false, ◌||◌, cond, nat_eq, Option, None, Some, Ok, [], ◌∷◌, ◌++◌, drop, length, get_or, refl, sym, ap, ◌∙◌, add-one, arith}
use Rattle.std.specs.List.{list_all}
use Rattle.std.specs.Char.{is_ascii_lowercase, is_ascii_digit}
use Rattle.std.specs.Result.{IsOkAnd}
use Rattle.std.specs.Option.{option_or, IfSome}
use Rattle.std.proofs.lemmas.List.{append_assoc, append-nil, length-append}
use Rattle.std.proofs.lemmas.Bool.Decides.{Decides-eqb, nat_tests}
use Rattle.std.proofs.Math.Seq.{drop-cons}
use Rattle.lost_spec.specs.Text.{Text, lowered, is_lower_letter, is_digit, first_fault_of, first_is, last_is, is_hyphen}
use Rattle.lost_spec.specs.Service.{read_service, is_label_byte, label_fault, count_fault, labels_fault, split_at_dots, urn_prefix, service_or}
use Rattle.lost_urn.specs.Spelling.{IsPlain}
use Rattle.lost_urn.proofs.CutLemmas.{no_count_fault}
use Rattle.lost_urn.proofs.DotLemmas.{split-at_dot}
use Rattle.lost_urn.proofs.ReadLemmas.{read_labels}
use Rattle.lost_urn.proofs.ServiceLemmas.{NoFault, both_true, one_part, lowered_byte}

-- a byte that may stand at each place of a label
abbrev pub is_plain : ℕ → Bool
is_plain b = is_lower_letter b || is_digit b

-- the number of labels from a byte on, where `depth` labels have begun before it, and the last of them may not end there
-- if it is unfinished
abbrev pub labels_from : ℕ → Bool → Text → Option ℕ
labels_from depth unfinished [] = cond unfinished None (Some depth)
labels_from depth unfinished (b ∷ rest) =
    cond (is_plain b) (labels_from depth false rest)
    (cond unfinished None
    (cond (nat_eq b 46) (labels_from (depth + 1) true rest)
    (cond (nat_eq b 45) (labels_from depth true rest) None)))

-- ---- one step of the walk

letter_plain : (b : ℕ) → is_ascii_lowercase b ≡ true → is_plain b ≡ true
letter_plain b h = grind (arith, nat_tests)

digit_plain : (b : ℕ) → is_ascii_digit b ≡ true → is_plain b ≡ true
digit_plain b h = grind (arith, nat_tests)

module _ (text : Text) (i depth new_depth : ℕ) (unfinished new_unfinished : Bool) (within : i < length text) where
  over_plain : is_plain (get_or text i 0) ≡ true → new_depth ≡ depth → new_unfinished ≡ false → labels_from depth unfinished (drop i text) ≡ labels_from new_depth new_unfinished (drop (i + 1) text)
  over_plain plain depth_is unfinished_is =
      rw (depth_is, unfinished_is, add-one i)
      (ap (labels_from depth unfinished) (drop-cons text i 0 within)
      ∙ ap (λ v. cond v (labels_from depth false (drop (suc i) text)) (cond unfinished None (cond (nat_eq (get_or text i 0) 46) (labels_from (depth + 1) true (drop (suc i) text)) (cond (nat_eq (get_or text i 0) 45) (labels_from depth true (drop (suc i) text)) None)))) plain)

  -- over a letter
  pub step_letter : is_ascii_lowercase (get_or text i 0) ≡ true → new_depth ≡ depth → new_unfinished ≡ false → labels_from depth unfinished (drop i text) ≡ labels_from new_depth new_unfinished (drop (i + 1) text)
  step_letter letter = over_plain (letter_plain (get_or text i 0) letter)

  -- over a digit
  pub step_digit : is_ascii_digit (get_or text i 0) ≡ true → new_depth ≡ depth → new_unfinished ≡ false → labels_from depth unfinished (drop i text) ≡ labels_from new_depth new_unfinished (drop (i + 1) text)
  step_digit digit = over_plain (digit_plain (get_or text i 0) digit)

  -- over a dot behind a label that may end
  pub step_dot : get_or text i 0 ≡ 46 → unfinished ≡ false → new_depth ≡ depth + 1 → new_unfinished ≡ true → labels_from depth unfinished (drop i text) ≡ labels_from new_depth new_unfinished (drop (i + 1) text)
  step_dot dot finished depth_is unfinished_is =
      rw (depth_is, unfinished_is, finished, add-one i)
      (ap (labels_from depth false) (drop-cons text i 0 within ∙ ap (λ b. b ∷ drop (suc i) text) dot))

  -- over a hyphen behind a letter or a digit
  pub step_hyphen : get_or text i 0 ≡ 45 → unfinished ≡ false → new_depth ≡ depth → new_unfinished ≡ true → labels_from depth unfinished (drop i text) ≡ labels_from new_depth new_unfinished (drop (i + 1) text)
  step_hyphen hyphen finished depth_is unfinished_is =
      rw (depth_is, unfinished_is, finished, add-one i)
      (ap (labels_from depth false) (drop-cons text i 0 within ∙ ap (λ b. b ∷ drop (suc i) text) hyphen))

-- ---- one label

label_byte : (b : ℕ) → is_plain b ≡ true → is_label_byte b ≡ true
label_byte b h = grind (arith, nat_tests)

no_hyphen : (b : ℕ) → is_plain b ≡ true → is_hyphen b ≡ false
no_hyphen b h = grind (arith, nat_tests)

-- the bytes of a label so far
record Begun (unfinished : Bool) (label : Text) : Type 0 where
  bytes : list_all is_label_byte label ≡ true
  first : first_is is_hyphen label ≡ false
  finished : unfinished ≡ false → (0 < length label) × (last_is is_hyphen label ≡ false)

begun : Begun true []
begun = record { bytes = refl; first = refl; finished = λ h. absurd (cc) }

all_more : (bs : Text) (b : ℕ) → list_all is_label_byte bs ≡ true → is_label_byte b ≡ true → list_all is_label_byte (bs ++ b ∷ []) ≡ true
all_more [] b h here = rw here
all_more (a ∷ rest) b h here =
    let parts = both_true (is_label_byte a) (list_all is_label_byte rest) h in
    rw (parts.0, all_more rest b parts.1 here)

first_more : (bs : Text) (b : ℕ) → 0 < length bs → first_is is_hyphen (bs ++ b ∷ []) ≡ first_is is_hyphen bs
first_more [] b some = absurd (omega arith)
first_more (a ∷ rest) b some = refl

first_plain : (bs : Text) (b : ℕ) → first_is is_hyphen bs ≡ false → is_plain b ≡ true → first_is is_hyphen (bs ++ b ∷ []) ≡ false
first_plain [] b h plain = no_hyphen b plain
first_plain (a ∷ rest) b h plain = h

last_more : (bs : Text) (b : ℕ) → last_is is_hyphen (bs ++ b ∷ []) ≡ is_hyphen b
last_more [] b = refl
last_more (a ∷ []) b = refl
last_more (a ∷ c ∷ rest) b = last_more (c ∷ rest) b

begun_plain : (unfinished : Bool) (label : Text) (b : ℕ) → Begun unfinished label → is_plain b ≡ true → Begun false (label ++ b ∷ [])
begun_plain unfinished label b so_far plain = record {
  bytes = all_more label b so_far.bytes (label_byte b plain);
  first = first_plain label b so_far.first plain;
  finished = λ h. (omega (arith, length-append label (b ∷ [])), last_more label b ∙ no_hyphen b plain);
}

begun_hyphen : (label : Text) (b : ℕ) → Begun false label → b ≡ 45 → Begun true (label ++ b ∷ [])
begun_hyphen label b so_far is = record {
  bytes = all_more label b so_far.bytes (ap is_label_byte is);
  first = first_more label b (so_far.finished refl).0 ∙ so_far.first;
  finished = λ h. absurd (cc);
}

-- a finished label has no fault
finished_label : (label : Text) → Begun false label → length label ≤ 63 → label_fault label ≡ None
finished_label label so_far short =
    let ends = so_far.finished refl in
    let some : 0 < length label = ends.0 in
    rw (so_far.bytes, so_far.first, ends.1) (grind (arith, nat_tests))

-- ---- the whole walk

split_last : (label : Text) → list_all is_label_byte label ≡ true → split_at_dots (label ++ []) ≡ label ∷ []
split_last label h = ap split_at_dots (append-nil label) ∙ one_part label h

split_dot : (label rest : Text) → list_all is_label_byte label ≡ true → split_at_dots (label ++ 46 ∷ rest) ≡ label ∷ split_at_dots rest
split_dot label rest h = split-at_dot label rest ∙ ap (λ parts. parts ++ split_at_dots rest) (one_part label h)

-- what is known of the labels of `label ++ rest`, where the walk has come to `rest`
record Walked (depth n : ℕ) (label rest : Text) : Type 0 where
  no_fault : NoFault (split_at_dots (label ++ rest))
  counted : suc n ≡ depth + length (split_at_dots (label ++ rest))
  lowercase : lowered rest ≡ rest

-- the walk over `rest`, behind the first bytes of a label, tells what is known
abbrev Walks : Text → Type 0
Walks rest = (depth n : ℕ) (unfinished : Bool) (label : Text) → Begun unfinished label → length label + length rest ≤ 63 → labels_from depth unfinished rest ≡ Some n → Walked depth n label rest

-- nothing follows
walk_end : Walks []
walk_end depth n true label so_far short goes = absurd (cc)
walk_end depth n false label so_far short goes =
    let none = finished_label label so_far (omega arith) in
    let counted : depth ≡ n = cc in
    record {
      no_fault = rw (split_last label so_far.bytes, none);
      counted = rw (split_last label so_far.bytes) (omega arith);
      lowercase = refl;
    }

-- a byte of the label follows
byte_walked : (depth n : ℕ) (label : Text) (b : ℕ) (rest : Text) → is_label_byte b ≡ true → Walked depth n (label ++ b ∷ []) rest → Walked depth n label (b ∷ rest)
byte_walked depth n label b rest here after =
    let same : (label ++ b ∷ []) ++ rest ≡ label ++ b ∷ rest = append_assoc label (b ∷ []) rest in
    record {
      no_fault = ap (λ t. first_fault_of label_fault (split_at_dots t)) (sym same) ∙ after.no_fault;
      counted = after.counted ∙ ap (λ t. depth + length (split_at_dots t)) same;
      lowercase = rw (lowered_byte b here, after.lowercase);
    }

-- a dot follows
dot_walked : (depth n : ℕ) (label : Text) (b : ℕ) (rest : Text) → list_all is_label_byte label ≡ true → label_fault label ≡ None → b ≡ 46 → Walked (depth + 1) n [] rest → Walked depth n label (b ∷ rest)
dot_walked depth n label b rest h none is after =
    let parts : split_at_dots (label ++ b ∷ rest) ≡ label ∷ split_at_dots rest = ap (λ c. split_at_dots (label ++ c ∷ rest)) is ∙ split_dot label rest h in
    let counted : suc n ≡ depth + 1 + length (split_at_dots rest) = after.counted in
    record {
      no_fault = ap (first_fault_of label_fault) parts ∙ ap (λ f. option_or f (first_fault_of label_fault (split_at_dots rest))) none ∙ after.no_fault;
      counted = rw parts (omega arith);
      lowercase = rw (is, after.lowercase);
    }

module _ (b : ℕ) (rest : Text) (later : Walks rest) (depth n : ℕ) (label : Text) (short : length label + length (b ∷ rest) ≤ 63) where
  -- the labels from `b` on, by what the tests of `b` say
  abbrev from : Bool → Bool → Bool → Bool → Option ℕ
  from plain unfinished dot hyphen =
      cond plain (labels_from depth false rest) (cond unfinished None (cond dot (labels_from (depth + 1) true rest) (cond hyphen (labels_from depth true rest) None)))

  by_byte : (plain unfinished dot hyphen : Bool) → is_plain b ≡ plain → nat_eq b 46 ≡ dot → nat_eq b 45 ≡ hyphen → Begun unfinished label → from plain unfinished dot hyphen ≡ Some n → Walked depth n label (b ∷ rest)
  by_byte true unfinished dot hyphen is_plain_is dot_is hyphen_is so_far goes =
      byte_walked depth n label b rest (label_byte b is_plain_is)
      (later depth n false (label ++ b ∷ []) (begun_plain unfinished label b so_far is_plain_is) (omega (arith, length-append label (b ∷ []))) goes)
  by_byte false true dot hyphen is_plain_is dot_is hyphen_is so_far goes = absurd (cc)
  by_byte false false true hyphen is_plain_is dot_is hyphen_is so_far goes =
      dot_walked depth n label b rest so_far.bytes (finished_label label so_far (omega arith)) ((Decides-eqb b 46).0 dot_is)
      (later (depth + 1) n true [] begun (omega arith) goes)
  by_byte false false false true is_plain_is dot_is hyphen_is so_far goes =
      let is : b ≡ 45 = (Decides-eqb b 45).0 hyphen_is in
      byte_walked depth n label b rest (ap is_label_byte is)
      (later depth n true (label ++ b ∷ []) (begun_hyphen label b so_far is) (omega (arith, length-append label (b ∷ []))) goes)
  by_byte false false false false is_plain_is dot_is hyphen_is so_far goes = absurd (cc)

walk : (rest : Text) → Walks rest
walk [] = walk_end
walk (b ∷ rest) = λ depth n unfinished label so_far short goes.
    by_byte b rest (walk rest) depth n label short (is_plain b) unfinished (nat_eq b 46) (nat_eq b 45) refl refl refl so_far goes

-- a walk over the whole text that ends with few labels
pub walked : (text : Text) (n : ℕ) → length text ≤ 63 → n ≤ 8 → labels_from 1 true text ≡ Some n → IsPlain text n
walked text n short few goes =
    let all = walk text 1 n true [] begun (omega arith) goes in
    let no_fault : NoFault (split_at_dots text) = all.no_fault in
    let counted : suc n ≡ 1 + length (split_at_dots text) = all.counted in
    record {
      lowercase = all.lowercase;
      passed = ap (λ f. option_or f (count_fault (split_at_dots text))) no_fault ∙ no_count_fault (split_at_dots text) (omega arith);
      counted = omega arith;
    }

-- ---- the whole text

module _ (text labels : Text) (begins : text ≡ urn_prefix ++ labels) where
  -- it is in lower case
  pub plain_lowercase : (r : Option ℕ) → IfSome r (λ n. IsPlain labels n) → IfSome r (λ _. lowered text ≡ text)
  plain_lowercase None plain = tt
  plain_lowercase (Some n) plain = ap lowered begins ∙ ap (λ t. urn_prefix ++ t) plain.lowercase ∙ sym begins

  -- it spells a service with so many labels
  pub plain_read : (r : Option ℕ) → IfSome r (λ n. IsPlain labels n) → IfSome r (λ n. IsOkAnd (read_service text) (λ s. n ≡ length s))
  plain_read None plain = tt
  plain_read (Some n) plain =
      let fine : read_service text ≡ Ok (split_at_dots labels) =
      read_labels text labels (ap lowered begins)
      ∙ ap (λ t. service_or (labels_fault (split_at_dots t)) (split_at_dots t)) plain.lowercase
      ∙ ap (λ f. service_or f (split_at_dots labels)) plain.passed in
      rw fine plain.counted
