-- Where the first labels of a text end, and what is left of a service that is cut there.
use Rattle.std.proofs.Common.{◌≡◌, ℕ, ◌+◌, ◌<◌, ◌≤◌, suc, true, nat_eq, None, List, ◌∷◌, ◌++◌, take, drop, length, get_or, sym, ap, ◌∙◌, arith}
use Rattle.std.specs.List.{count_by, join_with_byte}
use Rattle.std.proofs.lemmas.List.Splits.{length-slice_split, join_with_byte-slice_split}
use Rattle.std.specs.Option.{option_or}
use Rattle.std.specs.Str.{IsCharBoundary}
use Rattle.std.proofs.lemmas.Str.{IsCharBoundary-from_ascii}
use Rattle.std.proofs.lemmas.List.{take-append-drop, take_all, length-take-le}
use Rattle.std.proofs.Math.Seq.{drop-cons, take-append_seam, take-append-add, take-length}
use Rattle.std.proofs.lemmas.Bool.Decides.{nat_tests}
use Rattle.lost_spec.specs.Text.{Text, first_fault_of}
use Rattle.lost_spec.specs.Service.{Service, split_at_dots, is_service, service_text, label_fault, count_fault, urn_prefix}
use Rattle.lost_urn.proofs.DotLemmas.{split-at_dot}
use Rattle.lost_urn.proofs.FaultLemmas.{both_none, no_fault-take}
use Rattle.lost_urn.proofs.ReadLemmas.{no_fault, split-service, well_formed_labels, ascii-service_text}

-- how many dots a text has
abbrev pub dots : Text → ℕ
dots text = count_by (λ b. nat_eq b 46) text

length-parts : (text : Text) → length (split_at_dots text) ≡ dots text + 1
length-parts text = length-slice_split (λ b. nat_eq b 46) text

-- the first n parts, joined, where the nth ends at a dot
pub joined_at_dot : (text : Text) (at n : ℕ) → at < length text → get_or text at 0 ≡ 46 → dots (take at text) + 1 ≡ n → take at text ≡ join_with_byte 46 (take n (split_at_dots text))
joined_at_dot text at n within dot counted =
    let front = take at text in
    let back = drop (suc at) text in
    let whole : text ≡ front ++ 46 ∷ back = sym (take-append-drop at text) ∙ ap (λ w. front ++ w) (drop-cons text at 0 within ∙ ap (λ b. b ∷ back) dot) in
    let parts : split_at_dots text ≡ split_at_dots front ++ split_at_dots back = ap split_at_dots whole ∙ split-at_dot front back in
    let first : take n (split_at_dots text) ≡ split_at_dots front =
    ap (take n) parts ∙ ap (λ k. take k (split_at_dots front ++ split_at_dots back)) (sym counted ∙ sym (length-parts front)) ∙ take-append_seam (split_at_dots front) (split_at_dots back) in
    sym (ap (join_with_byte 46) first ∙ join_with_byte-slice_split 46 front)

-- the first n parts are all of them
pub joined_at_end : (text : Text) (n : ℕ) → dots text < n → take (length text) text ≡ join_with_byte 46 (take n (split_at_dots text))
joined_at_end text n few =
    take-length text
    ∙ sym (ap (join_with_byte 46) (take_all n (split_at_dots text) (omega (arith, length-parts text))) ∙ join_with_byte-slice_split 46 text)

-- ---- a service that is cut

few_labels : (labels : List Text) → count_fault labels ≡ None → length labels ≤ 8
few_labels labels h = grind (arith, nat_tests)

pub no_count_fault : (labels : List Text) → length labels ≤ 8 → count_fault labels ≡ None
no_count_fault labels h = grind (arith, nat_tests)

-- the first labels of a service are a service
pub cut_service : (s : Service) (n : ℕ) → is_service s ≡ true → 1 ≤ n → n ≤ length s → is_service (take n s) ≡ true
cut_service s n h some within =
    let fine = both_none (first_fault_of label_fault s) (count_fault s) (no_fault s h) in
    let counted : length (take n s) ≡ n = length-take-le n s within in
    let few : length s ≤ 8 = few_labels s fine.1 in
    well_formed_labels (take n s) (omega arith) (ap (λ f. option_or f (count_fault (take n s))) (no_fault-take label_fault s n fine.0) ∙ no_count_fault (take n s) (omega arith))

-- a service's text may be cut anywhere
pub cut_boundary : (text : Text) (s : Service) (end : ℕ) → is_service s ≡ true → text ≡ service_text s → end ≤ length text → IsCharBoundary text end
cut_boundary text s end h is within = IsCharBoundary-from_ascii text end (rw is (ascii-service_text s h)) within

-- a service's text that is cut where its first n labels end behind the prefix is the text of those labels
pub cut_written : (s : Service) (n end : ℕ) (text labels : Text) → is_service s ≡ true → text ≡ service_text s → labels ≡ drop 12 text → take end labels ≡ join_with_byte 46 (take n (split_at_dots labels))
    → take (12 + end) text ≡ service_text (take n s)
cut_written s n end text labels h is behind ends =
    let joined : labels ≡ join_with_byte 46 s = behind ∙ ap (drop 12) is in
    ap (take (12 + end)) is
    ∙ take-append-add urn_prefix (join_with_byte 46 s) end
    ∙ ap (λ t. urn_prefix ++ take end t) (sym joined)
    ∙ ap (λ t. urn_prefix ++ t) ends
    ∙ ap (λ t. urn_prefix ++ join_with_byte 46 (take n (split_at_dots t))) joined
    ∙ ap (λ t. urn_prefix ++ join_with_byte 46 (take n t)) (split-service s h)
