-- The faults of a text in any case, found label by label before it is lowered.
use Rattle.std.proofs.Common.{◌≡◌, ℕ, ◌<◌, ◌≤◌, Option, None, Some, List, [], ◌∷◌, map, take, length, get_or, refl, ap, ◌∙◌, arith}
use Rattle.std.proofs.lemmas.List.{length-map}
use Rattle.std.proofs.lemmas.Bool.Decides.{nat_tests}
use Rattle.std.specs.Option.{option_or}
use Rattle.lost_spec.specs.declared.faults.UrnError.{UrnError}
use Rattle.lost_spec.specs.declared.faults.UrnError.TheVariants.{TooManyLabels}
use Rattle.lost_spec.specs.Text.{Text, lowered, first_fault_of}
use Rattle.lost_spec.specs.Service.{label_fault, labels_fault, split_at_dots}
use Rattle.lost_urn.proofs.DotLemmas.{split-lowered}
use Rattle.lost_urn.proofs.FaultLemmas.{first_fault_at}

-- the first fault of labels in any case
abbrev pub raw_fault : List Text → Option UrnError
raw_fault labels = first_fault_of (λ label. label_fault (lowered label)) labels

raw_fault-lowered : (labels : List Text) → first_fault_of label_fault (map lowered labels) ≡ raw_fault labels
raw_fault-lowered [] = refl
raw_fault-lowered (label ∷ rest) = ap (option_or (label_fault (lowered label))) (raw_fault-lowered rest)

lowered_parts : (text : Text) → first_fault_of label_fault (split_at_dots (lowered text)) ≡ raw_fault (split_at_dots text)
lowered_parts text = ap (first_fault_of label_fault) (split-lowered text) ∙ raw_fault-lowered (split_at_dots text)

pub length-parts : (text : Text) → length (split_at_dots (lowered text)) ≡ length (split_at_dots text)
length-parts text = ap length (split-lowered text) ∙ length-map (split_at_dots text) lowered

-- a label has a fault, and those before it have none
pub label_refused : (text label : Text) (k : ℕ) (e : UrnError) → k < length (split_at_dots text) → label ≡ get_or (split_at_dots text) k label → raw_fault (take k (split_at_dots text)) ≡ None
    → label_fault (lowered label) ≡ Some e → labels_fault (split_at_dots (lowered text)) ≡ Some e
label_refused text label k e within is before here =
    let first = lowered_parts text ∙ first_fault_at (λ l. label_fault (lowered l)) (split_at_dots text) k label e within is before here in
    rw first

-- no label has a fault, and there are too many
pub count_refused : (text : Text) (n : ℕ) → raw_fault (split_at_dots text) ≡ None → n ≡ length (split_at_dots text) → 8 < n → labels_fault (split_at_dots (lowered text)) ≡ Some TooManyLabels
count_refused text n none is many =
    rw (lowered_parts text, none, length-parts text, ← is) (grind (arith, nat_tests))

-- no label has a fault, and there are not too many
pub not_refused : (text : Text) (n : ℕ) → raw_fault (split_at_dots text) ≡ None → n ≡ length (split_at_dots text) → n ≤ 8 → labels_fault (split_at_dots (lowered text)) ≡ None
not_refused text n none is few =
    rw (lowered_parts text, none, length-parts text, ← is) (grind (arith, nat_tests))
