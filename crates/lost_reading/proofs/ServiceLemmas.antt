-- No text is refused as a service for want of memory.
use Rattle.std.proofs.Common.{◌≡◌, Bool, true, false, if◌then◌else◌, List, [], ◌∷◌, Option, Some, None, Result, Ok, Err, IsErr, subst, sym, refl, drop}
use Rattle.std.specs.Option.{option_or}
use Rattle.std.specs.Result.{result_ok}
use Rattle.lost_spec.specs.declared.faults.UrnError.{UrnError}
use Rattle.lost_spec.specs.declared.faults.UrnError.TheVariants.{Prefix, EmptyLabel, BadCharacter, HyphenAtEnd, LabelTooLong, TooManyLabels, Memory}
use Rattle.lost_spec.specs.Text.{Text, first_fault, first_fault_of, lowered}
use Rattle.lost_spec.specs.Service.{Service, label_fault, count_fault, labels_fault, service_or, split_at_dots, read_service}

-- a fault is another than want of memory
abbrev IsOther : UrnError → Type 0
IsOther Prefix = Unit {0}
IsOther EmptyLabel = Unit {0}
IsOther BadCharacter = Unit {0}
IsOther HyphenAtEnd = Unit {0}
IsOther LabelTooLong = Unit {0}
IsOther TooManyLabels = Unit {0}
IsOther Memory = ⊥

abbrev OtherIfAny : Option UrnError → Type 0
OtherIfAny None = Unit {0}
OtherIfAny (Some fault) = IsOther fault

abbrev OtherIfErr : Result Service UrnError → Type 0
OtherIfErr (Ok service) = Unit {0}
OtherIfErr (Err fault) = IsOther fault

of_label : (a b c d : Bool) → OtherIfAny (first_fault ((a, EmptyLabel) ∷ (b, BadCharacter) ∷ (c, HyphenAtEnd) ∷ (d, LabelTooLong) ∷ []))
of_label true b c d = tt
of_label false true c d = tt
of_label false false true d = tt
of_label false false false true = tt
of_label false false false false = tt

of_count : (many : Bool) → OtherIfAny (first_fault ((many, TooManyLabels) ∷ []))
of_count true = tt
of_count false = tt

of_either : (first second : Option UrnError) → OtherIfAny first → OtherIfAny second → OtherIfAny (option_or first second)
of_either None second f s = s
of_either (Some fault) second f s = f

of_each : (labels : List Text) → OtherIfAny (first_fault_of label_fault labels)
of_each [] = tt
of_each (label ∷ labels) = of_either (label_fault label) (first_fault_of label_fault labels) (of_label _ _ _ _) (of_each labels)

of_labels : (labels : List Text) → OtherIfAny (labels_fault labels)
of_labels labels = of_either (first_fault_of label_fault labels) (count_fault labels) (of_each labels) (of_count _)

of_fault : (fault : Option UrnError) (labels : List Text) → OtherIfAny fault → OtherIfErr (service_or fault labels)
of_fault None labels h = tt
of_fault (Some fault) labels h = h

of_prefix : (begins : Bool) (labels : List Text) → OtherIfErr (if begins then service_or (labels_fault labels) labels else Err Prefix)
of_prefix true labels = of_fault (labels_fault labels) labels (of_labels labels)
of_prefix false labels = tt

of_text : (text : Text) → OtherIfErr (read_service text)
unfolding read_service
of_text text = of_prefix _ (split_at_dots (drop 12 (lowered text)))

of_result : (r : Result Service UrnError) → OtherIfErr r → (IsErr r → Err Memory ≡ r) → result_ok r ≡ None → ⊥
of_result (Ok service) other is none = cc
of_result (Err fault) other is none = subst (λ s. OtherIfErr s) (sym (is refl)) other

-- where a text is no service, the refusal that a reader passes on is none for want of memory
pub refused_otherwise : (text bytes : Text) (fault : UrnError) → bytes ≡ text → fault ≡ Memory
    → (IsErr (read_service bytes) → Err fault ≡ read_service bytes) → result_ok (read_service text) ≡ None → ⊥
refused_otherwise text bytes fault same memory is none = of_result (read_service text) (of_text text) (rw (same, memory) at is) none
