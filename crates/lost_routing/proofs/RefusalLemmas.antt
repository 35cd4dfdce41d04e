-- No refusal of an edit is want of memory.
use Rattle.std.proofs.Common.{◌≡◌, Bool, true, false, not, [], ◌∷◌, None, Some, Err, Result, sym, ap, ◌∙◌}
use Rattle.std.specs.Result.{result_err}
use Rattle.lost_spec.specs.declared.faults.EditError.{EditError}
use Rattle.lost_spec.specs.declared.faults.EditError.TheVariants.{IdentityHeld, IdentityUnknown, NotNewer, KeyHeld, Full, KeyUnchanged, EditsSpent, Withdrawn, TracesFull, Memory}
use Rattle.lost_spec.specs.Text.{first_fault}
use Rattle.lost_spec.specs.Book.{Book, Edit, Publish, Replace, Withdraw, identity_of, held, is_held, is_spent, is_full, is_not_after, is_not_newer, is_key_held, is_key_unchanged, has_most_traces, withdrawn, refusal}

of_no_publish : (spent there after full key : Bool)
    → first_fault ((spent, EditsSpent) ∷ (there, IdentityHeld) ∷ (after, Withdrawn) ∷ (full, Full) ∷ (key, KeyHeld) ∷ []) ≡ Some Memory → ⊥
of_no_publish true there after full key is = cc
of_no_publish false true after full key is = cc
of_no_publish false false true full key is = cc
of_no_publish false false false true key is = cc
of_no_publish false false false false true is = cc
of_no_publish false false false false false is = cc

of_no_replacement : (spent unknown older key unchanged : Bool)
    → first_fault ((spent, EditsSpent) ∷ (unknown, IdentityUnknown) ∷ (older, NotNewer) ∷ (key, KeyHeld) ∷ (unchanged, KeyUnchanged) ∷ []) ≡ Some Memory → ⊥
of_no_replacement true unknown older key unchanged is = cc
of_no_replacement false true older key unchanged is = cc
of_no_replacement false false true key unchanged is = cc
of_no_replacement false false false true unchanged is = cc
of_no_replacement false false false false true is = cc
of_no_replacement false false false false false is = cc

of_no_withdrawal : (spent unknown older most : Bool)
    → first_fault ((spent, EditsSpent) ∷ (unknown, IdentityUnknown) ∷ (older, NotNewer) ∷ (most, TracesFull) ∷ []) ≡ Some Memory → ⊥
of_no_withdrawal true unknown older most is = cc
of_no_withdrawal false true older most is = cc
of_no_withdrawal false false true most is = cc
of_no_withdrawal false false false true is = cc
of_no_withdrawal false false false false is = cc

not_memory : (b : Book) (e : Edit) → refusal b e ≡ Some Memory → ⊥
not_memory b (Publish m) is =
    of_no_publish (is_spent b) (is_held b (identity_of m)) (is_not_after (withdrawn b (identity_of m)) m.stamp) (is_full b) (is_key_held b (identity_of m) m.key) is
not_memory b (Replace m) is =
    of_no_replacement (is_spent b) (not (is_held b (identity_of m))) (is_not_newer (held b (identity_of m)) m.stamp) (is_key_held b (identity_of m) m.key)
    (is_key_unchanged (held b (identity_of m)) m) is
not_memory b (Withdraw id stamp) is =
    of_no_withdrawal (is_spent b) (not (is_held b id)) (is_not_newer (held b id) stamp) (has_most_traces b) is

-- what a check answers is its refusal, so it is never want of memory
pub memory_after_none : (b : Book) (e : Edit) (checked : Result (Unit {0}) EditError) → result_err checked ≡ refusal b e → checked ≡ Err Memory → refusal b e ≡ None
memory_after_none b e checked is memory = absurd (not_memory b e (sym is ∙ ap result_err memory))
