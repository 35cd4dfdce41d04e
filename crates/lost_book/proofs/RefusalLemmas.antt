-- A replacement that is refused leaves the book as it was, and no refusal is want of memory.
use Rattle.std.specs.Prelude.{◌≡◌, ◌≢◌, Bool, true, false, not, [], ◌∷◌, Some, Err, Result}
use Rattle.std.proofs.Common.{refl, sym}
use Rattle.lost_spec.specs.declared.faults.EditError.{EditError}
use Rattle.lost_spec.specs.declared.faults.EditError.TheVariants.{IdentityUnknown, NotNewer, KeyHeld, KeyUnchanged, EditsSpent, Memory}
use Rattle.lost_spec.specs.Text.{first_fault}
use Rattle.lost_spec.specs.Mapping.{Mapping}
use Rattle.lost_spec.specs.Book.{Book, Replace, identity_of, held, is_held, is_spent, is_not_newer, is_key_held, is_key_unchanged, replace_refusal}
use Rattle.lost_book.specs.Applied.{IsApplied}

-- none of the checks of a replacement is about memory
not_memory : (spent unknown older key unchanged : Bool) (e : EditError)
    → Some e ≡ first_fault ((spent, EditsSpent) ∷ (unknown, IdentityUnknown) ∷ (older, NotNewer) ∷ (key, KeyHeld) ∷ (unchanged, KeyUnchanged) ∷ [])
    → e ≢ Memory
not_memory true unknown older key unchanged e is same = cc
not_memory false true older key unchanged e is same = cc
not_memory false false true key unchanged e is same = cc
not_memory false false false true unchanged e is same = cc
not_memory false false false false true e is same = cc
not_memory false false false false false e is same = cc

-- what a refused replacement answers, with the book as it was
pub refused_replacement : (b : Book) (m : Mapping) (r : Result (Unit {0}) EditError) (e : EditError) → r ≡ Err e → Some e ≡ replace_refusal b m → IsApplied b (Replace m) r b
refused_replacement b m r e is refused =
    let other : e ≢ Memory = not_memory (is_spent b) (not (is_held b (identity_of m))) (is_not_newer (held b (identity_of m)) m.stamp) (is_key_held b (identity_of m) m.key) (is_key_unchanged (held b (identity_of m)) m) e refused in
    rw is (record {
      accepted = tt;
      changed = tt;
      refused = λ named. sym refused;
      memory_last = λ memory. absurd (other (cc memory));
      memory_of_others = λ memory. absurd (other (cc memory));
      unchanged = refl;
    })
