-- The address of pairs, from the answer to a copy of them.
use Rattle.std.specs.Prelude.{◌≡◌, if◌then◌else◌, Some, None, is_none}
use Rattle.std.proofs.Common.{sym, ap, ◌∙◌}
use Rattle.lost_spec.specs.declared.faults.CivicError.{CivicError}
use Rattle.lost_spec.specs.Place.{AtAddress, address_place}
use Rattle.lost_spec.specs.Civic.{Pairs, address_fault}

-- pairs whose copy is an address are at that address
pub address_placed : (pairs copy address : Pairs) → copy ≡ pairs → address ≡ copy → address_fault copy ≡ None → Some (AtAddress address) ≡ address_place pairs
address_placed pairs copy address same whole lawful =
    let none : address_fault pairs ≡ None = ap address_fault (sym same) ∙ lawful in
    ap (λ a. Some (AtAddress a)) (whole ∙ same) ∙ sym (ap (λ fault. if is_none fault then Some (AtAddress pairs) else None) none)

-- pairs whose copy is refused are at none
pub address_unplaced : (pairs copy : Pairs) (fault : CivicError) → copy ≡ pairs → address_fault copy ≡ Some fault → None ≡ address_place pairs
address_unplaced pairs copy fault same refused =
    let some : address_fault pairs ≡ Some fault = ap address_fault (sym same) ∙ refused in
    sym (ap (λ f. if is_none f then Some (AtAddress pairs) else None) some)
