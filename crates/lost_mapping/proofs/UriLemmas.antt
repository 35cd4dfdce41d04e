-- What stands before the first colon of a text.
use Rattle.std.proofs.Common.{◌≡◌, ℕ, ◌≤◌, Bool, true, false, not, cond, nat_lt, ◌==◌, ltb-false, take, length, Some, None, position, refl, sym, ap}
use Rattle.std.specs.List.{prefix_len}
use Rattle.std.proofs.lemmas.List.{take_all}
use Rattle.lost_spec.specs.Text.{Text}
use Rattle.lost_spec.specs.Mapping.{scheme_of}

place_of_some : (found : Bool) (n place : ℕ) → cond found (Some n) None ≡ Some place → n ≡ place
place_of_some true n place e = cc
place_of_some false n place e = cc

test_of_none : (found : Bool) (n : ℕ) → cond found (Some n) None ≡ None → found ≡ false
test_of_none true n e = cc
test_of_none false n e = refl

-- the scheme of a text with a colon is what stands before the first one
pub scheme_of_found : (uri : Text) (place : ℕ) → Some place ≡ position (λ b. b == 58) uri → take place uri ≡ scheme_of uri
scheme_of_found uri place e =
    let n : ℕ = prefix_len (λ b. not (b == 58)) uri in
    ap (λ k. take k uri) (sym (place_of_some (nat_lt n (length uri)) n place (sym e)))

-- the scheme of a text with no colon is all of it
pub scheme_of_unfound : (uri : Text) → None ≡ position (λ b. b == 58) uri → uri ≡ scheme_of uri
scheme_of_unfound uri e =
    let n : ℕ = prefix_len (λ b. not (b == 58)) uri in
    let past : length uri ≤ n = ltb-false n (length uri) (test_of_none (nat_lt n (length uri)) n (sym e)) in
    sym (take_all n uri past)
