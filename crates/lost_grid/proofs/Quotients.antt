-- Rows and columns: how large they are, and what the code's shift and cast give.
use Rattle.std.proofs.Common.{◌≡◌, refl, ℕ, ◌*◌, ◌/◌, ◌^◌, ◌≤◌, ℤ, pos, negsuc, arith, rules, SFits, to_z, of_z, w16, w64}
use Rattle.std.specs.Int.Signed.{shr_z}
use Rattle.std.proofs.lemmas.Int.{ints, to_z-of_z}
use Rattle.std.proofs.lemmas.Nat.{shr-shr, shr_le}
use Rattle.lost_grid.specs.Lines.{side, line_of, IsOnEarth, IsLine}

-- a shift that copies the sign bit rounds down
pub shr_z-side : (level : ℕ) (z : ℤ) → shr_z z (side level) ≡ line_of level z
shr_z-side level (pos a) = refl
shr_z-side level (negsuc a) = refl

-- ---- how large they are

div-side_below : (a level : ℕ) → a ≤ 1_800_000_000 → a / side level ≤ 6866
div-side_below a level below =
    let smallest : a / 2 ^ 18 ≤ 6866 = omega arith in
    let larger : a / 2 ^ 18 / 2 ^ (2 * level) ≤ a / 2 ^ 18 = shr_le (a / 2 ^ 18) (2 * level) in
    omega (arith, shr-shr a 18 (2 * level))

pub IsLine-line_of : (level : ℕ) (z : ℤ) → IsOnEarth z → IsLine (line_of level z)
IsLine-line_of level (pos a) on_earth =
    let below : a / side level ≤ 6866 = div-side_below a level (omega (arith, ints)) in
    record { low = omega (arith, ints); high = omega (arith, ints) }
IsLine-line_of level (negsuc a) on_earth =
    let below : a / side level ≤ 6866 = div-side_below a level (omega (arith, ints)) in
    record { low = omega (arith, ints); high = omega (arith, ints) }

-- ---- the code's shift and cast

pub shifted : (level : ℕ) (z : ℤ) → SFits w64 z → IsOnEarth z → to_z w64 (of_z w64 (shr_z (to_z w64 (of_z w64 z)) (side level))) ≡ line_of level z
shifted level z fits on_earth =
    let line : IsLine (line_of level z) = IsLine-line_of level z on_earth in
    let wide : SFits w64 (line_of level z) = search (rules, ints) in
    simp to_z-of_z (rw (shr_z-side level z) (to_z-of_z w64 (line_of level z) wide))

pub IsLine_fits : (z : ℤ) → IsLine z → SFits w16 z
IsLine_fits z line = search (rules, ints)
