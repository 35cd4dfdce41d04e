-- Rows and columns rise with what they are of.
use Rattle.std.proofs.Common.{ℕ, ◌*◌, ◌/◌, ◌+◌, ◌<◌, ◌≤◌, ℤ, pos, negsuc, ◌≤ℤ◌, arith}
use Rattle.std.proofs.Math.Nat.{div-mul-le_self}
use Rattle.std.proofs.lemmas.Int.{ints}
use Rattle.std.proofs.lemmas.Nat.{le-div, pow_pos}
use Rattle.lost_grid.specs.Lines.{side, line_of}

div_rises : (a b m : ℕ) → 0 < m → a ≤ b → a / m ≤ b / m
div_rises a b m positive below = le-div (a / m) b m positive (omega (arith, div-mul-le_self a m))

pub line_of_rises : (level : ℕ) (y z : ℤ) → y ≤ℤ z → line_of level y ≤ℤ line_of level z
line_of_rises level (pos a) (pos b) below =
    let quotients : a / side level ≤ b / side level = div_rises a b (side level) (pow_pos (18 + 2 * level)) (omega (arith, ints)) in
    omega (arith, ints)
line_of_rises level (pos a) (negsuc b) below = absurd (omega (arith, ints))
line_of_rises level (negsuc a) (pos b) below = omega (arith, ints)
line_of_rises level (negsuc a) (negsuc b) below =
    let quotients : b / side level ≤ a / side level = div_rises b a (side level) (pow_pos (18 + 2 * level)) (omega (arith, ints)) in
    omega (arith, ints)
