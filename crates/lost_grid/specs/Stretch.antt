-- Rows or columns that follow one another (own).
use Rattle.std.specs.Prelude.{List, ℤ, pos, neg_ℤ, ◌≤ℤ◌}
use Rattle.lost_grid.specs.Lines.{up_to}
use Rattle.lost_grid.specs.declared.lines.Lines.{Lines}

-- the numbers of these rows or columns, rising
abbrev pub numbers : Lines → List ℤ
numbers lines = up_to lines.first lines.end

-- they are rows or columns of some level, and there is one
pub record IsStretch (lines : Lines) : Type 0 where
  pub low : neg_ℤ (pos 6867) ≤ℤ lines.first
  pub order : lines.first ≤ℤ lines.end
  pub high : lines.end ≤ℤ pos 6867
