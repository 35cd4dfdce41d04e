-- How one pass over a value writes its comparison text.
use Rattle.std.specs.Prelude.{Bool, cond, ◌&&◌, [], ◌∷◌}
use Rattle.lost_spec.specs.Text.{Text}

-- a space stands before a word that is not the first, where white space came before it
abbrev pub gap : Bool → Bool → Text
gap started white = cond (started && white) (32 ∷ []) []
