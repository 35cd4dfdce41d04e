-- Positions as pairs and as texts: what is the one is not the other.
use Rattle.std.proofs.Common.{◌≡◌, ℤ, Option, Some, None, option_and_then, refl, ap, ◌∙◌}
use Rattle.std.specs.Option.{option_or}
use Rattle.serde_json.specs.Data.{Data, null, boolean, number, string, array, object}
use Rattle.serde_json.specs.Find.{as_str}
use Rattle.lost_spec.specs.Text.{Text}
use Rattle.lost_spec.specs.Decimal.{decimal}
use Rattle.lost_reading.specs.Members.{pair_in, position_in}

or_none : {A : Type 0} (found : Option A) → option_or found None ≡ found
or_none None = refl
or_none (Some a) = refl

pub text-is_position : (d : Data) (text : Text) → as_str d ≡ Some text → position_in d ≡ decimal text
text-is_position null text is = absurd (cc)
text-is_position (boolean b) text is = absurd (cc)
text-is_position (number n) text is = absurd (cc)
text-is_position (string s) text is = ap (λ o. option_and_then decimal o) is
text-is_position (array ds) text is = absurd (cc)
text-is_position (object ms) text is = absurd (cc)

pub other-is_position : (d : Data) → as_str d ≡ None → position_in d ≡ pair_in d
other-is_position d is = ap (λ o. option_or (pair_in d) (option_and_then decimal o)) is ∙ or_none (pair_in d)

pub pair-is_position : (d : Data) (position : ℤ × ℤ) → pair_in d ≡ Some position → position_in d ≡ Some position
pair-is_position d position is = ap (λ o. option_or o (option_and_then decimal (as_str d))) is

pub ruleset positions = (text-is_position, other-is_position)
