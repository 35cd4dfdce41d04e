-- When a desk's turn is over. (Own.)
use Rattle.std.specs.Prelude.{Bool, false, Option, None, Some, if◌then◌else◌, not}
use Rattle.std.specs.Bool.{nat_le}
use Rattle.std.specs.Duration.{as_nanos}
use Rattle.std.specs.declared.time.Duration.{Duration}
use Rattle.lost_desks.specs.declared.turn_end.TurnEnd.TheVariants.{Silent, NoLine, NoLineAndWaited, NotTaken, NotTakenAndWaited}
use Rattle.lost_desks.specs.declared.turn_end.TurnState.{TurnState}
use Rattle.lost_desks.specs.declared.turn_end.TurnState.TheVariants.{GoesOn, IsOver, IsOverIfWaited}

-- so long a wait is not allowed
abbrev pub is_too_long : Option Duration → Duration → Bool
is_too_long None waited = false
is_too_long (Some limit) waited = nat_le (as_nanos limit) (as_nanos waited)

-- a turn after a wait for bytes: it may be silent for only so long; where it has a length, one without a whole line for that long is over if it never had one, and gives way to a desk that waits if it had
abbrev pub input_state_of : Option Duration → Option Duration → Duration → Duration → Bool → TurnState
input_state_of idle length silent without_line has_line =
    if is_too_long idle silent then IsOver Silent
    else if not (is_too_long length without_line) then GoesOn
    else if has_line then IsOverIfWaited NoLineAndWaited
    else IsOver NoLine

-- a turn after a wait for its replies to be taken
abbrev pub output_state_of : Option Duration → Option Duration → Duration → TurnState
output_state_of idle length waited =
    if is_too_long idle waited then IsOver NotTaken
    else if is_too_long length waited then IsOverIfWaited NotTakenAndWaited
    else GoesOn
