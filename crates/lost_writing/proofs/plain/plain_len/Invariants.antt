use Rattle.std.proofs.Common.{◌-◌, ◌≤◌, length}
use Rattle.json.specs.Written.{PlainBetween}
use Rattle.lost_writing.proofs.plain.plain_len.Given as goal

abbrev pub invariant-loop-at : goal.invariant-loop-at
invariant-loop-at l = record { within : l.at ≤ length l.text; plain : PlainBetween l.text 0 l.at }

abbrev pub decreases-loop-at : goal.decreases-loop-at
decreases-loop-at l = length l.text - l.at
