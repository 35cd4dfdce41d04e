use Rattle.std.proofs.Common.{◌≡◌, ◌+◌, ◌*◌, ◌^◌, ◌≤◌, take}
use Rattle.lost_spec.specs.Moment.{digits_value}
use Rattle.lost_spec.proofs.digits.digits_value.Given as goal

abbrev pub invariant-loop-digit : goal.invariant-loop-digit
invariant-loop-digit l = record {
  value : l.value ≡ digits_value (take l.digit-index l.digits);
  small : l.value + 23 ≤ 23 * 10 ^ l.digit-index;
}
