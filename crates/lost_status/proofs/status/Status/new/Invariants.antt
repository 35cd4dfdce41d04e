use Rattle.std.proofs.Common.{◌≡◌, vec_len}
use Rattle.lost_status.proofs.status.Status.new.Given as goal

-- so many blocks were made
abbrev pub invariant-loop-number : goal.invariant-loop-number
invariant-loop-number l = vec_len l.blocks ≡ l._number
