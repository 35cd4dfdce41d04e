use Rattle.std.proofs.Common.{◌≡◌, take}
use Rattle.lost_book.proofs.traces.Traces.clone.Given as goal

abbrev pub invariant-loop-position : goal.invariant-loop-position
invariant-loop-position l = l.copy ≡ take l.position l.self
