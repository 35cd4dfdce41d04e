use Rattle.std.specs.Prelude.{◌≡◌, All}
use Rattle.lost_spec.specs.Laws.{BeginsWith}
use Rattle.lost_server.proofs.workers.cached_readers.Given as goal

-- the readers stay of one kind, the desk stays, and each reader so far was told what it has published
abbrev pub invariant-loop-number : goal.invariant-loop-number
invariant-loop-number g l =
    (l.readers.each ≡ l.initial.readers.each) × (l.desk ≡ l.initial.desk)
    × All (λ reader. BeginsWith reader.seen l.initial.desk.published) l.cached.items
