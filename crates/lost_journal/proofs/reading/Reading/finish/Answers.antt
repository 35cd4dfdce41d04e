use Rattle.std.proofs.Common.{◌≡◌, ℕ, ◌-◌, [], take, sym, ◌∙◌, ap, arith}
use Rattle.lost_journal.specs.Seen.{behind_of}
use Rattle.lost_journal.proofs.reading.Reading.finish.Goals as goal

pub returns-clause-nothing_pending : goal.returns-clause-nothing_pending
returns-clause-nothing_pending g c =
    let new = c.flush.new.self in
    let first = c.settled-journal.ensures.places in
    let end = c.flush.ensures.places.end ∙ c.cut.ensures.places.end in
    let kept = c.flush.ensures.places.kept ∙ c.cut.ensures.places.kept in
    let none : new.end - new.kept ≡ 0 = omega (arith, end, kept, first.0, first.1) in
    ap (λ (n : ℕ). take n (behind_of new)) none
