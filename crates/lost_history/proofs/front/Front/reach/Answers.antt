use Rattle.std.proofs.Common.{◌≡◌, length, sym, ◌∙◌, ap}
use Rattle.lost_spec.specs.Laws.{BeginsWith}
use Rattle.lost_history.proofs.Reaching.{reach_moves}
use Rattle.lost_history.proofs.front.Front.reach.Goals as goal

pub compare_exchange-found-requires : goal.compare_exchange-found-requires
compare_exchange-found-requires g c =
    let head = c.head.invariant in
    let offer = c.plain-offer.ensures in
    let pen = c.no_pen-pen.ensures in
    let log = ap (λ s. s.log) c.again-seen.ensures in
    let book : c.again-seen.result.book ≡ c.head.inside.word.book = ap (λ s. s.book) c.again-seen.ensures ∙ sym (rw (← c.head.view_is, ← c.self.view_is) at c.requires.opening) in
    let begins : BeginsWith g.A.Aim.list c.again-seen.result.log = rw log (rw (← c.self.view_is) at c.requires.begins) in
    let count : c.self.inside.count ≡ length c.again-seen.result.log = rw log c.self.invariant in (
      ap (λ w. w.tracked) head,
      book,
      pen.0 ∙ book,
      offer.0,
      rw (ap (λ w. w.key) head, pen.1, offer.3, count, c.requires.length) (reach_moves g.A.Aim.list c.again-seen.result.log begins),
    )
