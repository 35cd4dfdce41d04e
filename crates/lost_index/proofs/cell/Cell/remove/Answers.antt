-- From the end of the notes of the number to their start; all others stay.
use Rattle.std.proofs.Common.{◌-◌, ◌+◌, ◌<◌, ◌≡◌, length, arith, sym, subst, ◌∙◌}
use Rattle.lost_index.specs.Notes.{stays}
use Rattle.lost_index.proofs.RemovalLemmas.{filtered_more, filtered_from, filtered_from_end, filtered_from_start, front_stays, back_stays}
use Rattle.lost_index.proofs.cell.Cell.remove.Goals as goal

pub loop-position-init : goal.loop-position-init
loop-position-init g c =
    filtered_from_end (stays g.P.Key.PartialEq.eq g.P.Outline.PartialEq.eq g.P.Profile.cover_of g.P.Profile.outline_of c.args.number c.args.remaining.now c.args.key.now)
    c.end_of-end.result c.args.self.now
    (back_stays g.P.Key.PartialEq.eq g.P.Outline.PartialEq.eq g.P.Profile.cover_of g.P.Profile.outline_of c.args.number c.args.remaining.now c.args.key.now
    c.end_of-end.result c.args.self.now c.end_of-end.ensures.point.1)

pub loop-position-preserved : goal.loop-position-preserved
loop-position-preserved g c =
    let test = stays g.P.Key.PartialEq.eq g.P.Outline.PartialEq.eq g.P.Profile.cover_of g.P.Profile.outline_of c.args.number c.args.remaining.now c.args.key.now in
    let place : c.loop-position.position - 1 + 1 ≡ c.loop-position.position = omega (arith, c.loop-position-test.true) in
    let within : c.loop-position.position - 1 < length c.args.self.now =
    omega (arith, c.loop-position-test.true, c.loop-position.auto.position, c.end_of-end.ensures.within) in
    filtered_more test c.args.self.now c.loop-position.self c.remove_at.new.self (c.loop-position.position - 1) within
    (subst (λ p. c.loop-position.self ≡ filtered_from test p c.args.self.now) (sym place) c.loop-position.invariant) c.remove_at.ensures

pub returns : goal.returns
returns g c =
    c.loop-position.invariant
    ∙ filtered_from_start (stays g.P.Key.PartialEq.eq g.P.Outline.PartialEq.eq g.P.Profile.cover_of g.P.Profile.outline_of c.args.number c.args.remaining.now c.args.key.now)
    c.loop-position.position c.args.self.now
    (front_stays g.P.Key.PartialEq.eq g.P.Outline.PartialEq.eq g.P.Profile.cover_of g.P.Profile.outline_of c.args.number c.args.remaining.now c.args.key.now
    c.start_of-start.result c.loop-position.position c.args.self.now c.start_of-start.ensures.0 c.loop-position-test.false)
