-- Each look adds the position of a mapping that passes, and no other.
use Rattle.std.proofs.Common.{◌<◌, length, refl, sym, ◌∙◌, arith}
use Rattle.std.proofs.lemmas.Fn.{says_at}
use Rattle.lost_book.proofs.PositionLemmas.{positions_more_passes, positions_more_fails, positions_all}
use Rattle.lost_routing.proofs.scan.scan.Goals as goal
use Rattle.lost_routing.proofs.scan.scan.Goals.{then-passes+in_ok-push, else-passes}

pub loop-position-preserved : goal.loop-position-preserved
loop-position-preserved g c = λ test is.
    let tested = is _ _ (says_at g.F.Fn c.passes.ensures refl) in
    let so_far = c.loop-position.invariant test is in
    let within : c.loop-position.position < length c.args.rows.now.mappings = omega arith in
    elim c.if-passes.branch [
      | then-passes+in_ok-push w ↦ rw w.found-is (w.in_ok-push.ensures.ok ∙ positions_more_passes test c.args.rows.now.mappings c.loop-position.found.items c.loop-position.position _ within c.at.ensures so_far (sym tested ∙ w.if-passes.true))
      | else-passes w ↦ rw w.found-is (positions_more_fails test c.args.rows.now.mappings c.loop-position.found.items c.loop-position.position _ within c.at.ensures so_far (sym tested ∙ w.if-passes.false))
    ]

pub returns : goal.returns
returns g c = λ test is. positions_all test c.args.rows.now.mappings c.loop-position.found.items c.loop-position.position (omega arith) (c.loop-position.invariant test is)
