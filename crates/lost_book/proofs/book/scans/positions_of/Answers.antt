use Rattle.std.proofs.Common.{refl, sym, ◌∙◌, arith}
use Rattle.std.proofs.lemmas.Fn.{says_at}
use Rattle.lost_book.proofs.PositionLemmas.{positions_more_passes, positions_more_fails, positions_all}
use Rattle.lost_book.proofs.book.scans.positions_of.Goals as goal
use Rattle.lost_book.proofs.book.scans.positions_of.Goals.{then-passes+in_ok-push, else-passes}

pub loop-position-preserved : goal.loop-position-preserved
loop-position-preserved g c = λ test is.
    let tested = is _ _ (says_at g.F.Fn c.passes.ensures refl) in
    elim c.if-passes.branch [
      | then-passes+in_ok-push w ↦ rw w.found-is (w.in_ok-push.ensures.items ∙ positions_more_passes test c.args.mappings.now c.loop-position.found.items c.loop-position.position _ (omega arith) c.index-mappings-position.is (c.loop-position.invariant test is) (sym tested ∙ w.if-passes.true))
      | else-passes w ↦ rw w.found-is (positions_more_fails test c.args.mappings.now c.loop-position.found.items c.loop-position.position _ (omega arith) c.index-mappings-position.is (c.loop-position.invariant test is) (sym tested ∙ w.if-passes.false))
    ]

pub returns : goal.returns
returns g c = λ test is. positions_all test c.args.mappings.now c.loop-position.found.items c.loop-position.position (omega arith) (c.loop-position.invariant test is)
