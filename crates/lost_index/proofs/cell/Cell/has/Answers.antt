-- Those of lesser and of greater numbers are none, and those between were looked at.
use Rattle.std.proofs.Common.{◌≡◌, ◌<◌, true, false, length, sym, arith, ◌∙◌}
use Rattle.std.proofs.lemmas.List.Elements.{AllWithin-more}
use Rattle.std.proofs.lemmas.List.Folds.{list_any_at}
use Rattle.lost_index.specs.Notes.{is_note}
use Rattle.lost_index.proofs.DistinctLemmas.{tested_at, none_between}
use Rattle.lost_index.proofs.cell.Cell.has.Goals as goal

pub loop-position-preserved : goal.loop-position-preserved
loop-position-preserved g c =
    let test = is_note g.P.Outline.PartialEq.eq c.args.note.now.number c.args.note.now.outline in
    let at = c.loop-position.position in
    AllWithin-more (λ here. test here ≡ false) c.args.self.now c.start_of-start.result at c.loop-position.invariant
    (λ d. tested_at test c.args.self.now at d false (omega (arith, c.loop-position-test.true, c.end_of-end.ensures.within)) (sym c.if-has_at.false ∙ c.has_at.ensures))

pub returns-then-has_at : goal.returns-then-has_at
returns-then-has_at g c =
    let test = is_note g.P.Outline.PartialEq.eq c.args.note.now.number c.args.note.now.outline in
    let at = c.loop-position.position in
    let within : at < length c.args.self.now = omega (arith, c.loop-position-test.true, c.end_of-end.ensures.within) in
    sym (list_any_at test c.args.self.now at c.args.note.now within (tested_at test c.args.self.now at c.args.note.now true within (sym c.if-has_at.true ∙ c.has_at.ensures)))

pub returns : goal.returns
returns g c =
    sym (none_between g.P.Outline.PartialEq.eq c.args.note.now.number c.args.note.now.outline c.args.self.now c.start_of-start.result c.end_of-end.result c.loop-position.position
    c.start_of-start.ensures.0 c.loop-position.invariant c.loop-position-test.false c.end_of-end.ensures.point.1)
