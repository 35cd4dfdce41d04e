-- The first position that a candidate gives is the result.
use Rattle.std.proofs.Common.{◌≤◌, length, sym, arith, ◌∙◌}
use Rattle.lost_tables.specs.Picks.{passing}
use Rattle.lost_tables.proofs.PickLemmas.{still_none, given_here, given_nowhere}
use Rattle.lost_tables.proofs.picks.one.Goals as goal

pub returns-then-is_some : goal.returns-then-is_some
returns-then-is_some g c = λ test is.
    given_here (passing test c.args.rows.now.numbers c.args.rows.now.mappings) c.args.candidates.now c.loop-candidate.candidate-index
    c.passing_position-position.result c.loop-candidate-test.true (c.passing_position-position.ensures test is) (sym c.is_some.ensures ∙ c.if-is_some.true)
    (c.loop-candidate.invariant test is)

pub loop-candidate-preserved : goal.loop-candidate-preserved
loop-candidate-preserved g c = λ test is.
    still_none (passing test c.args.rows.now.numbers c.args.rows.now.mappings) c.args.candidates.now c.loop-candidate.candidate-index
    c.passing_position-position.result c.loop-candidate-test.true (c.passing_position-position.ensures test is) (sym c.is_some.ensures ∙ c.if-is_some.false)
    (c.loop-candidate.invariant test is)

pub returns : goal.returns
returns g c = λ test is.
    let past : length c.args.candidates.now ≤ c.loop-candidate.candidate-index = omega arith in
    given_nowhere (passing test c.args.rows.now.numbers c.args.rows.now.mappings) c.args.candidates.now c.loop-candidate.candidate-index past
    (c.loop-candidate.invariant test is)
