-- What no candidate gives does not pass.
use Rattle.std.proofs.Common.{◌≤◌, length, get_or, sym, arith, ◌∙◌}
use Rattle.lost_tables.specs.Picks.{passing}
use Rattle.lost_tables.proofs.PickLemmas.{some_given, still_none, all_given, nothing_passes}
use Rattle.lost_tables.proofs.picks.any.Goals as goal

pub returns-then-is_some : goal.returns-then-is_some
returns-then-is_some g c = λ test is covers.
    sym (some_given test c.args.rows.now.numbers c.args.rows.now.mappings (get_or c.args.candidates.now c.loop-candidate.candidate-index 0)
    c.passing_position.result (c.passing_position.ensures test is) (sym c.is_some.ensures ∙ c.if-is_some.true))

pub loop-candidate-preserved : goal.loop-candidate-preserved
loop-candidate-preserved g c = λ test is.
    still_none (passing test c.args.rows.now.numbers c.args.rows.now.mappings) c.args.candidates.now c.loop-candidate.candidate-index
    c.passing_position.result c.loop-candidate-test.true (c.passing_position.ensures test is) (sym c.is_some.ensures ∙ c.if-is_some.false)
    (c.loop-candidate.invariant test is)

pub returns : goal.returns
returns g c = λ test is covers.
    let past : length c.args.candidates.now ≤ c.loop-candidate.candidate-index = omega arith in
    sym (nothing_passes test c.args.rows.now.numbers c.args.rows.now.mappings c.requires.rising c.are_paired.ensures c.args.candidates.now covers
    (sym (all_given (passing test c.args.rows.now.numbers c.args.rows.now.mappings) c.args.candidates.now c.loop-candidate.candidate-index past)
    ∙ c.loop-candidate.invariant test is))
