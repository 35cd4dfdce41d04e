-- The least position that a candidate gives is the first that passes.
use Rattle.std.proofs.Common.{◌≤◌, length, subst, arith}
use Rattle.lost_tables.specs.Picks.{passing}
use Rattle.lost_tables.proofs.PickLemmas.{IsLeast, least_more, all_given, least_is_first}
use Rattle.lost_tables.proofs.picks.first.Goals as goal

pub loop-candidate-preserved : goal.loop-candidate-preserved
loop-candidate-preserved g c = λ test is.
    least_more (passing test c.args.rows.now.numbers c.args.rows.now.mappings) c.args.candidates.now c.loop-candidate.candidate-index
    c.loop-candidate.least c.passing_position.result c.lesser-least.result c.loop-candidate-test.true (c.passing_position.ensures test is)
    c.lesser-least.ensures (c.loop-candidate.invariant test is)

pub returns : goal.returns
returns g c = λ test is covers.
    let past : length c.args.candidates.now ≤ c.loop-candidate.candidate-index = omega arith in
    least_is_first test c.args.rows.now.numbers c.args.rows.now.mappings c.requires.rising c.are_paired.ensures c.args.candidates.now covers c.loop-candidate.least
    (subst (IsLeast c.loop-candidate.least)
    (all_given (passing test c.args.rows.now.numbers c.args.rows.now.mappings) c.args.candidates.now c.loop-candidate.candidate-index past)
    (c.loop-candidate.invariant test is))
