-- The positions that the candidates give, sorted and each once, are those of what passes.
use Rattle.std.proofs.Common.{◌≡◌, ◌≤◌, length, nat_eq, ap, subst, arith, ◌∙◌}
use Rattle.std.specs.List.{dedup}
use Rattle.std.specs.List.Sorted.{IsPermutation}
use Rattle.smallvec.proofs.SmallVecLemmas.{items-with_items}
use Rattle.lost_tables.specs.Picks.{passing}
use Rattle.lost_tables.proofs.PickLemmas.{more_given, none_more, all_given, given_are}
use Rattle.lost_tables.proofs.picks.select.Goals as goal
use Rattle.lost_tables.proofs.picks.select.Goals.{in-Some+in_ok-push, in_default}

pub loop-candidate-preserved : goal.loop-candidate-preserved
loop-candidate-preserved g c = λ test is.
    let give = passing test c.args.rows.now.numbers c.args.rows.now.mappings in
    let so_far = c.loop-candidate.invariant test is in
    elim c.match-passing_position.branch [
      | in-Some+in_ok-push w ↦ rw w.found-is (w.in_ok-push.ensures.ok ∙ more_given give c.args.candidates.now c.loop-candidate.candidate-index
          _ c.loop-candidate.found.items c.loop-candidate-test.true (w.in-Some.ensures test is) so_far)
      | in_default w ↦ rw w.found-is (none_more give c.args.candidates.now c.loop-candidate.candidate-index
          c.loop-candidate.found.items c.loop-candidate-test.true (w.in_default.ensures test is) so_far)
    ]

pub returns : goal.returns
returns g c = λ test is covers.
    let past : length c.args.candidates.now ≤ c.loop-candidate.candidate-index = omega arith in
    let moved : IsPermutation c.loop-candidate.found.items c.sort_unstable.new.self =
    subst (λ l. IsPermutation l c.sort_unstable.new.self) c.as_mut_slice.ensures.value c.sort_unstable.ensures.permutation in
    let as_many : length c.sort_unstable.new.self ≡ length c.loop-candidate.found.items =
    c.sort_unstable.ensures.len ∙ ap length c.as_mut_slice.ensures.value in
    given_are test c.args.rows.now.numbers c.args.rows.now.mappings c.requires.rising c.are_paired.ensures c.args.candidates.now covers
    c.loop-candidate.found.items c.sort_unstable.new.self c.dedup.new.self.items
    (c.loop-candidate.invariant test is
    ∙ all_given (passing test c.args.rows.now.numbers c.args.rows.now.mappings) c.args.candidates.now c.loop-candidate.candidate-index past)
    moved c.sort_unstable.ensures.sorted
    (c.dedup.ensures.items ∙ ap (dedup nat_eq) (items-with_items c.loop-candidate.found c.sort_unstable.new.self as_many))
