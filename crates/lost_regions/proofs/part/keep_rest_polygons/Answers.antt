use Rattle.std.proofs.Common.{◌+◌, ◌++◌, length, arith, ◌∙◌}
use Rattle.std.specs.List.{slice_range}
use Rattle.std.proofs.lemmas.List.{length-append}
use Rattle.lost_regions.proofs.UnderNumberLemmas.{is_held, has_regions, same_change, rest_part}
use Rattle.lost_regions.proofs.part.keep_rest_polygons.Goals as goal

pub cut-requires-clause-held : goal.cut-requires-clause-held
cut-requires-clause-held c = is_held c.args.number (c.args.first.now ++ c.args.rest.now) c.args.index.now c.requires.held

pub cut-requires-clause-within : goal.cut-requires-clause-within
cut-requires-clause-within c =
    has_regions c.args.number (length c.args.first.now + length c.args.rest.now) (c.args.first.now ++ c.args.rest.now)
    c.args.index.now c.requires.held (omega (arith, length-append c.args.first.now c.args.rest.now))

pub returns : goal.returns
returns c =
    let from = length c.args.first.now in
    let to = from + length c.args.rest.now in
    c.cut.ensures
    ∙ same_change c.args.number (λ held. slice_range held from to) (λ _. c.args.rest.now)
    (c.args.first.now ++ c.args.rest.now) c.args.index.now c.requires.held (rest_part c.args.first.now c.args.rest.now)
