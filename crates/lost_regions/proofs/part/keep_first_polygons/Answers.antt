use Rattle.std.proofs.Common.{◌++◌, length, arith, ◌∙◌}
use Rattle.std.specs.List.{slice_range}
use Rattle.std.proofs.lemmas.List.{length-append}
use Rattle.lost_regions.proofs.UnderNumberLemmas.{is_held, has_regions, same_change, first_part}
use Rattle.lost_regions.proofs.part.keep_first_polygons.Goals as goal

pub cut-requires-clause-held : goal.cut-requires-clause-held
cut-requires-clause-held c = is_held c.args.number (c.args.first.now ++ c.args.rest.now) c.args.index.now c.requires

pub cut-requires-clause-within : goal.cut-requires-clause-within
cut-requires-clause-within c =
    has_regions c.args.number (length c.args.first.now) (c.args.first.now ++ c.args.rest.now) c.args.index.now c.requires
    (omega (arith, length-append c.args.first.now c.args.rest.now))

pub returns : goal.returns
returns c =
    c.cut.ensures
    ∙ same_change c.args.number (λ held. slice_range held 0 (length c.args.first.now)) (λ _. c.args.first.now)
    (c.args.first.now ++ c.args.rest.now) c.args.index.now c.requires (first_part c.args.first.now c.args.rest.now)
