-- The positions that are compared stand at the two ends.
use Rattle.std.proofs.Common.{◌∙◌, ap, Bool}
use Rattle.lost_geo.specs.Laws.{is_just_one}
use Rattle.lost_geo.proofs.Spans.{spanned-ends}
use Rattle.lost_geo.proofs.Walk.{just_one-beq}
use Rattle.lost_geo.proofs.run.is_spanned_oddly.Goals as goal

pub returns : goal.returns
returns c =
    just_one-beq c.is_low.result c.is_low-2.result
    ∙ ap (λ (low : Bool). is_just_one low c.is_low-2.result) c.is_low.ensures
    ∙ ap (is_just_one _) c.is_low-2.ensures
    ∙ spanned-ends c.args.positions.now c.index-positions-0.result c.index-positions-positions.result c.args.place.now c.requires
    c.index-positions-0.is c.index-positions-positions.is
