use Rattle.std.proofs.Common.{arith}
use Rattle.lost_mapping.proofs.ShapeLemmas.{shape_of_front, too_short}
use Rattle.lost_mapping.proofs.stamp_text.has_shape.Goals as goal

pub returns-in-Some-clause-value : goal.returns-in-Some-clause-value
returns-in-Some-clause-value c = shape_of_front c.args.text.now c.in-Some.front.now _ c.in-Some.ensures.lookup.0.2 c.fits_shapes.ensures

pub returns-in-None-clause-value : goal.returns-in-None-clause-value
returns-in-None-clause-value c = too_short c.args.text.now (omega (arith, c.in-None.ensures.lookup.0))
