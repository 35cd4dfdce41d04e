use Rattle.std.proofs.Common.{rules, ◌∙◌}
use Rattle.std.proofs.lemmas.Iterator.{YieldsList-from_slice, YieldsList-from_zip}
use Rattle.std.proofs.lemmas.Iterator.Search.{all_from_yields_List}
use borrow.Author.Tests.{tests}
use Rattle.lost_spec.specs.Moment.{fits_shape}
use Rattle.lost_mapping.proofs.ShapeLemmas.{pointwise-zip}
use Rattle.lost_mapping.proofs.stamp_text.fits_shapes.Goals as goal

pub returns : goal.returns
returns c =
    all_from_yields_List (λ p. fits_shape p.0 p.1) c.all.new.self _ _ c.all.ensures.ran
    (YieldsList-from_zip {xs = c.args.shapes.now} {ys = c.args.text.now} (YieldsList-from_slice c.args.shapes.now cc) (YieldsList-from_slice c.args.text.now cc))
    (λ x b q k. search (rules, tests))
    ∙ pointwise-zip fits_shape c.args.shapes.now c.args.text.now c.requires
