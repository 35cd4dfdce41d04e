use Rattle.lost_reading.proofs.FitLemmas.{each_told}
use Rattle.lost_reading.proofs.fits.if_fitting.Goals as goal

pub returns-then-each_fits : goal.returns-then-each_fits
returns-then-each_fits g c = each_told g.T.Fits.meant g.T.Fits.told g.met.T.Fits.told_is c.args.items.now c.if-each_fits.ensures
