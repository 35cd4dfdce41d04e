-- The two laws of cuts; the chain is gone along once each way.
use Rattle.lost_geo.proofs.Crossing.{reverse_crosses_alike}
use Rattle.lost_geo.proofs.Cuts as cuts
use Rattle.lost_geo.proofs.laws.cut_shares_the_inside.Goals as goal

pub returns-clause-rings : goal.returns-clause-rings
returns-clause-rings c = cuts.cuts_are_rings

pub returns-clause-inside : goal.returns-clause-inside
returns-clause-inside c = cuts.cuts_share_the_inside reverse_crosses_alike
