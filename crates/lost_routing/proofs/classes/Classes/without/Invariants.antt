-- The classes of the services so far are marked, and none is a stray one.
use Rattle.lost_routing.specs.Classes.{AreOfChain}
use Rattle.lost_routing.proofs.classes.Classes.without.Given as goal

abbrev pub invariant-loop-cut : goal.invariant-loop-cut
invariant-loop-cut l = AreOfChain l.service l.self l.classes l.cut
