-- No live mapping has one of the longer services, which were asked.
use Rattle.std.proofs.Common.{◌≡◌, ◌-◌, length}
use Rattle.lost_routing.proofs.QuestionLemmas.{some_cut}
use Rattle.lost_routing.proofs.store.Store.implemented.Given as goal

abbrev pub invariant-loop-cut : goal.invariant-loop-cut
invariant-loop-cut l =
    some_cut l.moment l.service l.self.mappings (length l.service)
    ≡ some_cut l.moment l.service l.self.mappings (length l.service - l.cut)
