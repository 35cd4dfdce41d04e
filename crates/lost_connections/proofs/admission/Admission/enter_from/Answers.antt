use Rattle.std.proofs.Common.{◌+◌, arith}
use Rattle.lost_connections.proofs.AdmissionLemmas.{some_put}
use Rattle.lost_connections.proofs.admission.Admission.enter_from.Goals as goal

pub invariant_of-self : goal.invariant_of-self
invariant_of-self g c = record {
  some = some_put g.A.PartialEq.eq c.args.self.now.by_address c.insert.new.self c.args.address (c.open_from-open.result + 1) c.insert.result
      c.insert.ensures.entries c.insert.ensures.err c.args.self.now.some (omega arith);
}
