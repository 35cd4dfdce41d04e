use Rattle.std.proofs.Common.{◌-◌, arith}
use Rattle.lost_connections.proofs.AdmissionLemmas.{some_put, some_removed}
use Rattle.lost_connections.proofs.admission.Admission.leave_from.Goals as goal

pub invariant_of-self : goal.invariant_of-self
invariant_of-self g c = record { some = some_removed (g.A.PartialEq.eq c.args.address) c.args.self.now.by_address c.remove-last.new.self c.remove-last.ensures.entries c.args.self.now.some }

pub invariant_of-self-else-open-lt2 : goal.invariant_of-self-else-open-lt2
invariant_of-self-else-open-lt2 g c = record {
  some = some_put g.A.PartialEq.eq c.args.self.now.by_address c.insert-open.new.self c.args.address (c.open_from-open.result - 1) c.insert-open.result
      c.insert-open.ensures.entries c.insert-open.ensures.err c.args.self.now.some (omega arith);
}
