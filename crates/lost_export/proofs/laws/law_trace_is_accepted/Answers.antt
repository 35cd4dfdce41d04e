use Rattle.lost_export.proofs.AcceptedLemmas.{none_is_earlier, trace_is_accepted}
use Rattle.lost_export.proofs.laws.law_trace_is_accepted.Goals as goal

pub returns-clause-earliest : goal.returns-clause-earliest
returns-clause-earliest c = none_is_earlier

pub returns-clause-accepted : goal.returns-clause-accepted
returns-clause-accepted c = trace_is_accepted
