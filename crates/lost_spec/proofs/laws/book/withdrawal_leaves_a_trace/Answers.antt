use Rattle.lost_spec.proofs.TraceLawLemmas.{withdrawal_leaves_a_trace_lem}
use Rattle.lost_spec.proofs.laws.book.withdrawal_leaves_a_trace.Goals as goal

pub returns : goal.returns
returns c = withdrawal_leaves_a_trace_lem
