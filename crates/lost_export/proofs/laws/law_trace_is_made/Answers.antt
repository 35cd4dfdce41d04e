use Rattle.lost_export.proofs.PlaceholderLemmas.{trace_is_made}
use Rattle.lost_export.proofs.laws.law_trace_is_made.Goals as goal

pub returns : goal.returns
returns c = trace_is_made
