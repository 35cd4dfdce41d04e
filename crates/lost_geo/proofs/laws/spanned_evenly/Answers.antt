-- The law, from a walk round the ring.
use Rattle.lost_geo.proofs.Spans as spans
use Rattle.lost_geo.proofs.laws.spanned_evenly.Goals as goal

pub returns : goal.returns
returns c = spans.spanned_evenly
