use Rattle.lost_status.proofs.TextLemmas.{then_written}
use Rattle.lost_status.proofs.metrics.write_state.Goals as goal

pub returns : goal.returns
returns c = then_written _ _ _ _ _ c.in_ok-write_flag.ensures c.in_ok-write_metric.ensures
