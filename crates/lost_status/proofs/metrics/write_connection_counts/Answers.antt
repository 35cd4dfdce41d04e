use Rattle.lost_status.specs.Metrics.{connection_counts}
use Rattle.lost_status.proofs.TextLemmas.{then_written}
use Rattle.lost_status.proofs.metrics.write_connection_counts.Goals as goal

pub returns : goal.returns
unfolding connection_counts
returns c = then_written _ _ _ _ _ (then_written _ _ _ _ _ (then_written _ _ _ _ _ (then_written _ _ _ _ _ c.in_ok-write_metric.ensures c.in_ok-write_metric-2.ensures) c.in_ok-write_metric-3.ensures) c.in_ok-write_metric-4.ensures) c.in_ok-write_metric-5.ensures
