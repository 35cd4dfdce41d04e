use Rattle.lost_status.proofs.TextLemmas.{then_written}
use Rattle.lost_status.proofs.metrics.write_desk.Goals as goal

pub returns : goal.returns
returns c = then_written _ _ _ _ _ (then_written _ _ _ _ _ (then_written _ _ _ _ _ (then_written _ _ _ _ _ (then_written _ _ _ _ _ c.in_ok-write_metric.ensures c.in_ok-write_metric-2.ensures) c.in_ok-write_metric-3.ensures) c.in_ok-write_metric-4.ensures) c.in_ok-write_flag.ensures) c.in_ok-write_flag-2.ensures
