use Rattle.lost_connections.proofs.LawLemmas.{burst_is_stream}
use Rattle.lost_connections.proofs.laws.law_burst_is_stream.Goals as goal

pub returns : goal.returns
returns g c = burst_is_stream (g.G.Gate.says c.args._gate.now)
