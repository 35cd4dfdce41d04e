use Rattle.lost_connections.proofs.LawLemmas.{bursts_are_stream}
use Rattle.lost_connections.proofs.laws.law_bursts_are_stream.Goals as goal

pub returns : goal.returns
returns g c = bursts_are_stream (g.G.Gate.says c.args._gate.now)
