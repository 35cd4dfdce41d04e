use Rattle.lost_connections.proofs.TakeLemmas.{sends_as}
use Rattle.lost_connections.proofs.client.Client.send_rest.Goals as goal

pub returns-clause-rest : goal.returns-clause-rest
returns-clause-rest g c = sends_as _ _ _ _ _ c.in_ok-taken.ensures.rest c.rest_progress.ensures c.shown.ensures c.in_ok-taken.ensures.count
