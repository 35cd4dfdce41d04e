use Rattle.std.proofs.Common.{refl}
use Rattle.lost_server.proofs.MapLemmas.{map_read}
use Rattle.lost_server.proofs.map.read_map.Goals as goal

pub returns-in-Ok-clause-answered : goal.returns-in-Ok-clause-answered
returns-in-Ok-clause-answered g c =
    rw c.new-input.ensures.inner at (map_read (λ m. m.found) c.args.desk.now.limits _ _ _ refl _ _ _ c.in-Ok.field-0 c.in-Ok.ensures.watched.served c.args.desk.now refl refl)
