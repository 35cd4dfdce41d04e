-- Once all edits are logged, the copies alone have what is pending.
use Rattle.std.proofs.Common.{rules}
use Rattle.lost_desk.proofs.queue.publish_all.Goals as goal

pub publish_logged-requires : goal.publish_logged-requires
publish_logged-requires g c = search rules

pub returns : goal.returns
returns g c = search rules
