-- The flag at the kind's place.
use Rattle.std.proofs.Common.{ap}
use Rattle.lost_index.specs.Kinds.{has_kind}
use Rattle.lost_index.proofs.kinds.Kinds.has.Goals as goal

pub returns : goal.returns
returns c = ap (λ marked. has_kind marked c.args.kind) c.self.view_is
