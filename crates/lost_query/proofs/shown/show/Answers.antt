use Rattle.std.proofs.Common.{map, ap}
use Rattle.lost_query.specs.Finding.{mappings_of}
use Rattle.lost_query.proofs.shown.show.Goals as goal

pub returns : goal.returns
returns c = ap (λ show. map show (mappings_of c.args.found)) c.boundary_shown.ensures
