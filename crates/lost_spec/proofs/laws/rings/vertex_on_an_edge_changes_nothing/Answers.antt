use Rattle.lost_spec.proofs.EdgeLemmas.{vertex_on_an_edge_changes_nothing_lem}
use Rattle.lost_spec.proofs.laws.rings.vertex_on_an_edge_changes_nothing.Goals as goal

pub returns : goal.returns
returns c = vertex_on_an_edge_changes_nothing_lem
