use Rattle.std.proofs.Common.{◌≡◌, Some, IfSome, subst}
use Rattle.serde_json.specs.Find.{as_bool}
use Rattle.lost_tape.specs.Tapes.{data_of}
use Rattle.lost_tape.proofs.PartLemmas.{truth_held}
use Rattle.lost_tape.proofs.tree.Tree.truth.Goals as goal

pub returns : goal.returns
returns c = subst (λ ts. IfSome c.as_bool.result (λ truth. as_bool (data_of ts) ≡ Some truth)) c.self.view_is (truth_held _ c.as_bool.result c.self.invariant c.as_bool.ensures)
