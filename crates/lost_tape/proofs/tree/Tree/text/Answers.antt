use Rattle.std.proofs.Common.{◌≡◌, Some, IfSome, subst}
use Rattle.serde_json.specs.Find.{as_str}
use Rattle.lost_tape.specs.Tapes.{data_of}
use Rattle.lost_tape.proofs.PartLemmas.{text_held}
use Rattle.lost_tape.proofs.tree.Tree.text.Goals as goal

pub returns : goal.returns
returns c = subst (λ ts. IfSome c.as_str.result (λ text. as_str (data_of ts) ≡ Some text.now)) c.self.view_is (text_held _ c.as_str.result c.self.invariant c.as_str.ensures)
