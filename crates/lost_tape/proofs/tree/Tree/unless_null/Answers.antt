use Rattle.std.proofs.Common.{◌≡◌, true, false, None, Some, sym, subst}
use Rattle.lost_reading.specs.Members.{unless_null}
use Rattle.lost_tape.specs.Tapes.{data_of}
use Rattle.lost_tape.proofs.PartLemmas.{unless_held}
use Rattle.lost_tape.proofs.tree.Tree.unless_null.Goals as goal

pub returns-then-is_null : goal.returns-then-is_null
returns-then-is_null c = subst (λ ts. None ≡ unless_null (data_of ts)) c.self.view_is (sym (unless_held _ true c.self.invariant c.if-is_null.ensures))

pub returns-else-is_null : goal.returns-else-is_null
returns-else-is_null c = subst (λ ts. Some (data_of ts) ≡ unless_null (data_of ts)) c.self.view_is (sym (unless_held _ false c.self.invariant c.if-is_null.ensures))
