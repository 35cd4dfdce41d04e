use Rattle.std.proofs.Common.{◌≡◌, true, Some, is_some, subst}
use Rattle.std.proofs.lemmas.Bool.{OnTrue_from}
use Rattle.serde_json.specs.Find.{as_object}
use Rattle.lost_tape.specs.Tapes.{data_of, members_of}
use Rattle.lost_tape.proofs.PartLemmas.{object_held}
use Rattle.lost_tape.proofs.tree.Tree.is_object.Goals as goal

pub returns : goal.returns
returns c = OnTrue_from _ _ (λ e.
    let opened : is_some c.members.result ≡ true = cc in
    subst (λ ts. as_object (data_of ts) ≡ Some (members_of ts)) c.self.view_is (object_held _ c.members.result c.self.invariant c.members.ensures opened))
