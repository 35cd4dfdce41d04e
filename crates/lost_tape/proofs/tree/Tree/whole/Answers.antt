use Rattle.std.proofs.Common.{◌≡◌, Some, IfSome, option_and_then, sym, subst}
use Rattle.serde_json.specs.Find.{as_number, as_i64}
use Rattle.serde_json.specs.Read.{number_of}
use Rattle.lost_tape.specs.Tapes.{data_of}
use Rattle.lost_tape.proofs.PartLemmas.{number_held}
use Rattle.lost_tape.proofs.tree.Tree.whole.Goals as goal

pub returns : goal.returns
returns c =
    let s = c.in_ok-as_number.field-0.now in
    let same : as_number (data_of c.args.self.now) ≡ number_of s =
    subst (λ ts. as_number (data_of ts) ≡ number_of s) c.self.view_is (number_held _ s c.self.invariant c.in_ok-as_number.ensures) in
    subst (λ n. IfSome c.whole_number.result (λ number. option_and_then as_i64 n ≡ Some number)) (sym same) c.whole_number.ensures
