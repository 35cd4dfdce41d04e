use Rattle.std.proofs.Common.{◌≡◌, Some, IfSome, option_and_then, sym, ap, ◌∙◌, subst}
use Rattle.lost_civic.specs.Pairs.{seen_pairs}
use Rattle.lost_reading.specs.Members.{pairs_of, pairs_in}
use Rattle.lost_writing.specs.Named.{named_members}
use Rattle.lost_tape.specs.Tapes.{data_of}
use Rattle.lost_tape.proofs.addresses.read_pairs.Goals as goal

pub returns : goal.returns
returns c =
    let opened = c.in_ok-members.ensures in
    let named : named_members c.in_ok-named.named.entries ≡ opened.0 = c.in_ok-named.ensures opened.0 opened.2 in
    let whole : pairs_in (data_of c.args.tree.now) ≡ pairs_of (named_members c.in_ok-named.named.entries) =
    ap (option_and_then pairs_of) opened.1 ∙ ap pairs_of (sym named) in
    subst (λ o. IfSome c.copy_pairs.result (λ pairs. o ≡ Some (seen_pairs pairs.items))) (sym whole) c.copy_pairs.ensures
