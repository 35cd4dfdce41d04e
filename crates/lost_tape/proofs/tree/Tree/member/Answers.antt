use Rattle.std.proofs.Common.{◌≡◌, None, Some, option_map, option_and_then, ap, sym, ◌∙◌, subst, arith}
use Rattle.serde_json.specs.Find.{get_member}
use Rattle.lost_reading.specs.Members.{unless_null}
use Rattle.lost_tape.specs.Tapes.{data_of, members_of}
use Rattle.lost_tape.proofs.TreeLemmas.{data_of-from, IsTree-from}
use Rattle.lost_tape.proofs.PartLemmas.{FoundTree, member_held}
use Rattle.lost_tape.proofs.tree.Tree.member.Goals as goal

pub returns-in_err-element : goal.returns-in_err-element
returns-in_err-element c =
    let gone : c.from_residual.result ≡ None = grind arith in
    let found = subst (λ ts. FoundTree None (get_member c.args.name.now (members_of ts))) c.self.view_is (member_held c.args.name.now _ None c.self.invariant c.in_err-element.ensures) in
    ap (option_map data_of) gone ∙ sym (ap (option_and_then unless_null) found)

pub invariant_of-unless_null : goal.invariant_of-unless_null
invariant_of-unless_null c =
    let found = member_held c.args.name.now _ (Some c.in_ok-element.element) c.self.invariant c.in_ok-element.ensures in
    IsTree-from c.in_ok-element.element found.0 found.1

pub returns : goal.returns
returns c =
    let us = c.in_ok-element.element in
    let found = subst (λ ts. FoundTree (Some us) (get_member c.args.name.now (members_of ts))) c.self.view_is (member_held c.args.name.now _ (Some us) c.self.invariant c.in_ok-element.ensures) in
    c.unless_null.ensures ∙ ap unless_null (data_of-from us found.0 found.1) ∙ sym (ap (option_and_then unless_null) found.2)
