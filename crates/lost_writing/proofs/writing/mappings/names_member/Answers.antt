use Rattle.std.proofs.Common.{◌≡◌, OnOk, codes, subst, ◌∙◌, ap}
use Rattle.lost_writing.specs.Replies.{display_names_data}
use Rattle.lost_writing.specs.Tokens.{then_member_if}
use Rattle.lost_writing.proofs.ListLemmas.{list_if_any-display_names}
use Rattle.lost_writing.proofs.writing.mappings.names_member.Goals as goal

pub returns : goal.returns
returns c =
    let names = list_if_any-display_names c.display_names.result.now ∙ ap display_names_data c.display_names.ensures in
    subst (λ list. OnOk c.list_member_if_any.result (c.list_member_if_any.new.text ≡ then_member_if (codes "displayName") list c.args.text.now)) names c.list_member_if_any.ensures
