use Rattle.std.proofs.Common.{◌≡◌, string_bytes, ap, ◌∙◌, rules}
use Rattle.serde_json.specs.Data.{put}
use Rattle.serde_json.specs.View.{view, members_view}
use Rattle.serde_json.proofs.Views.{members_view-insert_entry}
use Rattle.lost_reading.proofs.values.add_member.Goals as goal

pub returns-clause-added : goal.returns-clause-added
returns-clause-added c =
    let copied : string_bytes c.in_ok-key.key ≡ c.args.name.now = search rules in
    ap members_view c.in_ok-insert.ensures.entries ∙ members_view-insert_entry c.args.found.now.entries c.in_ok-key.key c.args.member ∙ ap (λ name. put name (view c.args.member) (members_view c.args.found.now.entries)) copied
