use Rattle.std.proofs.Common.{◌≡◌, string_bytes, ap, ◌∙◌, rules}
use Rattle.serde_json.specs.Data.{put}
use Rattle.serde_json.specs.View.{view, members_view}
use Rattle.serde_json.proofs.Views.{members_view-insert_entry}
use Rattle.lost_reading.proofs.known_members.keep.Goals as goal

pub returns-clause-ok : goal.returns-clause-ok
returns-clause-ok c =
    let v = c.in_ok-member.member in
    let copied : string_bytes c.in_ok-key.key ≡ c.args.name.now = search rules in
    let inserted : members_view c.insert.new.self.entries ≡ put c.args.name.now (view v) (members_view c.args.found.now.entries) =
    ap members_view c.in_ok-insert.ensures.entries ∙ members_view-insert_entry c.args.found.now.entries c.in_ok-key.key v ∙ ap (λ name. put name (view v) (members_view c.args.found.now.entries)) copied in
    (view v, c.in_ok-member.ensures.ok, inserted)
