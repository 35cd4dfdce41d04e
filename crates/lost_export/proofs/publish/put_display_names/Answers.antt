use Rattle.std.proofs.Common.{◌≡◌, Some, codes, sym, ap, ◌∙◌}
use Rattle.serde_json.specs.View.{view, members_view}
use Rattle.lost_writing.proofs.TokenLemmas.{when_ok}
use Rattle.lost_export.specs.Export.{display_names_data}
use Rattle.lost_export.proofs.ListLemmas.{some_display_names}
use Rattle.lost_export.proofs.MemberLemmas.{put_there}
use Rattle.lost_export.proofs.publish.put_display_names.Goals as goal

pub returns : goal.returns
returns c =
    let names = c.args.mapping.now.display_names in
    let some = some_display_names c.display_names-names.result.now c.if-is_empty.ensures in
    let there : display_names_data names ≡ Some (view c.in_ok-list.list) = ap display_names_data (sym c.display_names-names.ensures) ∙ (some ∙ ap Some (sym c.in_ok-list.ensures)) in
    when_ok c.put.result c.put.ensures.ok (λ put. put_there (codes "displayName") (display_names_data names) (view c.in_ok-list.list) (members_view c.args.members.now.entries) (members_view c.put.new.map.entries) there put)
