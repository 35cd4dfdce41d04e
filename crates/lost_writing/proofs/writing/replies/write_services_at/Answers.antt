use Rattle.std.proofs.Common.{codes}
use Rattle.serde_json.specs.Data.{number, string, unsigned}
use Rattle.lost_mapping.specs.Path.{shown_path}
use Rattle.lost_writing.specs.Replies.{services_data, texts_data}
use Rattle.lost_writing.proofs.ShapeLemmas.{inner_four}
use Rattle.lost_writing.proofs.TokenLemmas.{when_ok}
use Rattle.lost_writing.proofs.writing.replies.write_services_at.Goals as goal

pub returns : goal.returns
returns c =
    let written = inner_four (codes "listServicesByLocationResponse") (codes "edition") (number (unsigned c.args.edition)) (codes "locationUsed") (string c.args.location_used.now) (codes "path") (texts_data (shown_path c.args.path.now)) (codes "serviceList") (services_data c.args.services.now) c.args.text.now in
    when_ok c.end.result c.end.ensures (λ ended. rw (ended, c.in_ok-services_member.ensures, c.in_ok-path_member.ensures, c.in_ok-text_member.ensures, c.in_ok-count_member.ensures, c.in_ok-begin.ensures) written)
