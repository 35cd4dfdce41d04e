use Rattle.std.proofs.Common.{codes}
use Rattle.serde_json.specs.Data.{number, unsigned}
use Rattle.lost_mapping.specs.Path.{shown_path}
use Rattle.lost_writing.specs.Replies.{regions_data, texts_data}
use Rattle.lost_writing.proofs.ShapeLemmas.{inner_three}
use Rattle.lost_writing.proofs.TokenLemmas.{when_ok}
use Rattle.lost_writing.proofs.writing.replies.write_all_regions.Goals as goal

pub returns : goal.returns
returns c =
    let written = inner_three (codes "getServiceBoundaryResponse") (codes "edition") (number (unsigned c.args.edition)) (codes "path") (texts_data (shown_path c.args.path.now)) (codes "serviceBoundary") (regions_data c.args.mapping.now.regions) c.args.text.now in
    when_ok c.end.result c.end.ensures (λ ended. rw (ended, c.in_ok-write_regions.ensures, c.in_ok-name.ensures, c.in_ok-path_member.ensures, c.in_ok-count_member.ensures, c.in_ok-begin.ensures, c.regions.ensures.regions) written)
