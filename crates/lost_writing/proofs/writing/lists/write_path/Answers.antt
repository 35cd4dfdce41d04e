use Rattle.std.specs.Cow.{cow_str_bytes}
use Rattle.serde_json.specs.Data.{string}
use Rattle.lost_writing.proofs.ShapeLemmas.{longer_list_written}
use Rattle.lost_writing.proofs.TokenLemmas.{when_ok}
use Rattle.lost_writing.proofs.writing.lists.write_path.Goals as goal

pub returns : goal.returns
returns c =
    let path = c.args.path.now in
    let written = longer_list_written string cow_str_bytes path.names.now path.server.now c.args.text.now in
    when_ok c.end_list.result c.end_list.ensures (λ ended. rw (ended, c.in_ok-text.ensures, c.in_ok-write_each.ensures, c.in_ok-begin_list.ensures, c.text.ensures.text) written)
