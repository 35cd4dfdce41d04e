use Rattle.lost_mapping.specs.Path.{shown_path}
use Rattle.lost_mapping.specs.Reply.{all_shown_of}
use Rattle.lost_writing.specs.Replies.{list_data, reply_text, shown_data, texts_data}
use Rattle.lost_writing.proofs.FoundLemmas.{found_text_is}
use Rattle.lost_writing.proofs.writing.found_line.bare_line.Goals as goal

pub returns : goal.returns
unfolding reply_text
returns c =
    found_text_is _ c.args.location_used.now (list_data shown_data (all_shown_of c.args.mappings.now)) (texts_data (shown_path c.args.path.now))
    c.in_ok-id.ensures.0 c.in_ok-id.ensures.1 c.in_ok-mapping.ensures c.in_ok-server.ensures
