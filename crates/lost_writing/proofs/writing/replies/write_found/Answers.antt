use Rattle.std.proofs.Common.{option_map}
use Rattle.lost_mapping.specs.Path.{shown_path}
use Rattle.lost_mapping.specs.Reply.{all_shown_of, validation_of}
use Rattle.lost_writing.specs.Replies.{list_data, shown_data, texts_data, validation_data, warnings_data}
use Rattle.lost_writing.proofs.ShapeLemmas.{found_written}
use Rattle.lost_writing.proofs.TokenLemmas.{when_ok}
use Rattle.lost_writing.proofs.writing.replies.write_found.Goals as goal

pub returns : goal.returns
returns c =
    let written =
    found_written c.args.edition c.args.location_used.now (option_map validation_data (option_map validation_of c.args.judged.now))
    (list_data shown_data (all_shown_of c.args.mappings.now)) (texts_data (shown_path c.args.path.now)) (warnings_data c.args.warnings.now) c.args.text.now in
    when_ok c.end.result c.end.ensures (λ ended. rw (ended, c.in_ok-warnings_member.ensures, c.in_ok-path_member.ensures, c.in_ok-mappings_member.ensures, c.in_ok-validation_member.ensures, c.in_ok-text_member.ensures, c.in_ok-count_member.ensures, c.in_ok-begin.ensures) written)
