use Rattle.std.proofs.Common.{◌≡◌, [], ◌∷◌, Some, Ok, pos, refl, ap, ◌∙◌}
use Rattle.std.specs.Fmt.{digits}
use Rattle.serde_json.proofs.OnLiterals.{serde_json_on_literals}
use Rattle.lost_spec.specs.Book.{Publish as PublishEdit, book_of}
use Rattle.lost_spec.specs.Examples.{all_words, usual_limits, server, now, police, mapping_a, shown_a, query, found_reply}
use Rattle.lost_spec.specs.Request.{Errors}
use Rattle.lost_spec.specs.Answer.{answer}
use Rattle.lost_spec.specs.declared.answers.AnswerError.TheVariants.{ServiceNotImplemented}
use Rattle.lost_reading.specs.Members.{tree_of}
use Rattle.lost_reading.specs.Desk.{Stage as StageOrder, desk_line}
use Rattle.lost_reading.specs.Requests.{line_request}
use Rattle.lost_writing.specs.Replies.{reply_text}
use Rattle.lost_json.specs.Line.{reply_to, line_reply}
use Rattle.lost_core.specs.World.{Replying, Staged, Published, Entered, Told, Replied, NoWorker, events}
use Rattle.lost_core.specs.Values.{replies_of}
use Rattle.lost_core.specs.Rows.{publish_a, query_a, nothing_line, found_line, row_world}
use Rattle.lost_core.proofs.rows.world.Goals as goal

-- what the lines spell
desk_a : desk_line publish_a ≡ Some (Ok (StageOrder (PublishEdit mapping_a)))
unfolding all_words serde_json_on_literals tree_of desk_line
desk_a = refl

request_a : line_request query_a ≡ Some (query police (pos 5_000_000) (pos 5_000_000))
unfolding all_words serde_json_on_literals tree_of line_request
request_a = refl

-- what is answered
nothing_answered : answer (book_of usual_limits []) server now (query police (pos 5_000_000) (pos 5_000_000)) ≡ Errors 0 ServiceNotImplemented
unfolding all_words
nothing_answered = refl

found_answered : answer (book_of usual_limits (PublishEdit mapping_a ∷ [])) server now (query police (pos 5_000_000) (pos 5_000_000)) ≡ found_reply 1 (shown_a ∷ [])
unfolding all_words
found_answered = refl

-- and its lines
nothing_text : reply_text (Errors 0 ServiceNotImplemented) ≡ nothing_line
unfolding digits serde_json_on_literals reply_text
nothing_text = refl

found_text : reply_text (found_reply 1 (shown_a ∷ [])) ≡ found_line
unfolding digits serde_json_on_literals reply_text
found_text = refl

nothing_reply : replies_of server (book_of usual_limits []) now query_a ≡ nothing_line
unfolding line_reply
nothing_reply =
    ap (λ o. reply_text (reply_to (book_of usual_limits []) server now o)) request_a ∙ ap reply_text nothing_answered ∙ nothing_text

found_reply_line : replies_of server (book_of usual_limits (PublishEdit mapping_a ∷ [])) now query_a ≡ found_line
unfolding line_reply
found_reply_line =
    ap (λ o. reply_text (reply_to (book_of usual_limits (PublishEdit mapping_a ∷ [])) server now o)) request_a ∙ ap reply_text found_answered ∙ found_text

-- the events, however lines are answered
shape : (reply : Replying) → events (row_world reply)
    ≡ Staged 1 ∷ Entered 0 ∷ Replied (reply (book_of usual_limits []) now query_a) ∷ Published 1 ∷ Replied (reply (book_of usual_limits []) now query_a)
    ∷ Told 1 ∷ Replied (reply (book_of usual_limits (PublishEdit mapping_a ∷ [])) now query_a) ∷ Entered 1 ∷ Told 1 ∷ NoWorker ∷ []
shape reply = refl

pub returns : goal.returns
returns c = (
  desk_a,
  shape (replies_of server)
      ∙ ap (λ line. Staged 1 ∷ Entered 0 ∷ Replied line ∷ Published 1 ∷ Replied line
      ∷ Told 1 ∷ Replied (replies_of server (book_of usual_limits (PublishEdit mapping_a ∷ [])) now query_a) ∷ Entered 1 ∷ Told 1 ∷ NoWorker ∷ []) nothing_reply
      ∙ ap (λ line. Staged 1 ∷ Entered 0 ∷ Replied nothing_line ∷ Published 1 ∷ Replied nothing_line
      ∷ Told 1 ∷ Replied line ∷ Entered 1 ∷ Told 1 ∷ NoWorker ∷ []) found_reply_line,
)
