-- The line of an answer: what a request line is answered with, found from scratch over a book.
use Rattle.std.specs.Prelude.{Option, Some, None}
use Rattle.lost_spec.specs.Text.{Text}
use Rattle.lost_spec.specs.Moment.{Instant}
use Rattle.lost_spec.specs.Book.{Book}
use Rattle.lost_spec.specs.Request.{Request, Reply, BadRequest}
use Rattle.lost_spec.specs.Answer.{answer}
use Rattle.lost_reading.specs.Requests.{line_request}
use Rattle.lost_writing.specs.Replies.{reply_text}

-- the reply to what a line spells: the answer to a request, and `badRequest` to anything else
abbrev pub reply_to : Book → Text → Instant → Option Request → Reply
reply_to b name t None = BadRequest
reply_to b name t (Some request) = answer b name t request

-- the line that answers a line, over a book, by the server of this name, at an instant (RFC 5222; own format)
unfoldable pub line_reply : Book → Text → Instant → Text → Text
line_reply b name t bytes = reply_text (reply_to b name t (line_request bytes))
