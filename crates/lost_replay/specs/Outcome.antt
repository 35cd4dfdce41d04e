-- What an outcome says of its line and of the reply to it. (Own.)
use Rattle.std.specs.Prelude.{◌≡◌, ◌≢◌, true, None, is_some}
use Rattle.lost_spec.specs.Text.{Text}
use Rattle.lost_reading.specs.Desk.{desk_line}
use Rattle.lost_reading.specs.Requests.{line_request}
use Rattle.lost_writing.specs.declared.desk_reply.DeskReply.TheVariants.{Staged as StagedReply, Committed as CommittedReply}
use Rattle.lost_writing.specs.DeskReplies.{desk_text, IsCode}
use Rattle.lost_lines.specs.Run.{Cut, Whole, TooLong, Unread}
use Rattle.lost_json.specs.Stream.{internal_error, bad_request, refused_text}
use Rattle.lost_replay.specs.declared.outcome.Outcome.{Outcome}
use Rattle.lost_replay.specs.declared.outcome.Outcome.TheVariants.{Answered, Staged, Committed, Refused, BadRequest, Unjudged}

-- the line is a request
pub record IsRequest (line : Text) : Type 0 where
  pub no_desk_line : desk_line line ≡ None
  pub request : is_some (line_request line) ≡ true

-- the line is one of which the outcome may be said, and its reply is the text of the outcome; an answered request has any reply but `internalError`
abbrev pub IsOutcomeOf : Outcome → Text → Text → Type 0
IsOutcomeOf Answered line reply = IsRequest line × (reply ≢ internal_error)
IsOutcomeOf (Staged pending) line reply = reply ≡ desk_text (StagedReply pending)
IsOutcomeOf (Committed edition) line reply = reply ≡ desk_text (CommittedReply edition)
IsOutcomeOf (Refused code) line reply = IsCode code × (reply ≡ refused_text code)
IsOutcomeOf BadRequest line reply = reply ≡ bad_request
IsOutcomeOf Unjudged line reply = reply ≡ internal_error

-- so it is of a line as it was cut: a line over the limit is bad, one that was not kept is not judged
abbrev pub IsOutcomeAt : Outcome → Cut → Text → Type 0
IsOutcomeAt outcome (Whole line) reply = IsOutcomeOf outcome line reply
IsOutcomeAt outcome TooLong reply = (outcome ≡ BadRequest) × (reply ≡ bad_request)
IsOutcomeAt outcome Unread reply = (outcome ≡ Unjudged) × (reply ≡ internal_error)

-- a refusal has a code of the desk's table
abbrev pub IsListed : Outcome → Type 0
IsListed Answered = Unit {0}
IsListed (Staged pending) = Unit {0}
IsListed (Committed edition) = Unit {0}
IsListed (Refused code) = IsCode code
IsListed BadRequest = Unit {0}
IsListed Unjudged = Unit {0}
