-- What a line of the log is noted from. (Own.)
use Rattle.std.specs.Prelude.{◌≡◌, ◌⊎◌, ℕ, length}
use Rattle.lost_spec.specs.Text.{Text}
use Rattle.lost_spec.specs.Moment.{Instant}
use Rattle.lost_json.specs.Line.{line_reply}
use Rattle.lost_json.specs.Stream.{internal_error}
use Rattle.lost_desk.specs.Seen.{ReaderSeen, seen_book}
use Rattle.lost_answer_log.specs.declared.batch.Noted.{Noted}

-- a server's name and a reader, whose list of edits is as long as the edition says; the reply to the line at the moment is that of this list, or memory was refused for it
pub record Answering (moment : Instant) (edition : ℕ) (line reply : Text) : Type 0 where
  pub name : Text
  pub reader : ReaderSeen
  pub edition_is : edition ≡ length reader.seen
  pub reply_is : (reply ≡ line_reply (seen_book reader) name moment line) ⊎ (reply ≡ internal_error)

-- there are such ones
abbrev pub IsAnswer : Instant → ℕ → Text → Text → Type 0
IsAnswer moment edition line reply = ∥ Answering moment edition line reply ∥₁

-- what is noted of an answer, but for its bytes
abbrev pub noted : Instant → ℕ → ℕ → Text → Text → Noted
noted moment edition connection line reply = record { moment = moment; edition = edition; connection = connection; request = length line; reply = length reply }
