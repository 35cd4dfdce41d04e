-- What a clause reads of an `Answer`.
use Rattle.std.specs.Prelude.{ℕ, List}
use Rattle.lost_lines.specs.declared.answerer.Answer.{Answer}
use Rattle.lost_lines.specs.declared.answerer.Text.{Text}
use Rattle.lost_lines.specs.declared.answerer.Text.TheVariants.{Kept, Short, Constant}
use Rattle.lost_lines.specs.Run.{Reply}

-- the bytes of a text
abbrev pub bytes_of : Text → List ℕ
bytes_of (Kept bytes) = bytes.items
bytes_of (Short bytes) = bytes
bytes_of (Constant bytes) = bytes.now

-- the reply that an answer is
abbrev pub reply_of : Answer → Reply
reply_of answer = record { text = bytes_of answer.text; is_internal_error = answer.is_internal_error }
