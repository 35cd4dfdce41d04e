-- What a worker counts of its replies. (Own.)
use Rattle.std.specs.Prelude.{◌≡◌, Result, Ok, Err}
use Rattle.lost_spec.specs.Text.{Text}
use Rattle.lost_status.specs.declared.reply_counter.ReplyFigures.{ReplyFigures}
use Rattle.lost_status.specs.declared.reply_kind.ReplyKind.{ReplyKind}
use Rattle.lost_status.specs.declared.reply_kind.ReplyKind.TheVariants.{InternalError}
use Rattle.lost_status.specs.LineKind.{told_kind}
use Rattle.lost_status.specs.ReplyKind.{kind_place}
use Rattle.lost_status.specs.Figures.{counted_at}

-- one more reply of a kind
abbrev pub reply_counted : ReplyFigures → ReplyKind → ReplyFigures
reply_counted f kind = record f { replies = counted_at f.replies (kind_place kind) }

-- a line's reply is counted once, by its kind; if memory was refused for it, it is an internal error
abbrev pub CountsReplied : {V E : Type 0} → (V → Text) → ReplyFigures → Result V E → ReplyFigures → Type 0
CountsReplied text old (Ok reply) new = new ≡ reply_counted old (told_kind (text reply))
CountsReplied text old (Err refused) new = new ≡ reply_counted old InternalError
