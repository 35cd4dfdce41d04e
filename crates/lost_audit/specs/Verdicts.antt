-- What the verdict on a logged question says. (Own.)
use Rattle.std.specs.Prelude.{◌≡◌, ◌≢◌, ⊤}
use Rattle.lost_spec.specs.Text.{Text}
use Rattle.lost_json.specs.Line.{line_reply}
use Rattle.lost_desk.specs.Seen.{DeskSeen, published_book}
use Rattle.lost_audit.specs.declared.log_line.Kept.TheVariants.{Whole}
use Rattle.lost_audit.specs.declared.log_line.Question.{Question}
use Rattle.lost_audit.specs.declared.verdict.Verdict.{Verdict}
use Rattle.lost_audit.specs.declared.verdict.Verdict.TheVariants.{Right, InternalError, Differs, Unjudged}

-- the reply to a question's line at its moment, over the book that is published
abbrev pub right_reply : DeskSeen → Text → Question → Text
right_reply d name q = line_reply (published_book d) name q.moment q.request.items

-- a verdict on a question. A reply that was kept whole is right only if it is that one; one that is told as right is that one, and another than a reply that was kept whole
pub record IsJudged (d : DeskSeen) (name : Text) (q : Question) (verdict : Verdict) : Type 0 where
  pub right : verdict ≡ Right → (given : _) → q.kept ≡ Whole given → given.items ≡ right_reply d name q
  pub told : (reply : _) → verdict ≡ Differs reply → reply.items ≡ right_reply d name q
  pub differs : (reply : _) → verdict ≡ Differs reply → (given : _) → q.kept ≡ Whole given → given.items ≢ reply.items

-- a verdict that is told in a line
abbrev pub IsTold : Verdict → Type 0
IsTold Right = ⊥
IsTold InternalError = ⊥
IsTold (Differs reply) = ⊤
IsTold (Unjudged cause) = ⊤
