use Rattle.std.proofs.Common.{refl}
use Rattle.lost_mapping.specs.Request.{request_of}
use Rattle.lost_replay.proofs.ReplyLemmas.{answered_differs}
use Rattle.lost_replay.proofs.books.Books.request.Goals as goal

-- what is answered to a request is no `internalError`
pub returns-in-Ok-clause-outcome : goal.returns-in-Ok-clause-outcome
returns-in-Ok-clause-outcome c = λ line plain is. (
  record { no_desk_line = plain; request = rw is refl },
  answered_differs _ _ _ line (request_of c.args.request.now) c.in-Ok.text.items is (c.in-Ok.ensures line is),
)
