use Rattle.std.proofs.Common.{ap, refl}
use Rattle.lost_connections.specs.Noted.{inner_of}
use Rattle.lost_connections.specs.Parts.{replied_of}
use Rattle.lost_connections.proofs.FaultLemmas.{exits_at}
use Rattle.lost_connections.proofs.TakeLemmas.{took_none, took_some, took_last, broke_read, broke_some, broke_last}
use Rattle.lost_connections.proofs.client.Client.take_in.Goals as goal

pub returns-in_err-came-clause-broken : goal.returns-in_err-came-clause-broken
returns-in_err-came-clause-broken g c piece begun =
    exits_at c.from_residual.result _ _ c.from_residual.ensures.1
    (broke_read _ _ _ _ _ piece _ c.in_err-came.ensures.only c.in_err-came.ensures.err c.receive.ensures.rest.begun
    (ap replied_of c.receive.ensures.rest.replies) (ap (λ output. g.O.Write.contents (inner_of output)) c.receive.ensures.rest.output) c.receive.ensures.rest.ended)

pub returns-in-Nothing-clause-taken : goal.returns-in-Nothing-clause-taken
returns-in-Nothing-clause-taken g c piece begun =
    took_none _ _ _ _ _ piece c.receive.new.chunk c.in_ok-came.came begun c.in-Nothing.is c.in_ok-came.ensures.read c.receive.ensures.rest.begun
    (ap replied_of c.receive.ensures.rest.replies) (ap (λ output. g.O.Write.contents (inner_of output)) c.receive.ensures.rest.output) c.receive.ensures.rest.ended
    c.args.self.now.none_begun (λ over. ap (λ input. g.I.Read.remaining (inner_of input)) (c.receive.ensures.ended over))

pub returns-in_ok-answer-in-Bytes-clause-taken : goal.returns-in_ok-answer-in-Bytes-clause-taken
returns-in_ok-answer-in-Bytes-clause-taken g c piece begun =
    took_some _ _ _ _ _ _ piece c.receive.new.chunk c.receive.new.self.begun.items (replied_of c.receive.new.self.replies) _ _ c.in_ok-came.came c.in-Bytes.count begun c.in-Bytes.is
    c.in_ok-came.ensures.read c.in_ok-came.ensures.brought c.receive.ensures.rest.begun (ap replied_of c.receive.ensures.rest.replies)
    (ap (λ output. g.O.Write.contents (inner_of output)) c.receive.ensures.rest.output) c.receive.ensures.rest.ended c.in_ok-answer-in-Bytes.ensures.answers

pub returns-in_err-answer-in-Bytes-clause-broken : goal.returns-in_err-answer-in-Bytes-clause-broken
returns-in_err-answer-in-Bytes-clause-broken g c piece begun =
    exits_at c.from_residual-in_err-answer-in-Bytes.result _ _ c.from_residual-in_err-answer-in-Bytes.ensures.1
    (broke_some _ _ _ _ _ _ piece c.receive.new.chunk c.receive.new.self.begun.items (replied_of c.receive.new.self.replies) _ _ c.in_ok-came.came c.in-Bytes.count _ begun c.in-Bytes.is
    c.in_ok-came.ensures.read c.in_ok-came.ensures.brought c.receive.ensures.rest.begun (ap replied_of c.receive.ensures.rest.replies)
    (ap (λ output. g.O.Write.contents (inner_of output)) c.receive.ensures.rest.output) c.receive.ensures.rest.ended
    c.in_err-answer-in-Bytes.ensures.cause c.in_err-answer-in-Bytes.ensures.front)

pub returns-in_ok-answer_last-in-End-clause-taken : goal.returns-in_ok-answer_last-in-End-clause-taken
returns-in_ok-answer_last-in-End-clause-taken g c piece begun =
    took_last _ _ _ _ _ _ piece c.receive.new.chunk c.receive.new.self.begun.items (replied_of c.receive.new.self.replies) _ c.in_ok-came.came begun c.in-End.is
    c.in_ok-came.ensures.read c.in_ok-came.ensures.brought c.receive.ensures.rest.begun (ap replied_of c.receive.ensures.rest.replies)
    (ap (λ output. g.O.Write.contents (inner_of output)) c.receive.ensures.rest.output) refl c.in_ok-answer_last-in-End.ensures.empty c.in_ok-answer_last-in-End.ensures.answers

pub returns-in_err-answer_last-in-End-clause-broken : goal.returns-in_err-answer_last-in-End-clause-broken
returns-in_err-answer_last-in-End-clause-broken g c piece begun =
    exits_at c.from_residual-in_err-answer_last-in-End.result _ _ c.from_residual-in_err-answer_last-in-End.ensures.1
    (broke_last _ _ _ _ _ _ piece c.receive.new.chunk c.receive.new.self.begun.items (replied_of c.receive.new.self.replies) _ c.in_ok-came.came _ begun c.in-End.is
    c.in_ok-came.ensures.read c.in_ok-came.ensures.brought c.receive.ensures.rest.begun (ap replied_of c.receive.ensures.rest.replies)
    (ap (λ output. g.O.Write.contents (inner_of output)) c.receive.ensures.rest.output) refl
    c.in_err-answer_last-in-End.ensures.cause c.in_err-answer_last-in-End.ensures.front)
