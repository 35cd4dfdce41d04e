use Rattle.std.proofs.Common.{◌≡◌, ℕ, List, [], ◌∷◌, ◌++◌, All, refl, ap, sym, subst, ◌∙◌}
use Rattle.std.specs.Io.KnownBytes.{Appends, Consumes}
use Rattle.std.proofs.lemmas.List.Elements.{All-nil, All-cons, All-same}
use Rattle.http_server.specs.Connection.{config_of, history}
use Rattle.http_server.specs.Exchange.{Call, Chain}
use Rattle.http_server.specs.History.{History}
use Rattle.http_server.proofs.Theorems.{always_served}
use Rattle.lost_status.specs.declared.snapshot.Snapshot.{Snapshot}
use Rattle.lost_status.specs.Answered.{Answers, IsAnswerTo, IsNarrow}
use Rattle.lost_status.proofs.serving.serve_status.Goals as goal

-- each call of a chain of answers is answered by the numbers that the service began with
each_answers : {S : Type 0} (shows : S → Snapshot) (now : Snapshot) (calls : List Call) (old new : S) → shows old ≡ now
    → Chain (λ a request response b. Answers (shows a) (shows b) request response) old calls new
    → All (λ call. IsAnswerTo now call.0 call.1) calls
each_answers shows now [] old new is chain = All-nil (λ (call : Call). IsAnswerTo now call.0 call.1)
each_answers shows now (call ∷ calls) old new is chain =
    All-cons (λ (k : Call). IsAnswerTo now k.0 k.1) call calls
    (subst (λ (n : Snapshot). IsAnswerTo n call.0 call.1) is chain.1.answer)
    (each_answers shows now calls chain.0 new (chain.1.same ∙ is) chain.2)

pub returns : goal.returns
returns g c =
    let before = c.new-connection.ensures.history in
    let read = c.serve-outcome.ensures.read in
    let written = c.serve-outcome.ensures.written in
    let calls = c.serve-outcome.ensures.calls in
    let came = read.2 ∙ ap (λ (h : History). h.received ++ read.0) before in
    let went = written.2 ∙ ap (λ (h : History). h.sent ++ written.0) before in
    let called = calls.1 ∙ ap (λ (h : History). h.calls ++ calls.0) before in
    record {
      config = config_of c.serve-outcome.new.connection;
      narrow = subst IsNarrow (sym (c.serve-outcome.ensures.config ∙ c.new-connection.ensures.config)) c.narrow.ensures;
      history = history c.serve-outcome.new.connection;
      served = always_served c.serve-outcome.new.connection;
      answers = All-same (λ (call : Call). IsAnswerTo c.args.now.now call.0 call.1) _ calls.0 called (each_answers (λ pages. pages.now.now) c.args.now.now calls.0 _ _ refl calls.2);
      input = subst (Consumes (g.I.Read.remaining c.args.input.now) (g.I.Read.remaining c.serve-outcome.new.reader)) (sym came) read.1;
      output = subst (Appends (g.O.Write.contents c.args.output.now) (g.O.Write.contents c.serve-outcome.new.writer)) (sym went) written.1;
    }
