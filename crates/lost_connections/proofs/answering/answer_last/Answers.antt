use Rattle.std.proofs.Common.{◌≡◌, List, ℕ, sym, subst, rules}
use Rattle.std.proofs.lemmas.Result.{on_ok_weaker}
use Rattle.lost_connections.specs.Begun.{IsBegun}
use Rattle.lost_connections.proofs.BurstLemmas.{answers_alone}
use Rattle.lost_connections.proofs.FaultLemmas.{front_alone_at}
use Rattle.lost_connections.proofs.answering.answer_last.Goals as goal

pub returns-clause-answers : goal.returns-clause-answers
returns-clause-answers g c piece begun =
    let seen : c.as_slice.result.now ≡ c.args.begun.now.items = search rules in
    on_ok_weaker c.answer_text-answered.result (answers_alone _ _ _ _ c.as_slice.result.now piece _ _ (subst (λ (l : List ℕ). IsBegun l piece) (sym seen) begun))
    c.answer_text-answered.ensures.answers

pub returns-clause-front : goal.returns-clause-front
returns-clause-front g c piece begun =
    let seen : c.as_slice.result.now ≡ c.args.begun.now.items = search rules in
    front_alone_at _ _ _ _ c.as_slice.result.now piece _ _ c.answer_text-answered.result (subst (λ (l : List ℕ). IsBegun l piece) (sym seen) begun)
    c.answer_text-answered.ensures.front
