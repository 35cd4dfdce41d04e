use Rattle.std.proofs.Common.{◌≡◌, ◌++◌, [], List, ℕ, subst, sym, ◌∙◌, eqb-true, rules}
use Rattle.std.proofs.lemmas.List.{nil_from_length}
use Rattle.std.proofs.lemmas.Result.{on_ok_weaker}
use Rattle.lost_connections.specs.Begun.{IsBegun}
use Rattle.lost_connections.proofs.BurstLemmas.{answers_whole, front_none}
use Rattle.lost_connections.proofs.FaultLemmas.{front_whole_at}
use Rattle.lost_connections.proofs.answering.answer_lines.Goals as goal

pub returns-then-is_empty-clause-answers : goal.returns-then-is_empty-clause-answers
returns-then-is_empty-clause-answers g c piece begun =
    let seen : c.args.begun.now.items ≡ c.as_slice.result.now = search rules in
    let none : c.args.begun.now.items ≡ [] = seen ∙ nil_from_length c.as_slice.result.now (eqb-true _ 0 (sym c.is_empty.ensures ∙ c.if-is_empty.true)) in
    on_ok_weaker c.answer_text.result (answers_whole _ _ _ _ [] piece c.args.lines.now _ _ (subst (λ (l : List ℕ). IsBegun l piece) none begun)) c.answer_text.ensures.answers

pub returns-then-is_empty-clause-front : goal.returns-then-is_empty-clause-front
returns-then-is_empty-clause-front g c piece begun =
    let seen : c.args.begun.now.items ≡ c.as_slice.result.now = search rules in
    let none : c.args.begun.now.items ≡ [] = seen ∙ nil_from_length c.as_slice.result.now (eqb-true _ 0 (sym c.is_empty.ensures ∙ c.if-is_empty.true)) in
    front_whole_at _ _ _ _ [] piece c.args.lines.now _ _ c.answer_text.result (subst (λ (l : List ℕ). IsBegun l piece) none begun) c.answer_text.ensures.front

pub returns-then-is_err-clause-front : goal.returns-then-is_err-clause-front
returns-then-is_err-clause-front g c piece begun = front_none _ _ _ _ _

pub returns-clause-answers : goal.returns-clause-answers
returns-clause-answers g c piece begun =
    let grown : c.as_slice-2.result.now ≡ c.args.begun.now.items ++ c.args.lines.now = search rules in
    on_ok_weaker c.answer_text-answered.result (λ answers. answers_whole _ _ _ _ c.args.begun.now.items piece c.args.lines.now _ _ begun (rw grown at answers))
    c.answer_text-answered.ensures.answers

pub returns-clause-front : goal.returns-clause-front
returns-clause-front g c piece begun =
    let grown : c.as_slice-2.result.now ≡ c.args.begun.now.items ++ c.args.lines.now = search rules in
    front_whole_at _ _ _ _ c.args.begun.now.items piece c.args.lines.now _ _ c.answer_text-answered.result begun (rw grown at c.answer_text-answered.ensures.front)
