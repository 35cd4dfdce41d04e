use Rattle.std.proofs.Common.{List, ℕ, [], ◌++◌, sym, subst}
use Rattle.std.proofs.lemmas.Result.{on_ok_weaker}
use Rattle.lost_lines.specs.Cutting.{lines_of}
use Rattle.lost_lines.proofs.CuttingLemmas.{cut-piece}
use Rattle.lost_connections.specs.Begun.{IsBegun}
use Rattle.lost_connections.proofs.BurstLemmas.{split_of, cut_split, ended_split, none_answered, front_of_same, begun_none}
use Rattle.lost_connections.proofs.FaultLemmas.{exits_at, front_none_at, front_behind_at}
use Rattle.lost_connections.proofs.answering.answer.Goals as goal

pub returns-in_default-clause-answers : goal.returns-in_default-clause-answers
returns-in_default-clause-answers g c piece begun =
    on_ok_weaker c.begin.result
    (λ b. record { lines = []; rest = piece ++ c.args.bytes.now; cuts = cut-piece (piece ++ c.args.bytes.now) b.is_open; begun = b; answers = none_answered _ _ _ _ })
    (c.begin.ensures.begun piece begun)

pub returns-in_default-clause-front : goal.returns-in_default-clause-front
returns-in_default-clause-front g c piece begun = front_none_at _ _ _ _ _ c.begin.result c.begin.ensures.cause

pub returns-in_err-answer_lines-clause-front : goal.returns-in_err-answer_lines-clause-front
returns-in_err-answer_lines-clause-front g c piece begun =
    let s = split_of c.args.bytes.now c.split_at.result.0.now c.split_at.result.1.now c.in-Some.end c.in-Some.ensures c.split_at.ensures.front c.split_at.ensures.back in
    exits_at c.from_residual.result _ _ c.from_residual.ensures.1
    (front_of_same _ _ _ _ _ _ _ _ _ (ended_split piece c.args.bytes.now c.split_at.result.0.now c.split_at.result.1.now s) (c.in_err-answer_lines.ensures.front piece begun))

pub begin-requires-2 : goal.begin-requires-2
begin-requires-2 g c =
    let s = split_of c.args.bytes.now c.split_at.result.0.now c.split_at.result.1.now c.in-Some.end c.in-Some.ensures c.split_at.ensures.front c.split_at.ensures.back in
    record { unbroken = s.unbroken }

pub returns-clause-answers : goal.returns-clause-answers
returns-clause-answers g c piece begun =
    let s = split_of c.args.bytes.now c.split_at.result.0.now c.split_at.result.1.now c.in-Some.end c.in-Some.ensures c.split_at.ensures.front c.split_at.ensures.back in
    let none : IsBegun c.answer_lines.new.begun.items [] = subst (λ (l : List ℕ). IsBegun l []) (sym c.in_ok-answer_lines.ensures.empty) begun_none in
    on_ok_weaker c.begin-2.result
    (λ b. record {
      lines = lines_of (piece ++ c.split_at.result.0.now);
      rest = c.split_at.result.1.now;
      cuts = cut_split piece c.args.bytes.now c.split_at.result.0.now c.split_at.result.1.now s;
      begun = b;
      answers = c.in_ok-answer_lines.ensures.answers piece begun;
    })
    (c.begin-2.ensures.begun [] none)

pub returns-clause-front : goal.returns-clause-front
returns-clause-front g c piece begun =
    let s = split_of c.args.bytes.now c.split_at.result.0.now c.split_at.result.1.now c.in-Some.end c.in-Some.ensures c.split_at.ensures.front c.split_at.ensures.back in
    front_behind_at _ _ _ _ (lines_of (piece ++ c.split_at.result.0.now)) _ _ _ c.begin-2.result (ended_split piece c.args.bytes.now c.split_at.result.0.now c.split_at.result.1.now s)
    c.begin-2.ensures.cause (c.in_ok-answer_lines.ensures.answers piece begun)
