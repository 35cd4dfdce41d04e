use Rattle.std.proofs.Common.{map, rules, sym, ap, ◌∙◌, arith}
use borrow.Author.Tests.{tests}
use Rattle.std.proofs.lemmas.List.{map-append, length-append}
use Rattle.std.proofs.lemmas.Result.{err_from_is_err_and}
use Rattle.lost_urn.proofs.RunLemmas.{part_is_next, parts_are_all}
use Rattle.lost_spec.specs.Text.{lowered}
use Rattle.lost_spec.specs.Service.{label_fault}
use Rattle.lost_urn.proofs.FaultLemmas.{no_fault_more}
use Rattle.lost_urn.proofs.SpellingLemmas.{raw_fault, label_refused, count_refused, not_refused, length-parts}
use Rattle.lost_urn.proofs.spelling.check_labels.Goals as goal

pub returns-in_err-check_label-clause-refusal : goal.returns-in_err-check_label-clause-refusal
returns-in_err-check_label-clause-refusal c =
    let p = err_from_is_err_and c.from_residual.result c.from_residual.ensures.1 in
    let next = part_is_next _ _ c.args.labels.now c.loop-label.yielded _ _ _ c.loop-label.yielded_by _ c.next.ensures.steps (λ b answer q h. search (rules, tests)) (search rules) (search rules) (search rules) c.in-Some.label c.in-Some.is in
    let passed = ap raw_fault (sym next.0) ∙ c.loop-label.invariant.no_fault in
    rw (p.1, p.2) (label_refused c.args.labels.now c.in-Some.label.now _ _ next.1 next.2 passed c.in_err-check_label.ensures)

pub loop-label-preserved : goal.loop-label-preserved
loop-label-preserved c = record {
  no_fault = rw map-append (no_fault_more (λ l. label_fault (lowered l)) (map (λ x. x.now) c.loop-label.yielded) c.in-Some.label.now c.loop-label.invariant.no_fault c.in_ok-check_label.ensures);
  counted = simp length-append (omega arith);
}

pub returns-then-depth-gt-MAX_LABELS-clause-refusal : goal.returns-then-depth-gt-MAX_LABELS-clause-refusal
returns-then-depth-gt-MAX_LABELS-clause-refusal c =
    let end = parts_are_all _ _ c.args.labels.now c.loop-label.yielded _ _ _ c.loop-label.yielded_by _ c.next.ensures.steps (λ b answer q h. search (rules, tests)) (search rules) (search rules) (search rules) c.in-None.is in
    count_refused c.args.labels.now c.loop-label.depth (ap raw_fault (sym end.0) ∙ c.loop-label.invariant.no_fault) (c.loop-label.invariant.counted ∙ end.1) c.if-depth-gt-MAX_LABELS.true

pub returns : goal.returns
returns c =
    let end = parts_are_all _ _ c.args.labels.now c.loop-label.yielded _ _ _ c.loop-label.yielded_by _ c.next.ensures.steps (λ b answer q h. search (rules, tests)) (search rules) (search rules) (search rules) c.in-None.is in
    let counted = c.loop-label.invariant.counted ∙ end.1 in
    record {
      refusal = not_refused c.args.labels.now c.loop-label.depth (ap raw_fault (sym end.0) ∙ c.loop-label.invariant.no_fault) counted c.if-depth-gt-MAX_LABELS.false;
      counted = counted ∙ sym (length-parts c.args.labels.now);
    }
