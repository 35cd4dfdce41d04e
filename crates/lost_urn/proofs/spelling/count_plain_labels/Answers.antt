use Rattle.std.proofs.Common.{◌∙◌, sym, ap, [], arith}
use Rattle.std.proofs.lemmas.List.{drop_all}
use Rattle.lost_urn.proofs.PlainLemmas.{labels_from, step_letter, step_digit, step_dot, step_hyphen, walked}
use Rattle.lost_urn.proofs.spelling.count_plain_labels.Goals as goal
use Rattle.lost_urn.proofs.spelling.count_plain_labels.Goals.{then-is_ascii_lowercase, else-is_ascii_lowercase+then-byte-eq46+then-not-unfinished, else-is_ascii_lowercase+else-byte-eq46+then-byte-eq45+then-not-unfinished-2, else-is_ascii_lowercase+else-byte-eq46+else-byte-eq45+then-is_ascii_digit}

pub returns : goal.returns
returns c =
    let ended = ap (labels_from c.loop-byte.depth c.loop-byte.unfinished) (drop_all c.loop-byte.byte-index c.args.labels.now c.loop-byte-test.false) in
    walked c.args.labels.now c.loop-byte.depth c.if-labels-gt-MAX_LEN.false c.if-depth-gt-MAX_LABELS.false
    (c.loop-byte.invariant.counted ∙ ended ∙ ap (λ e. labels_from c.loop-byte.depth e []) c.if-unfinished.false)

pub loop-byte-preserved : goal.loop-byte-preserved
loop-byte-preserved c =
    elim c.if-is_ascii_lowercase.branch [
      | then-is_ascii_lowercase w ↦ record {
        counted = c.loop-byte.invariant.counted ∙ step_letter c.args.labels.now c.loop-byte.byte-index c.loop-byte.depth c.if-is_ascii_lowercase.depth c.loop-byte.unfinished c.if-is_ascii_lowercase.unfinished c.loop-byte-test.true (sym c.is_ascii_lowercase.ensures.value ∙ w.if-is_ascii_lowercase.true) w.depth-is w.unfinished-is;
        few = omega arith;
      }
      | else-is_ascii_lowercase+then-byte-eq46+then-not-unfinished w ↦ record {
        counted = c.loop-byte.invariant.counted ∙ step_dot c.args.labels.now c.loop-byte.byte-index c.loop-byte.depth c.if-is_ascii_lowercase.depth c.loop-byte.unfinished c.if-is_ascii_lowercase.unfinished c.loop-byte-test.true w.if-byte-eq46.true w.if-not-unfinished.true w.depth-is w.unfinished-is;
        few = omega arith;
      }
      | else-is_ascii_lowercase+else-byte-eq46+then-byte-eq45+then-not-unfinished-2 w ↦ record {
        counted = c.loop-byte.invariant.counted ∙ step_hyphen c.args.labels.now c.loop-byte.byte-index c.loop-byte.depth c.if-is_ascii_lowercase.depth c.loop-byte.unfinished c.if-is_ascii_lowercase.unfinished c.loop-byte-test.true w.if-byte-eq45.true w.if-not-unfinished-2.true w.depth-is w.unfinished-is;
        few = omega arith;
      }
      | else-is_ascii_lowercase+else-byte-eq46+else-byte-eq45+then-is_ascii_digit w ↦ record {
        counted = c.loop-byte.invariant.counted ∙ step_digit c.args.labels.now c.loop-byte.byte-index c.loop-byte.depth c.if-is_ascii_lowercase.depth c.loop-byte.unfinished c.if-is_ascii_lowercase.unfinished c.loop-byte-test.true (sym w.is_ascii_digit.ensures.value ∙ w.if-is_ascii_digit.true) w.depth-is w.unfinished-is;
        few = omega arith;
      }
    ]
