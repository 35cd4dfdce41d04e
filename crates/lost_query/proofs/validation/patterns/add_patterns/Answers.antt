use Rattle.std.proofs.Common.{◌≡◌, ◌∙◌, ◌<◌, None, Bor, map, length, refl, sym, subst}
use Rattle.std.specs.List.{AllByRecursion}
use Rattle.std.proofs.lemmas.Fn.{says_at}
use Rattle.lost_spec.specs.Civic.{Pairs, pattern_fault}
use Rattle.lost_spec.proofs.BookLemmas.{AllByRecursion_push}
use Rattle.lost_query.proofs.PatternLemmas.{seen_push, filter_more_passes, filter_more_fails, filter_all}
use Rattle.lost_query.proofs.validation.patterns.add_patterns.Goals as goal
use Rattle.lost_query.proofs.validation.patterns.add_patterns.Goals.{then-passes+in_ok-push, else-passes}

pub loop-pattern-preserved : goal.loop-pattern-preserved
loop-pattern-preserved g c =
    let seen = map (λ (p : Bor Pairs). p.now) in
    let lawful : Pairs → Type 0 = λ p. pattern_fault p ≡ None in
    let before = seen c.args.patterns.now.items in
    let old = c.loop-pattern.patterns.items in
    let list = c.patterns-pattern-items.result.now in
    let i = c.loop-pattern.pattern-index in
    let x = c.pattern-item.result in
    let within : i < length list = c.loop-pattern-test.true in
    elim c.if-passes.branch [
      | then-passes+in_ok-push w ↦
          let pushed = seen_push old w.push.new.self.items _ w.in_ok-push.ensures.items in
          rw w.patterns-is (
            λ test is. filter_more_passes test before list i x within c.pattern-item.is (seen old) (c.loop-pattern.invariant.0 test is) (seen w.push.new.self.items) (sym (is _ _ (says_at g.F.Fn c.passes.ensures refl)) ∙ w.if-passes.true) pushed,
            λ all. subst (AllByRecursion lawful) (sym pushed) (AllByRecursion_push lawful (seen old) x (c.loop-pattern.invariant.1 all) c.pairs-pairs.ensures.lawful),
          )
      | else-passes w ↦
          rw w.patterns-is (λ test is. filter_more_fails test before list i x within c.pattern-item.is (seen old) (c.loop-pattern.invariant.0 test is) (sym (is _ _ (says_at g.F.Fn c.passes.ensures refl)) ∙ w.if-passes.false), c.loop-pattern.invariant.1)
    ]

pub returns-clause-added : goal.returns-clause-added
returns-clause-added g c = λ test is.
    filter_all test (map (λ (p : Bor Pairs). p.now) c.args.patterns.now.items) c.patterns-pattern-items.result.now c.args.mapping.now.regions.patterns c.loop-pattern.pattern-index (map (λ (p : Bor Pairs). p.now) c.loop-pattern.patterns.items) c.loop-pattern-test.false c.patterns-pattern-items.ensures (c.loop-pattern.invariant.0 test is)
