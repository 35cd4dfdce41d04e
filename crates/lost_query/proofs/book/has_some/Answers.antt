use Rattle.std.proofs.Common.{◌∙◌, ◌<◌, length, refl, sym, arith}
use Rattle.std.proofs.lemmas.Fn.{says_at}
use Rattle.lost_query.proofs.SomeLemmas.{some_at, none_more}
use Rattle.lost_query.proofs.book.has_some.Goals as goal

pub returns-then-passes : goal.returns-then-passes
returns-then-passes g c = λ test is.
    let ms = c.args.book.now.mappings in
    let within : c.loop-position.position < length ms = omega arith in
    let tested = sym (is _ _ (says_at g.F.Fn c.passes.ensures refl)) ∙ c.if-passes.true in
    sym (some_at test ms c.loop-position.position c.mapping.result.now within c.mapping.ensures tested)

pub loop-position-preserved : goal.loop-position-preserved
loop-position-preserved g c = λ test is.
    let ms = c.args.book.now.mappings in
    let within : c.loop-position.position < length ms = omega arith in
    let tested = sym (is _ _ (says_at g.F.Fn c.passes.ensures refl)) ∙ c.if-passes.false in
    none_more test ms c.loop-position.position c.mapping.result.now within c.mapping.ensures (c.loop-position.invariant test is) tested
