-- What the closure answers of the thing there decides.
use Rattle.std.proofs.Common.{refl, sym, ◌∙◌}
use Rattle.std.proofs.lemmas.Fn.{says_at}
use Rattle.lost_tables.proofs.PickLemmas.{passing_is}
use Rattle.lost_tables.proofs.picks.passing_position.Goals as goal

pub returns-then-passes : goal.returns-then-passes
returns-then-passes g c = λ test is.
    sym (passing_is test c.args.rows.now.numbers c.args.rows.now.mappings c.args.number c.in_ok-position.position c.at.result.now _
    c.are_paired.ensures c.in_ok-position.ensures c.at.ensures (sym c.if-passes.true ∙ is _ _ (says_at g.F.Fn c.passes.ensures refl)))

pub returns-else-passes : goal.returns-else-passes
returns-else-passes g c = λ test is.
    sym (passing_is test c.args.rows.now.numbers c.args.rows.now.mappings c.args.number c.in_ok-position.position c.at.result.now _
    c.are_paired.ensures c.in_ok-position.ensures c.at.ensures (sym c.if-passes.false ∙ is _ _ (says_at g.F.Fn c.passes.ensures refl)))
