-- Each pull moves on what lacks one, up to the last chunk.
use Rattle.std.proofs.Common.{◌≡◌, ◌-◌, length, refl, subst, arith, ◌∙◌}
use Rattle.lost_tables.specs.Chunks.{LacksAt}
use Rattle.lost_tables.proofs.ChunkLemmas.{lacks_within}
use Rattle.lost_tables.proofs.chunks.close_up.Goals as goal

pub loop-lacking-init : goal.loop-lacking-init
loop-lacking-init g c = (c.requires, refl)

pub pull-requires-clause-lacks : goal.pull-requires-clause-lacks
pull-requires-clause-lacks g c = c.loop-lacking.invariant.0

pub loop-lacking-preserved : goal.loop-lacking-preserved
loop-lacking-preserved g c = (c.pull.ensures.lacks, c.pull.ensures.same ∙ c.loop-lacking.invariant.1)

pub returns-clause-lacks : goal.returns-clause-lacks
returns-clause-lacks g c =
    let inside = lacks_within c.loop-lacking.chunks c.loop-lacking.lacking c.loop-lacking.invariant.0 in
    let here : c.loop-lacking.lacking ≡ length c.loop-lacking.chunks - 1 =
    let kept = c.loop-lacking.auto.chunks in let past = c.loop-lacking-test.false in omega (arith, kept, past, inside) in
    subst (λ n. LacksAt n c.loop-lacking.chunks) here c.loop-lacking.invariant.0

pub returns-clause-same : goal.returns-clause-same
returns-clause-same g c = c.loop-lacking.invariant.1
