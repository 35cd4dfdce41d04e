-- Where the last chunk is empty the others are full, and hold all elements.
use Rattle.std.proofs.Common.{◌-◌, ap, get_or, ◌∙◌}
use Rattle.lost_tables.proofs.ChunkLemmas.{popped_filled, popped_same, kept_filled}
use Rattle.lost_tables.proofs.chunks.drop_empty.Goals as goal

pub returns-then-is_empty-clause-filled : goal.returns-then-is_empty-clause-filled
returns-then-is_empty-clause-filled g c =
    popped_filled c.args.chunks.now.items c.pop.new.self.items c.args.chunks.now.len c.requires c.args.chunks.now.ok.0 c.pop.ensures.rest

pub returns-then-is_empty-clause-same : goal.returns-then-is_empty-clause-same
returns-then-is_empty-clause-same g c =
    popped_same c.args.chunks.now.items c.pop.new.self.items c.args.chunks.now.len c.index.result.now c.requires c.args.chunks.now.ok.0
    c.pop.ensures.rest (c.index.ensures ∙ ap (λ k. get_or c.args.chunks.now.items (k - 1) c.index.result.now) c.len.ensures) c.if-is_empty.ensures

pub returns-else-is_empty-clause-filled : goal.returns-else-is_empty-clause-filled
returns-else-is_empty-clause-filled g c =
    kept_filled c.args.chunks.now.items c.len.result c.index.result.now c.requires (c.len.ensures ∙ c.args.chunks.now.ok.0)
    c.index.ensures c.if-is_empty.ensures
