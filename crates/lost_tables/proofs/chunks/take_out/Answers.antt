-- An element stands in the chunk of its position, and is taken out of the list with it.
use Rattle.std.proofs.Common.{◌/◌, get_or}
use Rattle.std.proofs.lemmas.Bool.{false≢true}
use Rattle.lost_tables.proofs.ChunkLemmas.{room_after, row_within, spot_within, lacks_set, removed, value_there}
use Rattle.lost_tables.proofs.chunks.take_out.Goals as goal

pub bounds-chunks-position : goal.bounds-chunks-position
bounds-chunks-position g c = row_within c.args.chunks.now c.args.position c.requires.filled c.requires.within

pub unreachable-requires : goal.unreachable-requires
unreachable-requires g c =
    false≢true (c.in-None.ensures.variant.1
    (spot_within c.args.chunks.now c.args.position c.index-chunks-position.result c.requires.filled c.requires.within))

pub returns-clause-lacks : goal.returns-clause-lacks
returns-clause-lacks g c =
    lacks_set c.args.chunks.now (c.args.position / 512) c.index-chunks-position.result c.remove.new.self c.requires.filled
    (row_within c.args.chunks.now c.args.position c.requires.filled c.requires.within) c.in-Some.ensures.len
    (room_after (get_or c.args.chunks.now (c.args.position / 512) c.index-chunks-position.result) c.remove.new.self c.in-Some.ensures.len c.remove.ensures.capacity)

pub returns-clause-value : goal.returns-clause-value
returns-clause-value g c =
    value_there c.args.chunks.now c.args.position c.index-chunks-position.result c.in-Some.element c.requires.filled c.requires.within
    c.in-Some.ensures.value

pub returns-clause-rest : goal.returns-clause-rest
returns-clause-rest g c =
    removed c.args.chunks.now c.args.position c.index-chunks-position.result c.remove.new.self c.requires.filled c.requires.within
    c.in-Some.ensures.items
