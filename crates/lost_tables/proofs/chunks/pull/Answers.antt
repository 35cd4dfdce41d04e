-- The first element of the next chunk goes to the end of the one that lacks one.
use Rattle.std.proofs.Common.{arith}
use Rattle.lost_tables.proofs.ChunkLemmas.{room_to_pull, pulls_some, lacks_after, same_after}
use Rattle.lost_tables.proofs.chunks.pull.Goals as goal

pub push_back_reserved-requires : goal.push_back_reserved-requires
push_back_reserved-requires g c =
    room_to_pull c.args.chunks.now c.args.row c.index-chunks-row-in-Some.result c.pop_front.new.self c.requires.lacks c.requires.within

pub unreachable-requires : goal.unreachable-requires
unreachable-requires g c =
    let some = pulls_some c.args.chunks.now c.args.row c.index-chunks-row.result c.requires.lacks c.requires.within in
    let none = c.in-None.ensures.cases.0 in omega (arith, some, none)

pub returns-clause-lacks : goal.returns-clause-lacks
returns-clause-lacks g c =
    lacks_after c.args.chunks.now c.args.row c.index-chunks-row-in-Some.result c.index-chunks-row.result c.push_back_reserved.new.self
    c.pop_front.new.self c.requires.lacks c.requires.within c.push_back_reserved.ensures.len c.in-Some.ensures.cases c.pop_front.ensures.capacity

pub returns-clause-same : goal.returns-clause-same
returns-clause-same g c =
    same_after c.args.chunks.now c.args.row c.index-chunks-row-in-Some.result c.index-chunks-row.result c.push_back_reserved.new.self
    c.pop_front.new.self c.in-Some.first c.requires.within c.push_back_reserved.ensures.items c.in-Some.ensures.items
