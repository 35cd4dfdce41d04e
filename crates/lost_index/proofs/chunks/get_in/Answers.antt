-- The number stands at its place or nowhere.
use Rattle.std.proofs.Common.{◌<◌, length, arith, rules}
use Rattle.lost_index.proofs.RisingLemmas.{found_there, not_found_past, not_found_beside}
use Rattle.lost_index.proofs.chunks.get_in.Goals as goal

pub returns-in_default : goal.returns-in_default
returns-in_default g c =
    not_found_past c.args.number c.args.chunk.now c.place_in.result c.place_in.ensures.0 c.in_default.ensures.lookup.0

pub returns-then-row-number : goal.returns-then-row-number
returns-then-row-number g c =
    let within : c.place_in.result < length c.args.chunk.now = search (rules, arith) in
    found_there c.args.number c.args.chunk.now c.place_in.result c.in-Some.row.now c.place_in.ensures.0 within c.in-Some.ensures.lookup.1 c.if-row-number.true

pub returns-else-row-number : goal.returns-else-row-number
returns-else-row-number g c =
    let within : c.place_in.result < length c.args.chunk.now = search (rules, arith) in
    not_found_beside c.args.number c.args.chunk.now c.place_in.result c.in-Some.row.now c.requires c.place_in.ensures.0 c.place_in.ensures.1 within
    c.in-Some.ensures.lookup.1 c.if-row-number.false
