-- The element stands in the chunk of its position, if anywhere.
use Rattle.std.proofs.Common.{◌<◌, ◌/◌, length, sym, arith, rules}
use Rattle.lost_tables.proofs.ChunkLemmas.{got, past_all}
use Rattle.lost_tables.proofs.chunks.get.Goals as goal

pub returns-in-Some : goal.returns-in-Some
returns-in-Some g c =
    let within : c.args.position / 512 < length c.args.chunks.now = search (rules, arith) in
    got c.args.chunks.now c.args.position c.in-Some.chunk.now c.get-in-Some.result c.requires within
    c.in-Some.ensures.lookup.1 c.get-in-Some.ensures.variant c.get-in-Some.ensures.lookup

pub returns-in-None : goal.returns-in-None
returns-in-None g c = sym (past_all c.args.chunks.now c.args.position c.requires c.in-None.ensures.lookup.0)
