-- The row goes to the end of the last chunk.
use Rattle.lost_index.proofs.ChunkLemmas.{put_last, keep_last, chunks_put_last, chunks_keep_last}
use Rattle.lost_index.proofs.chunks.put_in_last.Goals as goal

pub returns-in-Ok-clause-chunks : goal.returns-in-Ok-clause-chunks
returns-in-Ok-clause-chunks g c =
    chunks_put_last c.args.chunks.now c.index-chunks-last.result c.push.new.self c.requires.some c.args.number c.args.value
    c.requires.chunks c.requires.above c.in-Ok.ensures.items c.in-Ok.ensures.len

pub returns-in-Ok-clause-put : goal.returns-in-Ok-clause-put
returns-in-Ok-clause-put g c =
    put_last c.args.chunks.now c.index-chunks-last.result c.push.new.self c.requires.some (c.args.number, c.args.value) c.in-Ok.ensures.items

pub returns-in-Err-clause-chunks : goal.returns-in-Err-clause-chunks
returns-in-Err-clause-chunks g c =
    chunks_keep_last c.args.chunks.now c.index-chunks-last.result c.push.new.self c.requires.some c.requires.chunks
    c.in-Err.ensures.items c.in-Err.ensures.len

pub returns-in-Err-clause-refused : goal.returns-in-Err-clause-refused
returns-in-Err-clause-refused g c =
    keep_last c.args.chunks.now c.index-chunks-last.result c.push.new.self c.requires.some c.in-Err.ensures.items
