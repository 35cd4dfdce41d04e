use Rattle.std.proofs.Common.{◌++◌, length, take}
use Rattle.std.specs.List.{flat_map}
use Rattle.lost_digest.specs.Bytes.{count_bytes}
use Rattle.lost_digest.specs.Digest.{Takes}
use Rattle.lost_digest.proofs.pieces.feed_list.Given as goal

-- the hasher has taken the count and the items so far
abbrev pub invariant-loop-item : goal.invariant-loop-item
invariant-loop-item g l = Takes l.fn.hasher l.hasher (count_bytes (length l.items) ++ flat_map g.T.Piece.bytes (take l.item-index l.items))
