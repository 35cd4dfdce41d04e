use Rattle.std.proofs.Common.{length, ◌-◌}
use Rattle.lost_desks.specs.MapPieces.{IsPiece}
use Rattle.lost_desks.proofs.map_reply.piece_from.Given as goal

-- the lines so far are a piece
abbrev pub invariant-loop-next : goal.invariant-loop-next
invariant-loop-next l = IsPiece l.book.mappings l.from l.next l.text.items

abbrev pub decreases-loop-next : goal.decreases-loop-next
decreases-loop-next l = length l.book.mappings - l.next
