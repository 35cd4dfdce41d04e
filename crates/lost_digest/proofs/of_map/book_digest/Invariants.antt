use Rattle.std.proofs.Common.{◌≡◌, take}
use Rattle.lost_digest.specs.Digest.{map_digest}
use Rattle.lost_digest.proofs.of_map.book_digest.Given as goal

-- the digest is that of the mappings so far
abbrev pub invariant-loop-position : goal.invariant-loop-position
invariant-loop-position g l = l.digest ≡ map_digest (take l.position (g.H.Holdings.book l.book).mappings)
