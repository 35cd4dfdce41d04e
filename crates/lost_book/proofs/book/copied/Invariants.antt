use Rattle.std.proofs.Common.{◌≡◌, take}
use Rattle.lost_book.proofs.book.copied.Given as goal

abbrev pub invariant-loop-mapping : goal.invariant-loop-mapping
invariant-loop-mapping l = l.copy.items ≡ take l.mapping-index l.mappings.items
