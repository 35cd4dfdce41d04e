-- No region before this one has the outline and the key.
use Rattle.std.proofs.Common.{◌≡◌, false, take, ◌&&◌}
use Rattle.std.specs.List.{list_any}
use Rattle.lost_index.proofs.entry.covers_with.Given as goal

abbrev pub invariant-loop-one : goal.invariant-loop-one
invariant-loop-one g l =
    list_any (λ region. g.P.Outline.PartialEq.eq (g.P.Profile.outline_of region) l.outline && list_any (g.P.Key.PartialEq.eq l.key) (g.P.Profile.cover_of region))
    (take l.one-index l.kept) ≡ false
