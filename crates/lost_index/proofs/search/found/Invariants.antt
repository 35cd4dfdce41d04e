-- What was found under the probes so far, but for those of other kinds.
use Rattle.std.proofs.Common.{◌≡◌, take, filter}
use Rattle.std.specs.HashMap.{get}
use Rattle.std.specs.List.{flat_map}
use Rattle.lost_index.specs.Kinds.{has_kind}
use Rattle.lost_index.specs.Notes.{notes_of, numbers_near}
use Rattle.lost_index.proofs.search.found.Given as goal

abbrev pub invariant-loop-key : goal.invariant-loop-key
invariant-loop-key g l = record {
  found : l.found.items ≡ flat_map (λ key. numbers_near (λ outline. g.P.Profile.may_hold outline l.location)
      (notes_of (get g.P.Key.PartialEq.eq l.cells key))) (filter (λ key. has_kind l.kinds (g.P.Profile.kind_of key)) (take l.key-index l.key-items));
  is_location : g.P.Profile.is_location l.location;
}
