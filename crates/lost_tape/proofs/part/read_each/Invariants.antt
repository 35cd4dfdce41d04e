use Rattle.std.proofs.Common.{◌≡◌, map, length}
use Rattle.serde_json.specs.Data.{Items}
use Rattle.lost_reading.specs.Members.{each_of}
use Rattle.lost_tape.specs.Tapes.{HoldsItems}
use Rattle.lost_tape.proofs.PartLemmas.{after}
use Rattle.lost_tape.proofs.part.read_each.Given as goal

abbrev pub invariant-loop-item : goal.invariant-loop-item
invariant-loop-item g l =
    (held : Items) → HoldsItems l.initial.items held → (rest : Items) × HoldsItems l.items rest × (each_of g.T.Part.meant held ≡ after (map g.T.Part.seen l.list.items) (each_of g.T.Part.meant rest))

abbrev pub decreases-loop-item : goal.decreases-loop-item
decreases-loop-item g l = length l.items
