use Rattle.std.proofs.Common.{◌≡◌, List, ◌∷◌, ◌++◌, map, length}
use Rattle.json.specs.Json.{Json}
use Rattle.lost_tape.proofs.PrintLemmas.{commas}
use Rattle.lost_tape.proofs.ValueLemmas.{AreOfKind}
use Rattle.lost_tape.proofs.compact_part.read_front_list.Given as goal

abbrev pub invariant-loop-list : goal.invariant-loop-list
invariant-loop-list g l =
    (js : List Json) × (l.initial.text ≡ 91 ∷ (commas js ++ l.rest)) × AreOfKind g.T.CompactPart.DEEP g.T.Part.meant js (map g.T.Part.seen l.list.items)

abbrev pub decreases-loop-list : goal.decreases-loop-list
decreases-loop-list g l = length l.rest
