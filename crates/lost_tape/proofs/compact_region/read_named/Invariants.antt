use Rattle.std.proofs.Common.{◌≡◌, List, ◌++◌, Some, length}
use Rattle.serde_json.specs.Data.{no_members}
use Rattle.serde_json.specs.Read.{of_members}
use Rattle.lost_spec.specs.Text.{Text}
use Rattle.lost_writing.specs.Named.{named_members}
use Rattle.lost_tape.specs.Values.{named_texts}
use Rattle.lost_tape.proofs.PrintLemmas.{pair_commas}
use Rattle.lost_tape.proofs.compact_region.read_named.Given as goal

abbrev pub invariant-loop-named : goal.invariant-loop-named
invariant-loop-named l =
    (pairs : List (Text × Text)) × (l.initial.text ≡ pair_commas pairs ++ l.rest) × (of_members (named_texts pairs) no_members ≡ Some (named_members l.named.entries))

abbrev pub decreases-loop-named : goal.decreases-loop-named
decreases-loop-named l = length l.rest
