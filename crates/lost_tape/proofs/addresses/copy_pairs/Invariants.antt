use Rattle.std.proofs.Common.{◌≡◌, List, ◌++◌}
use Rattle.lost_civic.specs.Pairs.{seen_pairs}
use Rattle.lost_writing.proofs.NamedLemmas.{Entry}
use Rattle.lost_tape.proofs.MemberLemmas.{seen_entries}
use Rattle.lost_tape.proofs.addresses.copy_pairs.Given as goal

abbrev pub invariant-loop-name : goal.invariant-loop-name
invariant-loop-name l =
    (done : List Entry) × (l.named.entries ≡ done ++ l.name-iterator) × (seen_entries done ≡ seen_pairs l.pairs.items)
