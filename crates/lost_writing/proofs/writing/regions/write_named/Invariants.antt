use Rattle.std.proofs.Common.{◌≡◌, List, ◌++◌}
use Rattle.lost_writing.specs.Tokens.{then_members}
use Rattle.lost_writing.specs.Named.{named_members}
use Rattle.lost_writing.proofs.NamedLemmas.{Entry}
use Rattle.lost_writing.proofs.writing.regions.write_named.Given as goal

abbrev pub invariant-loop-name : goal.invariant-loop-name
invariant-loop-name l =
    (done : List Entry) × (l.named.entries ≡ done ++ l.name-iterator) × (l.text ≡ then_members (named_members done) l.initial.text)
