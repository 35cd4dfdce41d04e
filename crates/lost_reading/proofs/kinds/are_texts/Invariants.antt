use Rattle.std.proofs.Common.{◌≡◌, List, ◌++◌, Some}
use Rattle.serde_json.specs.View.{members_view}
use Rattle.serde_json.proofs.Views.{Entry}
use Rattle.lost_spec.specs.Civic.{Pairs}
use Rattle.lost_reading.specs.Members.{pairs_of}
use Rattle.lost_reading.proofs.kinds.are_texts.Given as goal

abbrev pub invariant-loop-name : goal.invariant-loop-name
invariant-loop-name l =
    (done : List Entry) × (l.members.entries ≡ done ++ l._name-iterator) × (pairs : Pairs) × (pairs_of (members_view done) ≡ Some pairs)
