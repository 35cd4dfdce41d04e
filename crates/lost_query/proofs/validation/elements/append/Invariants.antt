use Rattle.std.proofs.Common.{◌≡◌, ◌++◌}
use Rattle.lost_query.proofs.validation.elements.append.Given as goal

abbrev pub invariant-loop-name : goal.invariant-loop-name
invariant-loop-name l = l.names.items ++ l.name-iterator ≡ l.fn.names.items ++ l.fn.others.keys
