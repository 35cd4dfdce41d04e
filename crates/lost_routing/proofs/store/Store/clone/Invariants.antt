use Rattle.std.proofs.Common.{◌≡◌, take}
use Rattle.lost_routing.proofs.store.Store.clone.Given as goal

abbrev pub invariant-loop-position : goal.invariant-loop-position
invariant-loop-position l = (l.copy.numbers ≡ take l.position l.self.numbers) × (l.copy.mappings ≡ take l.position l.self.mappings)
