use Rattle.std.proofs.Common.{drop, filter}
use Rattle.std.specs.Option.{option_copied}
use Rattle.lost_spec.specs.Mapping.{is_live}
use Rattle.lost_query.proofs.HasChildren.{HasChildren}
use Rattle.lost_query.proofs.services.services_below.Given as goal

abbrev pub invariant-loop-position : goal.invariant-loop-position
invariant-loop-position l =
    HasChildren (option_copied l.above) (filter (λ m. is_live m l.moment) (drop l.position l.book.mappings)) l.children
