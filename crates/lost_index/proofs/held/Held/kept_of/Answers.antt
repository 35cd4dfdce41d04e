-- A number that is held is found.
use Rattle.std.proofs.Common.{nat_eq, option_copied, ap, sym, subst, ◌∙◌}
use Rattle.std.specs.Map.{lookup}
use Rattle.lost_index.specs.Chunks.{rows_of}
use Rattle.lost_index.specs.Entries.{IsHeld}
use Rattle.lost_index.proofs.EntryLemmas.{held_found}
use Rattle.lost_index.proofs.held.Held.kept_of.Goals as goal

pub unreachable-requires : goal.unreachable-requires
unreachable-requires g c =
    held_found c.args.number (rows_of c.self.inside.chunks.items) (subst (IsHeld c.args.number) (sym c.self.view_is) c.requires)
    (sym (ap option_copied c.in-None.is) ∙ c.get.ensures ∙ ap (λ chunks. lookup (nat_eq c.args.number) (rows_of chunks)) c.deref.ensures.value)
