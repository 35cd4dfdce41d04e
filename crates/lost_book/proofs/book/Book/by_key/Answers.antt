use Rattle.lost_spec.specs.Services.{has_live_key, by_key}
use Rattle.lost_book.proofs.PositionLemmas.{find_at_position}
use Rattle.lost_book.proofs.book.Book.by_key.Goals as goal

pub returns-clause-mapping : goal.returns-clause-mapping
unfolding by_key
returns-clause-mapping c = find_at_position (has_live_key c.args.moment.now c.args.key.now) c.args.self.now.mappings _ (rw c.mappings.ensures at c.position_of_live_key.ensures)
