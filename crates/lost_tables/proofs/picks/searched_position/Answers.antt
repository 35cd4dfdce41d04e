-- What is not where the lower numbers end is nowhere.
use Rattle.std.proofs.Common.{sym, ◌∙◌}
use Rattle.lost_tables.proofs.PickLemmas.{it_is_there, other_there, none_there, none_below_start, above_length}
use Rattle.lost_tables.proofs.picks.searched_position.Goals as goal

pub returns-in-Some : goal.returns-in-Some
returns-in-Some c =
    it_is_there c.args.number c.args.rows.now.numbers c.requires.rising c.halved-found.result c.in-Some.there c.in-Some.ensures c.if-there-number.true

pub returns-in_default : goal.returns-in_default
returns-in_default c =
    other_there c.args.number c.args.rows.now.numbers c.requires.rising c.halved-found.result c.in-Some.there
    (c.halved-found.ensures.below (none_below_start c.args.number c.args.rows.now.numbers c.requires.rising))
    (c.halved-found.ensures.above (rw c.len.ensures.numbers (above_length c.args.number c.args.rows.now.numbers c.requires.rising)))
    c.in-Some.ensures c.if-there-number.false

pub returns-in_default-2 : goal.returns-in_default-2
returns-in_default-2 c =
    none_there c.args.number c.args.rows.now.numbers c.requires.rising c.halved-found.result
    (c.halved-found.ensures.below (none_below_start c.args.number c.args.rows.now.numbers c.requires.rising))
    (c.halved-found.ensures.above (rw c.len.ensures.numbers (above_length c.args.number c.args.rows.now.numbers c.requires.rising)))
    (sym c.in_default.is ∙ c.number.ensures)
