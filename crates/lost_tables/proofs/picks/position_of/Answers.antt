-- Where the likely position holds the number it is the one.
use Rattle.lost_tables.proofs.PickLemmas.{it_is_there}
use Rattle.lost_tables.proofs.picks.position_of.Goals as goal

pub returns-in-Some : goal.returns-in-Some
returns-in-Some c =
    it_is_there c.args.number c.args.rows.now.numbers c.requires.rising c.likely_position-likely.result c.in-Some.there c.in-Some.ensures c.if-there-number.true
