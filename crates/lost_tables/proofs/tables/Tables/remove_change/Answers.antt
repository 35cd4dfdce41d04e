-- Each of the four maps keeps the other numbers, and this one where the mapping that stays is known by it.
use Rattle.std.specs.Option.{option_copied}
use Rattle.lost_tables.proofs.TableLemmas.{keeps_others, still_noted, at_most_as}
use Rattle.lost_tables.proofs.tables.Tables.remove_change.Goals as goal

pub returns-clause-others : goal.returns-clause-others
returns-clause-others c =
    keeps_others c.args.self.now
    (record { alloc = c.args.self.now.alloc; identities = c.unlist.new.lists; keys = c.unlist-2.new.lists; services = c.unlist-3.new.lists; defaults = c.unlist-4.new.lists })
    c.args.number c.unlist.ensures.others c.unlist-2.ensures.others c.unlist-3.ensures.others c.unlist-4.ensures.others

pub returns-clause-remaining : goal.returns-clause-remaining
returns-clause-remaining c =
    still_noted c.args.self.now _ c.args.remaining.now c.args.number c.identity-same.result.now (option_copied c.key-2.result) c.text-kept.result.now (option_copied c.default_text-2.result)
    c.identity-same.ensures c.key-2.ensures.key (rw (← c.service-2.ensures) c.text-kept.ensures.text) c.default_text-2.ensures
    c.unlist.ensures.remaining c.unlist-2.ensures.remaining c.unlist-3.ensures.remaining c.unlist-4.ensures.remaining

pub returns-clause-gone : goal.returns-clause-gone
returns-clause-gone c =
    at_most_as _ c.args.remaining.now c.args.gone.now c.args.number c.identity-identity.result.now c.identity-same.result.now (option_copied c.key.result) (option_copied c.key-2.result)
    c.text-service.result.now c.text-kept.result.now (option_copied c.default_text.result) (option_copied c.default_text-2.result)
    c.identity-identity.ensures c.identity-same.ensures c.key.ensures.key c.key-2.ensures.key
    (rw (← c.service.ensures) c.text-service.ensures.text) (rw (← c.service-2.ensures) c.text-kept.ensures.text) c.default_text.ensures c.default_text-2.ensures
    c.unlist.ensures.gone c.unlist-2.ensures.gone c.unlist-3.ensures.gone c.unlist-4.ensures.gone
