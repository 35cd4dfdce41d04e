-- Each of the four maps keeps the other numbers, and gives up this one.
use Rattle.std.specs.Option.{option_copied}
use Rattle.lost_tables.proofs.TableLemmas.{keeps_others, nowhere}
use Rattle.lost_tables.proofs.tables.Tables.remove_mapping.Goals as goal

pub returns-clause-others : goal.returns-clause-others
returns-clause-others c =
    keeps_others c.args.self.now
    (record { alloc = c.args.self.now.alloc; identities = c.unlist.new.lists; keys = c.unlist-2.new.lists; services = c.unlist-3.new.lists; defaults = c.unlist-4.new.lists })
    c.args.number c.unlist.ensures.others c.unlist-2.ensures.others c.unlist-3.ensures.others c.unlist-4.ensures.others

pub returns-clause-gone : goal.returns-clause-gone
returns-clause-gone c =
    nowhere _ c.args.mapping.now c.args.number c.identity.result.now (option_copied c.key.result) c.text-service.result.now (option_copied c.default_text.result)
    c.identity.ensures c.key.ensures.key (rw (← c.service.ensures) c.text-service.ensures.text) c.default_text.ensures
    c.unlist.ensures.gone c.unlist-2.ensures.gone c.unlist-3.ensures.gone c.unlist-4.ensures.gone
