use Rattle.std.proofs.Common.{◌≡◌, ◌∙◌, ap, sym, subst, IfOk}
use Rattle.lost_mapping.specs.Reply.{reply_of}
use Rattle.lost_spec.specs.Find.{FoundDefaults}
use Rattle.lost_query.specs.Finding.{finding_of, mappings_of}
use Rattle.lost_query.specs.Ask.{asked_reply}
use Rattle.lost_query.proofs.find_service.find_service.Goals as goal

pub returns-in-Defaults : goal.returns-in-Defaults
returns-in-Defaults g c =
    let b = g.H.Holdings.book c.args.holdings.now in
    let t = c.args.moment.now in
    subst (λ finding. IfOk c.reply_with_defaults.result (λ reply. reply_of reply ≡ asked_reply b t c.args.ask.now c.args.path.now finding))
    (ap (λ s. FoundDefaults s (mappings_of c.in-Defaults.found)) c.service-in-Defaults.ensures ∙ ap finding_of (sym c.in-Defaults.is) ∙ c.in_ok-service.ensures) (c.reply_with_defaults.ensures t)
