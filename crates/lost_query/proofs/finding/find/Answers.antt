-- The first service of the chain with holders is found, else the first with defaults, else nothing.
use Rattle.std.proofs.Common.{None, sym, ap, ◌∙◌}
use Rattle.lost_spec.specs.Service.{chain}
use Rattle.lost_spec.specs.Find.{defaults, first_with, finding, found}
use Rattle.lost_query.specs.Finding.{first_of}
use Rattle.lost_query.proofs.finding.find.Goals as goal

pub returns-in-Some : goal.returns-in-Some
unfolding found
returns-in-Some g c =
    ap (λ holders. finding holders (first_with (defaults (g.H.Holdings.book c.args.holdings.now) c.args.moment.now) (chain c.args.service.now)))
    (sym (ap first_of c.in-Some.is) ∙ c.in_ok-service.ensures)

pub returns-in-Some-2 : goal.returns-in-Some-2
unfolding found
returns-in-Some-2 g c =
    ap (λ standbys. finding None standbys) (sym (ap first_of c.in-Some-2.is) ∙ c.in_ok-service-2.ensures)
    ∙ ap (λ holders. finding holders (first_with (defaults (g.H.Holdings.book c.args.holdings.now) c.args.moment.now) (chain c.args.service.now)))
    (sym (ap first_of c.in_default.is) ∙ c.in_ok-service.ensures)

pub returns : goal.returns
unfolding found
returns g c =
    ap (λ standbys. finding None standbys) (sym (ap first_of c.in_default-2.is) ∙ c.in_ok-service-2.ensures)
    ∙ ap (λ holders. finding holders (first_with (defaults (g.H.Holdings.book c.args.holdings.now) c.args.moment.now) (chain c.args.service.now)))
    (sym (ap first_of c.in_default.is) ∙ c.in_ok-service.ensures)
