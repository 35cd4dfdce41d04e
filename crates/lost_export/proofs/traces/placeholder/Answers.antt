use Rattle.std.proofs.Common.{sym, ap, ◌∙◌, subst}
use Rattle.lost_spec.specs.Mapping.{Mapping}
use Rattle.lost_spec.specs.Book.{identity_of}
use Rattle.lost_mapping.specs.Parts.{parts_of}
use Rattle.lost_export.specs.ReadBack.{IsBuilt}
use Rattle.lost_export.proofs.PlaceholderLemmas.{identity_is, key_is, stamp_is, placeholder_built}
use Rattle.lost_export.proofs.traces.placeholder.Goals as goal

pub returns-in-Ok-clause-identity : goal.returns-in-Ok-clause-identity
returns-in-Ok-clause-identity c = ap identity_of (c.in-Ok.ensures.mapping ∙ c.in_ok-parts.ensures.mapping) ∙ identity_is c.args.identity.now

pub returns-in-Ok-clause-no_key : goal.returns-in-Ok-clause-no_key
returns-in-Ok-clause-no_key c = ap (λ (m : Mapping). m.key) (c.in-Ok.ensures.mapping ∙ c.in_ok-parts.ensures.mapping) ∙ key_is c.args.identity.now

pub returns-in-Ok-clause-stamp : goal.returns-in-Ok-clause-stamp
returns-in-Ok-clause-stamp c = ap (λ (m : Mapping). m.stamp) (c.in-Ok.ensures.mapping ∙ c.in_ok-parts.ensures.mapping) ∙ stamp_is c.args.identity.now

pub returns-in-Ok-clause-is_built : goal.returns-in-Ok-clause-is_built
returns-in-Ok-clause-is_built c =
    let built = placeholder_built c.args.identity.now (parts_of c.in_ok-parts.parts) c.in_ok-parts.ensures.accepted c.in_ok-parts.ensures.mapping in
    subst IsBuilt (sym (c.in-Ok.ensures.mapping ∙ c.in_ok-parts.ensures.mapping)) built
