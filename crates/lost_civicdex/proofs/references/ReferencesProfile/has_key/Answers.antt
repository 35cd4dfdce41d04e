use Rattle.std.proofs.Common.{◌≡◌, refl, Some, None, ap, ◌∙◌}
use Rattle.lost_civic.specs.Texts.{text_of}
use Rattle.lost_civicdex.specs.contracts.hashed_key.HashedKeyPartialEq.TheImpl.{eq-value}
use Rattle.lost_civicdex.specs.HashedKeys.{hashed}
use Rattle.lost_civicdex.proofs.HasLemmas.{hashed-has}
use Rattle.lost_civicdex.proofs.references.ReferencesProfile.has_key.Goals as goal

pub returns-in-Some : goal.returns-in-Some
returns-in-Some c =
    let key = c.args.key.now in
    let text = c.in-Some.text.now in
    let found : Some text ≡ text_of key.element c.args.region.now = search (c.in-Some.ensures, c.element.ensures) in
    let made : c.new.result ≡ hashed (key.element, text) = c.new.ensures ∙ ap (λ e. hashed (e, text)) c.element-in-Some.ensures in
    c.eq.ensures ∙ ap (eq-value.it key) made ∙ hashed-has eq-value.it (λ hash other. refl) c.args.region.now key (Some text) found

pub returns-in-None : goal.returns-in-None
returns-in-None c =
    hashed-has eq-value.it (λ hash other. refl) c.args.region.now c.args.key.now None (c.in-None.ensures ∙ ap (λ e. text_of e c.args.region.now) c.element.ensures)
