use Rattle.std.proofs.Common.{◌≡◌, Bor, Option, None, Some, is_some, ap, refl, ◌∙◌}
use Rattle.std.specs.Option.{option_copied}
use Rattle.lost_civic.specs.Element.{element_name}
use Rattle.lost_civic.proofs.Present.{is_some-text}
use Rattle.lost_civicdex.proofs.named.names.Goals as goal

is_some-copied : {X : Type 0} (o : Option (Bor X)) → is_some o ≡ is_some (option_copied o)
is_some-copied None = refl
is_some-copied (Some x) = refl

pub returns : goal.returns
returns c =
    c.is_some.ensures ∙ is_some-copied c.text.result ∙ ap (λ o. is_some o) c.text.ensures ∙ is_some-text (element_name c.args.element) c.args.pattern.now
