use Rattle.std.specs.Arc.{arc_value}
use Rattle.std.proofs.Common.{◌≡◌, ◌∙◌, ap, sym, string_bytes, rules, tests}
use Rattle.std.specs.List.{list_all}
use Rattle.std.proofs.lemmas.Iterator.{YieldsList-from_slice}
use Rattle.std.proofs.lemmas.Iterator.Search.{all_from_yields_List}
use Rattle.lost_spec.specs.Civic.{has_value, matches}
use Rattle.lost_civic.specs.declared.texts.Compared.{Compared}
use Rattle.lost_civic.specs.Element.{element_name}
use Rattle.lost_civic.proofs.Present.{shared_text}
use Rattle.lost_civic.proofs.TextLemmas.{list_all-compared}
use Rattle.lost_civic.proofs.patterns.CivicPattern.matches.Goals as goal

pub returns-clause-value : goal.returns-clause-value
returns-clause-value c =
    let address = c.args.address.now in
    let list = (arc_value c.self.inside.inner).compared.items in
    let direct : c.all.result ≡ list_all (λ (compared : Compared). has_value address (element_name compared.element) (string_bytes compared.text)) list = all_from_yields_List (λ (compared : Compared). has_value address (element_name compared.element) (string_bytes compared.text)) _ _ c.all.result c.all.ensures.ran (YieldsList-from_slice list (cc)) (λ x b q k. search (rules, tests)) in
    direct ∙ (list_all-compared list _ address c.self.invariant.1 ∙ ap (λ pattern. matches pattern address) c.self.view_is)

pub returns-clause-shared : goal.returns-clause-shared
returns-clause-shared c =
    λ holds element. shared_text c.args.self.now c.args.address.now element (sym (returns-clause-value c) ∙ holds)
