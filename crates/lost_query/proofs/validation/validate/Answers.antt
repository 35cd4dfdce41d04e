use Rattle.std.proofs.Common.{◌≡◌, ◌∙◌, ◌++◌, map, refl, sym, ap, rules}
use Rattle.lost_spec.specs.Validation.{Validation, validation}
use Rattle.lost_civic.specs.Element.{element_name}
use Rattle.lost_query.specs.Finding.{mappings_of}
use Rattle.lost_query.proofs.JudgedLemmas.{others_of, validation_is}
use Rattle.lost_query.proofs.validation.validate.Goals as goal

pub returns : goal.returns
returns g c =
    let book = g.H.Holdings.book c.args.holdings.now in
    let address = c.args.address.now in
    let valid = c.deref.result.now in
    let others = c.deref-2.result.now in
    let invalid = c.deref-3.result.now in
    let unchecked = c.deref-4.result.now in
    let named = map element_name in
    let whole : ◌≡◌ {A = Validation} (record { invalid = named invalid; unchecked = named unchecked ++ others_of address; valid = named c.deref-5.result.now }) (validation book c.args.moment.now c.args.service.now (mappings_of c.args.found.now) address) =
    validation_is book c.args.moment.now c.args.service.now (mappings_of c.args.found.now) address valid others invalid unchecked
    (c.deref.ensures.value ∙ c.in_ok-valid.ensures.valid)
    (c.deref-2.ensures.value ∙ c.in_ok-valid.ensures.others)
    c.in_ok-valid.ensures.unknown
    (c.deref-3.ensures.value ∙ c.in_ok-invalid.ensures.invalid)
    (c.deref-4.ensures.value ∙ c.in_ok-invalid.ensures.unchecked)
    (named invalid) (named unchecked ++ others_of address) (named c.deref-5.result.now)
    refl refl (ap named (c.deref-5.ensures.value ∙ sym c.deref.ensures.value)) in
    search rules
