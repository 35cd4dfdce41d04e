use Rattle.std.proofs.Common.{◌∙◌, sym, take}
use Rattle.std.proofs.lemmas.List.{length-take-le}
use Rattle.lost_urn.specs.Kept.{bytes_of}
use Rattle.lost_urn.proofs.KeptLemmas.{kept, service_of-text}
use Rattle.lost_urn.proofs.urn.ServiceUrn.cut.Goals as goal

pub invariant_of-result : goal.invariant_of-result
invariant_of-result c =
    kept (bytes_of c.in_ok-text.text) c.args.n (take c.args.n c.args.self.now) c.front.ensures.well_formed (c.in_ok-text.ensures ∙ c.front.ensures.text) (sym (length-take-le c.args.n c.args.self.now c.requires.within))

pub returns : goal.returns
returns c = service_of-text (bytes_of c.in_ok-text.text) (take c.args.n c.args.self.now) c.front.ensures.well_formed (c.in_ok-text.ensures ∙ c.front.ensures.text)
