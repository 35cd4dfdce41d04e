use Rattle.std.proofs.Common.{rules, ◌≡◌, sym, ◌∙◌}
use Rattle.lost_urn.specs.Kept.{bytes_of}
use Rattle.lost_urn.proofs.KeptLemmas.{kept_read, ascii_read}
use Rattle.lost_urn.proofs.urn.ServiceUrn.parse.Goals as goal

pub ascii-requires : goal.ascii-requires
ascii-requires c = ascii_read c.args.text.now c.in-Some.depth c.in-Some.ensures.read

pub invariant_of-result : goal.invariant_of-result
invariant_of-result c =
    let same : bytes_of c.in_ok-text.text ≡ c.args.text.now = search rules in
    (kept_read c.args.text.now (bytes_of c.in_ok-text.text) c.in-Some.depth (same ∙ sym c.in-Some.ensures.lowercase) c.in-Some.ensures.read).0

pub returns-in-Some-clause-ok : goal.returns-in-Some-clause-ok
returns-in-Some-clause-ok c =
    let same : bytes_of c.in_ok-text.text ≡ c.args.text.now = search rules in
    (kept_read c.args.text.now (bytes_of c.in_ok-text.text) c.in-Some.depth (same ∙ sym c.in-Some.ensures.lowercase) c.in-Some.ensures.read).1

pub lowercase-requires : goal.lowercase-requires
lowercase-requires c = ascii_read c.args.text.now c.in_ok-depth.depth c.in_ok-depth.ensures.ok

pub invariant_of-result-2 : goal.invariant_of-result-2
invariant_of-result-2 c = (kept_read c.args.text.now (bytes_of c.in_ok-text-2.text) c.in_ok-depth.depth (search rules) c.in_ok-depth.ensures.ok).0

pub returns-clause-ok : goal.returns-clause-ok
returns-clause-ok c = (kept_read c.args.text.now (bytes_of c.in_ok-text-2.text) c.in_ok-depth.depth (search rules) c.in_ok-depth.ensures.ok).1
