use Rattle.std.proofs.Common.{◌≡◌, Bool, IsTrue, sym, ◌∙◌, subst}
use Rattle.lost_journal.specs.declared.journal.Journal.{Journal}
use Rattle.lost_journal.specs.Seen.{is_clean, body_of, pending_of}
use Rattle.lost_journal.specs.Found.{found_body}
use Rattle.lost_keeping.specs.Keepers.{owes_of}
use Rattle.lost_keeping.specs.Kept.{IsKeptFor}
use Rattle.lost_keeping.proofs.KeptLemmas.{recovered_kept}
use Rattle.lost_keeping.proofs.recovery.recover.Goals as goal

pub returns-in-Ok-clause-kept : goal.returns-in-Ok-clause-kept
returns-in-Ok-clause-kept g c = λ clean.
    let j = c.in-Ok.journal in
    let d = c.examine.new.desk in
    let found = found_body c.in_ok-reading.reading in
    let at_end = subst (λ (x : Journal g.row.D.Denot g.D.Disk). IsTrue (is_clean x)) c.of.ensures.journal clean in
    let at_kept = c.in-Ok.ensures.clean at_end in
    let kept = recovered_kept (body_of j) found (pending_of j) d (c.in-Ok.ensures.body at_end)
    (c.in_ok-reading.ensures.published at_kept) c.in-Ok.ensures.nothing_pending c.in_ok-reading.ensures.nothing_pending (c.in_ok-reading.ensures.commits at_kept) in
    subst (λ (x : Journal g.row.D.Denot g.D.Disk). IsKeptFor (body_of x) (pending_of x) (owes_of c.of.result) d) (sym c.of.ensures.journal)
    (subst (λ (o : Bool). IsKeptFor (body_of j) (pending_of j) o d) (sym c.of.ensures.owes) kept)
