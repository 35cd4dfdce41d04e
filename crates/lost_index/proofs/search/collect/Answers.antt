-- One number more, where the outline of its note may contain the location.
use Rattle.std.proofs.Common.{sym, arith, ◌∙◌}
use Rattle.lost_index.proofs.FilterLemmas.{kept-next, passed-over}
use Rattle.lost_index.proofs.search.collect.Goals as goal

pub loop-note-preserved-then-not-is_near : goal.loop-note-preserved-then-not-is_near
loop-note-preserved-then-not-is_near g c =
    passed-over (λ note. note.number) (λ note. g.P.Profile.may_hold note.outline c.args.location.now) c.args.found.now.items c.args.notes.now c.loop-note.note-index c.note-item.result
    c.loop-note.found.items (omega arith) c.note-item.is c.loop-note.invariant (sym c.is_near.ensures ∙ c.if-not-is_near.true)

pub loop-note-preserved : goal.loop-note-preserved
loop-note-preserved g c =
    kept-next (λ note. note.number) (λ note. g.P.Profile.may_hold note.outline c.args.location.now) c.args.found.now.items c.args.notes.now c.loop-note.note-index c.note-item.result
    c.loop-note.found.items (omega arith) c.note-item.is c.loop-note.invariant (sym c.is_near.ensures ∙ c.if-not-is_near.false) c.push.new.self.items c.in_ok-push.ensures.items
