use Rattle.std.proofs.Common.{◌<◌, ◌++◌, length, ap, ◌∙◌, arith}
use Rattle.lost_desks.proofs.PieceLemmas.{piece_begins, piece_grows}
use Rattle.lost_desks.proofs.map_reply.piece_from.Goals as goal

pub loop-next-init : goal.loop-next-init
loop-next-init c = piece_begins c.args.book.now.mappings c.args.from c.mapping.result.now c.in_ok-text.text.items c.requires c.mapping.ensures c.in_ok-text.ensures.text

pub loop-next-preserved : goal.loop-next-preserved
loop-next-preserved c =
    let mappings = c.args.book.now.mappings in
    let before = c.loop-next.text.items in
    let below = c.loop-next-test.true in
    let count = c.len.ensures in
    let within : c.loop-next.next < length mappings = omega (arith, below, count) in
    piece_grows mappings c.args.from c.loop-next.next c.mapping-in-loop-next.result.now before c.in_ok-line.line.items c.extend_from_slice.new.self.items c.loop-next.invariant within
    c.mapping-in-loop-next.ensures c.in_ok-line.ensures.text (c.in_ok-extend_from_slice.ensures.items ∙ ap (λ text. before ++ text) c.as_slice.ensures.value)
