use Rattle.std.proofs.Common.{[], ◌∷◌, map, sym, ap, ◌∙◌}
use Rattle.std.proofs.lemmas.List.{map-append}
use Rattle.lost_reading.specs.Members.{each_of}
use Rattle.lost_tape.specs.Tapes.{data_of}
use Rattle.lost_tape.proofs.PartLemmas.{after, after_nothing, after_none, each_of_next}
use Rattle.lost_tape.proofs.part.read_each.Goals as goal

pub loop-item-init : goal.loop-item-init
loop-item-init g c held h =
    let kind = g.T.Part.meant in
    (held, h, after_nothing (each_of kind held) ∙ ap (λ xs. after (map g.T.Part.seen xs) (each_of kind held)) (sym c.new-list.ensures.items))

pub loop-item-preserved : goal.loop-item-preserved
loop-item-preserved g c held h =
    let kind = g.T.Part.meant in
    let seen = g.T.Part.seen in
    let now = c.loop-item.invariant held h in
    let next = c.in-Some.ensures.value now.0 now.1 in
    let had = c.loop-item.list.items in
    let part = c.in_ok-part.part in
    let turn = ap (λ items. after (map seen had) (each_of kind items)) next.1 ∙ each_of_next kind (map seen had) (data_of c.in-Some.item) (seen part) next.0 c.in_ok-part.ensures in
    let pushed = map-append seen had (part ∷ []) in
    (next.0, next.2, now.2 ∙ turn ∙ ap (λ xs. after xs (each_of kind next.0)) (sym pushed) ∙ ap (λ xs. after (map seen xs) (each_of kind next.0)) (sym c.in_ok-add.ensures))

pub returns : goal.returns
returns g c held h =
    let kind = g.T.Part.meant in
    let now = c.loop-item.invariant held h in
    let ended = c.in_default.ensures.value now.0 now.1 in
    now.2 ∙ ap (λ items. after (map g.T.Part.seen c.loop-item.list.items) (each_of kind items)) ended ∙ after_none _
