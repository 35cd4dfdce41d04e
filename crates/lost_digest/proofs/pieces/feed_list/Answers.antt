-- The hasher takes the count, and then the items one by one.
use Rattle.std.proofs.Common.{◌≡◌, ap, ◌∙◌, ◌+◌, ◌++◌, ◌∷◌, [], length, take, subst, sym}
use Rattle.std.proofs.lemmas.List.{append-nil, take_all, take_more}
use Rattle.std.specs.List.{flat_map}
use Rattle.lost_digest.specs.Bytes.{count_bytes, list_bytes}
use Rattle.lost_digest.specs.Digest.{Takes}
use Rattle.lost_digest.proofs.Taking.{takes_item}
use Rattle.lost_digest.proofs.pieces.feed_list.Goals as goal

pub loop-item-init : goal.loop-item-init
loop-item-init g c = subst (Takes c.args.hasher.now c.feed_count.new.hasher) (sym (append-nil (count_bytes (length c.args.items.now)))) c.feed_count.ensures

pub loop-item-preserved : goal.loop-item-preserved
loop-item-preserved g c =
    let i = c.loop-item.item-index in
    let items = c.args.items.now in
    let more : take (i + 1) items ≡ take i items ++ c.item-item.result ∷ [] =
    take_more items i c.item-item.result c.loop-item-test.true ∙ ap (λ x. take i items ++ x ∷ []) (sym c.item-item.is) in
    takes_item c.args.hasher.now c.loop-item.hasher c.feed.new.hasher (count_bytes (length items)) g.T.Piece.bytes items i c.item-item.result more c.loop-item.invariant c.feed.ensures

pub returns : goal.returns
unfolding list_bytes
returns g c =
    let items = c.args.items.now in
    let all : take c.loop-item.item-index items ≡ items = take_all c.loop-item.item-index items c.loop-item-test.false in
    subst (λ l. Takes c.args.hasher.now c.loop-item.hasher (count_bytes (length items) ++ flat_map g.T.Piece.bytes l)) all c.loop-item.invariant
