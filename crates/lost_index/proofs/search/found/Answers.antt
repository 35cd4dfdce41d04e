-- A probe of a marked kind more adds what is found under it.
use Rattle.std.proofs.Common.{◌≡◌, true, sym, ap, arith, ◌∙◌}
use Rattle.std.specs.HashMap.{get}
use Rattle.lost_index.specs.Kinds.{has_kind}
use Rattle.lost_index.specs.Notes.{notes_of, numbers_near}
use Rattle.lost_index.proofs.KindLemmas.{flat_map-filter_more}
use Rattle.lost_index.proofs.search.found.Goals as goal

pub loop-key-preserved : goal.loop-key-preserved
loop-key-preserved g c =
    let kinds = c.args.kinds.now in
    let at = c.loop-key in
    let marked : has_kind kinds (g.P.Profile.kind_of c.key-item.result) ≡ true =
    ap (has_kind kinds) (sym c.key_kind.ensures.kind) ∙ sym c.has.ensures ∙ c.if-not-has.false in record {
      found = flat_map-filter_more
          (λ key. numbers_near (λ outline. g.P.Profile.may_hold outline c.args.location.now) (notes_of (get g.P.Key.PartialEq.eq c.args.cells.now key)))
          (λ key. has_kind kinds (g.P.Profile.kind_of key)) c.as_slice-key-items.result.now at.key-index c.key-item.result at.found.items c.collect_under.new.found.items
          (omega arith) c.key-item.is marked at.invariant.found c.in_ok-collect_under.ensures;
      is_location = at.invariant.is_location;
    }
