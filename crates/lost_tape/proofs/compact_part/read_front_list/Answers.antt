use Rattle.std.proofs.Common.{rules, ◌≡◌, ℕ, List, ◌∷◌, ◌++◌, [], map, Option, Some, sym, ap, ◌∙◌, subst}
use Rattle.std.proofs.lemmas.List.{map-append}
use Rattle.json.specs.Json.{Json}
use Rattle.serde_json.specs.Data.{Data}
use Rattle.lost_tape.specs.Values.{HasTree}
use Rattle.lost_tape.proofs.ValueLemmas.{AreOfKind, one_more, comma_more, list_before}
use Rattle.lost_tape.proofs.compact_part.read_front_list.Goals as goal

-- the values so far and the next one are those of the parts so far and the next one
values_more : {Part Seen : Type 0} (deep : ℕ) (kind : Data → Option Seen) (seen : Part → Seen) (done : List Json) (had all : List Part) (part : Part) (j : Json) (d : Data)
    → all ≡ had ++ part ∷ [] → AreOfKind deep kind done (map seen had) → HasTree deep j d → kind d ≡ Some (seen part) → AreOfKind deep kind (done ++ j ∷ []) (map seen all)
values_more deep kind seen done had all part j d added are has means =
    subst (AreOfKind deep kind (done ++ j ∷ [])) (sym (map-append seen had (part ∷ [])) ∙ ap (map seen) (sym added)) (one_more deep kind done (map seen had) j d (seen part) are has means)

pub loop-list-preserved : goal.loop-list-preserved
loop-list-preserved g c =
    let done = c.loop-list.invariant in
    let part = c.in_ok-part.ensures in
    let comma : c.in_ok-part.behind.now ≡ 44 ∷ c.in-Some-eq44-default.more.now = search rules in (
      done.0 ++ part.before.value ∷ [],
      comma_more done.0 part.before.value c.args.text.now c.loop-list.rest.now c.in_ok-part.behind.now c.in-Some-eq44-default.more.now done.1 part.before.begins comma,
      values_more g.T.CompactPart.DEEP g.T.Part.meant g.T.Part.seen done.0 c.loop-list.list.items c.add.new.list.items c.in_ok-part.part part.before.value part.tree
          c.in_ok-add.ensures done.2 part.before.has part.means,
    )

pub returns-in-Some-eq93-default : goal.returns-in-Some-eq93-default
returns-in-Some-eq93-default g c =
    let done = c.loop-list.invariant in
    let part = c.in_ok-part.ensures in
    let bracket : c.in_ok-part.behind.now ≡ 93 ∷ c.in-Some-eq93-default.end.now = search rules in
    list_before g.T.CompactPart.DEEP g.T.Part.meant done.0 part.before.value (map g.T.Part.seen c.add.new.list.items) c.args.text.now c.loop-list.rest.now c.in_ok-part.behind.now c.in-Some-eq93-default.end.now
    done.1 part.before.begins bracket
    (values_more g.T.CompactPart.DEEP g.T.Part.meant g.T.Part.seen done.0 c.loop-list.list.items c.add.new.list.items c.in_ok-part.part part.before.value part.tree c.in_ok-add.ensures done.2 part.before.has part.means)
