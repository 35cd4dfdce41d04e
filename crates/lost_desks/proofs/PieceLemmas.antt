-- A piece of a map's lines grows by a line.
use Rattle.std.proofs.Common.{◌≡◌, ℕ, zero, suc, ◌+◌, ◌-◌, ◌≤◌, List, [], ◌∷◌, ◌++◌, take, drop, Some, slice_get, length, ◌<◌, unwrap_or, sym, ap, ◌∙◌, append_assoc, append-nil, arith, flat_map}
use Rattle.std.proofs.lemmas.Option.{slice_get_within}
use Rattle.lost_spec.specs.Text.{Text}
use Rattle.lost_spec.specs.Mapping.{Mapping}
use Rattle.lost_export.specs.Export.{publish_text}
use Rattle.lost_desks.specs.MapPieces.{IsPiece}

module _ {Item : Type 0} (written : Item → Text) where
  -- the lines of the first things, and of the next one
  lines_of_more : (things : List Item) (count : ℕ) (next : Item) → slice_get things count ≡ Some next
      → flat_map written (take (suc count) things) ≡ flat_map written (take count things) ++ written next
  lines_of_more [] count next is = let within = slice_get_within [] count next is in absurd (omega (arith, within))
  lines_of_more (first ∷ others) zero next is =
      append-nil (written first) ∙ ap (λ o. written (unwrap_or o first)) is
  lines_of_more (first ∷ others) (suc count) next is =
      ap (λ text. written first ++ text) (lines_of_more others count next is)
      ∙ sym (append_assoc (written first) (flat_map written (take count others)) (written next))

  lines_behind : (things : List Item) (from count at : ℕ) (next : Item) → from + count ≡ at → slice_get things at ≡ Some next
      → flat_map written (take (suc count) (drop from things)) ≡ flat_map written (take count (drop from things)) ++ written next
  lines_behind things zero count at next where_is is =
      let same : at ≡ count = omega (arith, where_is) in lines_of_more things count next (ap (slice_get things) (sym same) ∙ is)
  lines_behind [] (suc from) count at next where_is is = let within = slice_get_within [] at next is in absurd (omega (arith, within))
  lines_behind (first ∷ others) (suc from) count zero next where_is is = absurd (omega (arith, where_is))
  lines_behind (first ∷ others) (suc from) count (suc at) next where_is is = lines_behind others from count at next (omega (arith, where_is)) is

  pub lines_more : (things : List Item) (from to : ℕ) (next : Item) → from ≤ to → slice_get things to ≡ Some next
      → flat_map written (take (to + 1 - from) (drop from things)) ≡ flat_map written (take (to - from) (drop from things)) ++ written next
  lines_more things from to next order is =
      let at : from + (to - from) ≡ to = omega (arith, order) in
      let more : to + 1 - from ≡ suc (to - from) = omega (arith, order) in
      ap (λ n. flat_map written (take n (drop from things))) more ∙ lines_behind things from (to - from) to next at is

-- a piece begins with one line
pub piece_begins : (mappings : List Mapping) (from : ℕ) (mapping : Mapping) (text : Text) → from < length mappings → slice_get mappings from ≡ Some mapping → text ≡ publish_text mapping
    → IsPiece mappings from (from + 1) text
piece_begins mappings from mapping text within is written =
    let none : from - from ≡ 0 = omega (arith) in
    record {
      lines = written ∙ sym (lines_more publish_text mappings from from mapping (omega (arith)) is ∙ ap (λ n. flat_map publish_text (take n (drop from mappings)) ++ publish_text mapping) none);
      goes_on = omega (arith);
      within = omega (arith, within);
    }

-- and grows by one
pub piece_grows : (mappings : List Mapping) (from next : ℕ) (mapping : Mapping) (before line after : Text) → IsPiece mappings from next before → next < length mappings
    → slice_get mappings next ≡ Some mapping → line ≡ publish_text mapping → after ≡ before ++ line → IsPiece mappings from (next + 1) after
piece_grows mappings from next mapping before line after piece within is written grown =
    let goes_on = piece.goes_on in
    record {
      lines = grown ∙ ap (λ text. text ++ line) piece.lines ∙ ap (λ text. flat_map publish_text (take (next - from) (drop from mappings)) ++ text) written
          ∙ sym (lines_more publish_text mappings from next mapping (omega (arith, goes_on)) is);
      goes_on = omega (arith, goes_on);
      within = omega (arith, within);
    }
