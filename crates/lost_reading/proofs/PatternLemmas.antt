-- The patterns of a tree: the entries of an object, whose names ascend, and the pairs that they are.
use Rattle.std.proofs.Common.{◌≡◌, ◌∙◌, Bool, true, false, ◌&&◌, ◌||◌, List, [], ◌∷◌, map, length, Option, Some, None, option_map, option_and_then, unwrap_or, string_bytes, string_cmp, nat_cmp, Less, is_eq, bytes_eq, refl, sym, ap, arith}
use Rattle.std.proofs.lemmas.Map.Text.{is_eq-slice_cmp}
use Rattle.std.specs.Cmp.Lexicographic.{slice_cmp}
use Rattle.std.specs.List.{list_all, AllByRecursion}
use Rattle.std.specs.List.Sorted.{IsStrictlySortedBy}
use Rattle.std.specs.Map.{keys_of}
use Rattle.serde_json.specs.Find.{as_str}
use Rattle.serde_json.specs.View.{view, members_view}
use Rattle.serde_json.proofs.Views.{Entry}
use Rattle.lost_spec.specs.Place.{is_region, PatternRegion, UnreadableRegion}
use Rattle.lost_spec.specs.Text.{Text, is_among, has_repeat, is_between}
use Rattle.lost_spec.specs.Civic.{Pairs, names_of}
use Rattle.lost_civic.specs.Pairs.{is_pattern_pair}
use Rattle.lost_civic.proofs.PatternLemmas.{is_none-pattern_fault}
use Rattle.lost_reading.specs.Members.{pairs_of}
use Rattle.lost_reading.specs.TreeParts.{is_pattern_entry, members_region}

-- ---- no name stands twice

and_false : (a b : Bool) → b ≡ false → (a && b) ≡ false
and_false true b h = h
and_false false b h = refl

apart : (name : Text) (es : List Entry) → AllByRecursion (λ other. slice_cmp nat_cmp name (string_bytes other) ≡ Less) (keys_of es) → is_among name (map (λ e. string_bytes e.0) es) ≡ false
apart name [] h = refl
apart name (e ∷ es) h =
    let other : bytes_eq name (string_bytes e.0) ≡ false = sym (is_eq-slice_cmp name (string_bytes e.0)) ∙ ap is_eq h.0 in
    ap (λ b. b || is_among name (map (λ e. string_bytes e.0) es)) other ∙ apart name es h.1

pub no_repeat : (es : List Entry) → IsStrictlySortedBy string_cmp (keys_of es) → has_repeat (map (λ e. string_bytes e.0) es) ≡ false
unfolding IsStrictlySortedBy
no_repeat [] h = refl
no_repeat (e ∷ es) h = ap (λ b. b || has_repeat (map (λ e. string_bytes e.0) es)) (apart (string_bytes e.0) es h.0) ∙ no_repeat es h.1

-- ---- entry by entry

-- what the pairs of entries say of them
record ArePairs (es : List Entry) (pairs : Pairs) : Type 0 where
  named : names_of pairs ≡ map (λ e. string_bytes e.0) es
  many : length pairs ≡ length es
  taken : list_all is_pattern_pair pairs ≡ list_all is_pattern_entry es

-- entries with their pairs, or one of which is no text
abbrev Told : List Entry → Option Pairs → Type 0
Told es None = list_all is_pattern_entry es ≡ false
Told es (Some pairs) = ArePairs es pairs

told_more : (e : Entry) (es : List Entry) (text : Option Text) (rest : Option Pairs) → as_str (view e.1) ≡ text → Told es rest
    → Told (e ∷ es) (option_and_then (λ text. option_map (λ pairs. (string_bytes e.0, text) ∷ pairs) rest) text)
told_more e es None rest is h = ap (λ t. unwrap_or (option_map (λ text. is_pattern_pair (string_bytes e.0, text)) t) false && list_all is_pattern_entry es) is
told_more e es (Some text) None is h = and_false (is_pattern_entry e) (list_all is_pattern_entry es) h
told_more e es (Some text) (Some pairs) is h = record {
  named = ap (λ ns. string_bytes e.0 ∷ ns) h.named;
  many = omega (arith, h.many);
  taken =
      ap (λ others. is_pattern_pair (string_bytes e.0, text) && others) h.taken
      ∙ sym (ap (λ t. unwrap_or (option_map (λ text. is_pattern_pair (string_bytes e.0, text)) t) false && list_all is_pattern_entry es) is);
}

told_of : (es : List Entry) → Told es (pairs_of (members_view es))
told_of [] = record { named = refl; many = refl; taken = refl }
told_of (e ∷ es) = told_more e es (as_str (view e.1)) (pairs_of (members_view es)) refl (told_of es)

region_of_pairs : (es : List Entry) (found : Option Pairs) → has_repeat (map (λ e. string_bytes e.0) es) ≡ false → Told es found
    → is_region (unwrap_or (option_map PatternRegion found) UnreadableRegion) ≡ (is_between 1 128 (length es) && list_all is_pattern_entry es)
region_of_pairs es None unique h = sym (and_false (is_between 1 128 (length es)) (list_all is_pattern_entry es) h)
region_of_pairs es (Some pairs) unique h =
    is_none-pattern_fault pairs (ap has_repeat h.named ∙ unique)
    ∙ (ap (λ n. is_between 1 128 n && list_all is_pattern_pair pairs) h.many ∙ ap (λ all. is_between 1 128 (length es) && all) h.taken)

-- the entries of an object are a pattern where there are 1 to 128, each with a text, and a pattern takes each
pub is_region-entries : (es : List Entry) → IsStrictlySortedBy string_cmp (keys_of es)
    → is_region (members_region (members_view es)) ≡ (is_between 1 128 (length es) && list_all is_pattern_entry es)
is_region-entries es ordered = region_of_pairs es (pairs_of (members_view es)) (no_repeat es ordered) (told_of es)
