-- What compact values are read as.
use Rattle.std.proofs.Common.{◌≡◌, Ok, false, ℕ, ℤ, suc, ◌<◌, ◌≤◌, ◌^◌, List, [], ◌∷◌, ◌++◌, length, Option, Some, None, option_map, option_and_then, refl, sym, ap, ◌∙◌, subst, arith, append_assoc, append-nil}
use Rattle.std.specs.Prelude.{IfSome, map, codes}
use Rattle.std.specs.Fmt.{signed_decimal}
use Rattle.std.specs.Option.{option_copied}
use Rattle.std.specs.Str.{IsUtf8}
use lib.Signed.{mag}
use Rattle.std.proofs.lemmas.Grind.{flat_map-append}
use Rattle.json.specs.Json as json
use Rattle.json.specs.Json.{Json}
use Rattle.json.specs.Print.{escape_byte, escape, quoted, print, print_from}
use Rattle.json.specs.Tree.{json_tokens, items_tokens, members_tokens, depth, items_depth, members_depth, HasNumbers, ItemsHaveNumbers, MembersHaveNumbers}
use Rattle.serde_json.specs.Data.{Num, Data, number, string, array, object, Items, no_items, item, Members, no_members, member, put}
use Rattle.serde_json.specs.Find.{as_str, as_i64}
use Rattle.serde_json.specs.Read.{number_of, of_json, of_items, of_members, read}
use Rattle.lost_spec.specs.Text.{Text}
use Rattle.lost_spec.specs.Civic.{Pairs}
use Rattle.lost_spec.specs.Place.{Region, RingRegion, PatternRegion}
use Rattle.lost_spec.specs.Mapping.{Parts, Mapping}
use Rattle.lost_spec.specs.Book.{Edit, Publish, Replace}
use Rattle.lost_reading.specs.Members.{each_of, list_in, position_in, pairs_of}
use Rattle.lost_reading.specs.Desk.{Stage, parts_of_members, mapping_order, order_in, desk_line}
use Rattle.lost_writing.specs.FoundLine.{IsPlain}
use Rattle.lost_tape.specs.Numbers.{IsNumberBefore}
use Rattle.lost_tape.specs.Values.{HasTree, IsValueBefore, IsPartBefore, IsListBefore, AreNamedBefore, named_texts, before_polygon, after_polygon, before_pattern, after_pattern, region_kind, with_head, with_number, with_tail, AreMembersBehind, AreMembersFirst, parts_numbered, compact_parts, IsMappingOf, IsMappingText}
use Rattle.lost_tape.specs.declared.compact_desk.Head.{Head}
use Rattle.lost_tape.specs.declared.compact_desk.Tail.{Tail}
use Rattle.lost_tape.proofs.NumberLemmas.{Spells, spells}
use Rattle.lost_tape.proofs.PartsLemmas.{parts_made}
use Rattle.lost_tape.proofs.PrintLemmas.{first_of, later_of, member_first, commas, json_items, items_text, text_value, pair_text, pair_commas, named_text}
use Rattle.lost_reading.proofs.KnownMembersLemmas.{desk_line-read}
use Rattle.lost_tape.proofs.TreeLemmas.{read_printed}

-- ---- a text

pub text_before : (text s rest : Text) → text ≡ 34 ∷ (s ++ (34 ∷ rest)) → IsPlain s → IsValueBefore 0 text (string s) rest
text_before text s rest is plain = record {
  value = json.string s;
  begins = is ∙ text_value s rest plain;
  has = record { numbers = tt; shallow = omega arith; reads = refl };
}

pub text_part : (text s rest : Text) → text ≡ 34 ∷ (s ++ (34 ∷ rest)) → IsPlain s → IsPartBefore 0 as_str text s rest
text_part text s rest is plain = record { tree = string s; before = text_before text s rest is plain; means = refl }

-- ---- a position

position_json : Text → Text → Json
position_json la lo = json.array (json.item (json.number la) (json.item (json.number lo) json.no_items))

position_text : (la lo : Text) → print (json_tokens (position_json la lo)) ≡ 91 ∷ (la ++ (44 ∷ (lo ++ 93 ∷ [])))
unfolding print_from position_json
position_text la lo = refl

position_begins : (text t₁ t₂ t₃ t₄ rest la lo : Text) → text ≡ 91 ∷ t₁ → t₁ ≡ la ++ t₂ → t₂ ≡ 44 ∷ t₃ → t₃ ≡ lo ++ t₄ → t₄ ≡ 93 ∷ rest → text ≡ print (json_tokens (position_json la lo)) ++ rest
position_begins text t₁ t₂ t₃ t₄ rest la lo a b c d e =
    a ∙ ap (λ t. 91 ∷ t) (b ∙ ap (λ t. la ++ t) (c ∙ ap (λ t. 44 ∷ t) (d ∙ ap (λ t. lo ++ t) e ∙ sym (append_assoc lo (93 ∷ []) rest))) ∙ sym (append_assoc la (44 ∷ (lo ++ 93 ∷ [])) rest))
    ∙ ap (λ t. t ++ rest) (sym (position_text la lo))

position_reads : (la lo : Text) (a b : Num) (lat lon : ℤ) → number_of la ≡ Some a → number_of lo ≡ Some b → as_i64 a ≡ Some lat → as_i64 b ≡ Some lon
    → (of_json (position_json la lo) ≡ Some (array (item (number a) (item (number b) no_items)))) × (position_in (array (item (number a) (item (number b) no_items))) ≡ Some (lat, lon))
unfolding position_json
position_reads la lo a b lat lon p q r s = (rw (p, q) refl, rw (r, s) refl)

pub position_part : (text t₁ t₂ t₃ t₄ rest : Text) (lat lon : ℤ) → text ≡ 91 ∷ t₁ → IsNumberBefore t₁ lat t₂ → t₂ ≡ 44 ∷ t₃ → IsNumberBefore t₃ lon t₄ → t₄ ≡ 93 ∷ rest
    → IsPartBefore 1 position_in text (lat, lon) rest
unfolding position_json
position_part text t₁ t₂ t₃ t₄ rest lat lon a n c m e =
    let p = spells lat n.small in
    let q = spells lon m.small in
    let found = position_reads (signed_decimal lat) (signed_decimal lon) p.held q.held lat lon p.reads q.reads p.whole q.whole in
    record {
      tree = array (item (number p.held) (item (number q.held) no_items));
      before = record {
        value = position_json (signed_decimal lat) (signed_decimal lon);
        begins = position_begins text t₁ t₂ t₃ t₄ rest (signed_decimal lat) (signed_decimal lon) a n.begins c m.begins e;
        has = record { numbers = (p.is_number, (q.is_number, tt)); shallow = omega arith; reads = found.0 };
      };
      means = found.1;
    }

-- ---- a list

-- values of a kind, one for each thing
abbrev pub AreOfKind : {Seen : Type 0} → ℕ → (Data → Option Seen) → List Json → List Seen → Type 0
AreOfKind deep kind [] seen = seen ≡ []
AreOfKind {Seen} deep kind (j ∷ js) seen = (d : Data) × (x : Seen) × (rest : List Seen) × HasTree deep j d × (kind d ≡ Some x) × (seen ≡ x ∷ rest) × AreOfKind deep kind js rest

pub one_more : {Seen : Type 0} (deep : ℕ) (kind : Data → Option Seen) (js : List Json) (seen : List Seen) (j : Json) (d : Data) (x : Seen) → AreOfKind deep kind js seen → HasTree deep j d → kind d ≡ Some x
    → AreOfKind deep kind (js ++ j ∷ []) (seen ++ x ∷ [])
one_more deep kind [] seen j d x none has is = (d, x, [], has, is, ap (λ s. s ++ x ∷ []) none, refl)
one_more deep kind (y ∷ js) seen j d x (e, z, rest, held, means, split, more) has is =
    (e, z, rest ++ x ∷ [], held, means, ap (λ s. s ++ x ∷ []) split, one_more deep kind js rest j d x more has is)

record Items_of {Seen : Type 0} (deep : ℕ) (kind : Data → Option Seen) (js : List Json) (seen : List Seen) : Type 0 where
  items : Items
  numbers : ItemsHaveNumbers (json_items js)
  shallow : items_depth (json_items js) ≤ deep
  reads : of_items (json_items js) ≡ Some items
  means : each_of kind items ≡ Some seen

items_of : {Seen : Type 0} (deep : ℕ) (kind : Data → Option Seen) (js : List Json) (seen : List Seen) → AreOfKind deep kind js seen → Items_of deep kind js seen
items_of deep kind [] seen none = record { items = no_items; numbers = tt; shallow = omega arith; reads = refl; means = ap Some (sym none) }
items_of deep kind (j ∷ js) seen (d, x, rest, held, means, split, more) =
    let later = items_of deep kind js rest more in
    record {
      items = item d later.items;
      numbers = (held.numbers, later.numbers);
      shallow = omega (arith, held.shallow, later.shallow);
      reads = rw (held.reads, later.reads) refl;
      means = rw (means, later.means) (ap Some (sym split));
    }

pub list_before : {Seen : Type 0} (deep : ℕ) (kind : Data → Option Seen) (js : List Json) (j : Json) (seen : List Seen) (text rest behind end : Text)
    → text ≡ 91 ∷ (commas js ++ rest) → rest ≡ print (json_tokens j) ++ behind → behind ≡ 93 ∷ end → AreOfKind deep kind (js ++ j ∷ []) seen → IsListBefore deep kind text seen end
unfolding print_from
list_before deep kind js j seen text rest behind end a b c are =
    let found = items_of deep kind (js ++ j ∷ []) seen are in
    let p = print (json_tokens j) in
    record {
      items = found.items;
      before = record {
        value = json.array (json_items (js ++ j ∷ []));
        begins = a ∙ ap (λ t. 91 ∷ t) (ap (λ t. commas js ++ t) (b ∙ ap (λ t. p ++ t) c ∙ sym (append_assoc p (93 ∷ []) end)) ∙ sym (append_assoc (commas js) (p ++ 93 ∷ []) end)
            ∙ ap (λ t. t ++ end) (sym (items_text js j)));
        has = record { numbers = found.numbers; shallow = omega (arith, found.shallow); reads = ap (option_map array) found.reads };
      };
      means = found.means;
    }

pub comma_more : (js : List Json) (j : Json) (text rest behind more : Text) → text ≡ 91 ∷ (commas js ++ rest) → rest ≡ print (json_tokens j) ++ behind → behind ≡ 44 ∷ more
    → text ≡ 91 ∷ (commas (js ++ j ∷ []) ++ more)
comma_more js j text rest behind more a b c =
    let p = print (json_tokens j) in
    a ∙ ap (λ t. 91 ∷ t) (ap (λ t. commas js ++ t) (b ∙ ap (λ t. p ++ t) c ∙ sym (append_assoc p (44 ∷ []) more)) ∙ sym (append_assoc (commas js) (p ++ 44 ∷ []) more)
    ∙ ap (λ t. t ++ more) (ap (λ t. commas js ++ t) (sym (append-nil (p ++ 44 ∷ []))) ∙ sym (flat_map-append (λ x. print (json_tokens x) ++ 44 ∷ []) js (j ∷ []))))

-- ---- texts under names

pub put_last : (ps : List (Text × Text)) (p : Text × Text) (before found : Members) → of_members (named_texts ps) before ≡ Some found
    → of_members (named_texts (ps ++ p ∷ [])) before ≡ Some (put p.0 (string p.1) found)
put_last [] p before found is = ap (option_map (put p.0 (string p.1))) is
put_last (x ∷ ps) p before found is = put_last ps p (put x.0 (string x.1) before) found is

pub named_begin : (p : Text × Text) (text t₁ t₂ rest : Text) → text ≡ 34 ∷ (p.0 ++ (34 ∷ t₁)) → IsPlain p.0 → t₁ ≡ 58 ∷ t₂ → t₂ ≡ 34 ∷ (p.1 ++ (34 ∷ rest)) → IsPlain p.1
    → text ≡ pair_text p ++ rest
named_begin p text t₁ t₂ rest a plain₀ b c plain₁ =
    let v = print (json_tokens (json.string p.1)) in
    a ∙ ap (λ t. 34 ∷ t) (sym (append_assoc p.0 (34 ∷ []) t₁) ∙ ap (λ t. (t ++ (34 ∷ [])) ++ t₁) (sym plain₀))
    ∙ ap (λ t. quoted p.0 ++ t) (b ∙ ap (λ t. 58 ∷ t) (c ∙ text_value p.1 rest plain₁))
    ∙ sym (append_assoc (quoted p.0) (58 ∷ v) rest)

pub named_more : (ps : List (Text × Text)) (p : Text × Text) (text rest behind more : Text) → text ≡ pair_commas ps ++ rest → rest ≡ pair_text p ++ behind → behind ≡ 44 ∷ more
    → text ≡ pair_commas (ps ++ p ∷ []) ++ more
named_more ps p text rest behind more a b c =
    a ∙ ap (λ t. pair_commas ps ++ t) (b ∙ ap (λ t. pair_text p ++ t) c ∙ sym (append_assoc (pair_text p) (44 ∷ []) more)) ∙ sym (append_assoc (pair_commas ps) (pair_text p ++ 44 ∷ []) more)
    ∙ ap (λ t. t ++ more) (ap (λ t. pair_commas ps ++ t) (sym (append-nil (pair_text p ++ 44 ∷ []))) ∙ sym (flat_map-append (λ x. pair_text x ++ 44 ∷ []) ps (p ∷ [])))

pub named_end : (ps : List (Text × Text)) (p : Text × Text) (text rest behind end : Text) (found : Members) → text ≡ pair_commas ps ++ rest → rest ≡ pair_text p ++ behind → behind ≡ 125 ∷ end
    → of_members (named_texts ps) no_members ≡ Some found → (all : Members) → all ≡ put p.0 (string p.1) found → AreNamedBefore text all end
named_end ps p text rest behind end found a b c is all same = record {
  pairs = ps ++ p ∷ [];
  begins = a ∙ ap (λ t. pair_commas ps ++ t) (b ∙ ap (λ t. pair_text p ++ t) c ∙ sym (append_assoc (pair_text p) (125 ∷ []) end)) ∙ sym (append_assoc (pair_commas ps) (pair_text p ++ 125 ∷ []) end)
      ∙ ap (λ t. t ++ end) (sym (named_text ps p));
  reads = put_last ps p no_members found is ∙ ap Some (sym same);
}

texts_numbers : (ps : List (Text × Text)) → MembersHaveNumbers (named_texts ps)
texts_numbers [] = tt
texts_numbers (p ∷ ps) = (tt, texts_numbers ps)

texts_shallow : (ps : List (Text × Text)) → members_depth (named_texts ps) ≤ 0
texts_shallow [] = omega arith
texts_shallow (p ∷ ps) = omega (arith, texts_shallow ps)

-- ---- regions

ring_json : Json → Json
ring_json positions = json.object (json.member (codes "polygon") positions (json.member (codes "profile") (json.string (codes "geodetic-2d")) json.no_members))

pub ring_part : (text rest end : Text) (positions : List (ℤ × ℤ)) → IsListBefore 1 position_in text positions rest → rest ≡ after_polygon ++ end
    → IsPartBefore 3 region_kind (before_polygon ++ text) (RingRegion positions) end
unfolding ring_json print_from escape_byte before_polygon after_polygon
ring_part text rest end positions list behind =
    let j = list.before.value in
    record {
      tree = object (member (codes "polygon") (array list.items) (member (codes "profile") (string (codes "geodetic-2d")) no_members));
      before = record {
        value = ring_json j;
        begins = ap (λ t. before_polygon ++ t) (list.before.begins ∙ ap (λ t. print (json_tokens j) ++ t) behind) ∙ ring_begins j end;
        has = record {
          numbers = (list.before.has.numbers, (tt, tt));
          shallow = omega (arith, list.before.has.shallow);
          reads = rw list.before.has.reads refl;
        };
      };
      means = rw list.means refl;
    }
  where
    ring_begins : (j : Json) (end : Text) → before_polygon ++ (print (json_tokens j) ++ (after_polygon ++ end)) ≡ print (json_tokens (ring_json j)) ++ end
    ring_begins j end =
        let p = print (json_tokens j) in
        ap (λ t. 123 ∷ t) (first_of (codes "polygon") (quoted (codes "polygon") ++ (58 ∷ (p ++ (after_polygon ++ end)))) (p ++ (after_polygon ++ end)) (after_polygon ++ end) end j (json.member (codes "profile") (json.string (codes "geodetic-2d")) json.no_members) refl refl refl)

pattern_json : List (Text × Text) → Json
pattern_json pairs = json.object (json.member (codes "pattern") (json.object (named_texts pairs)) (json.member (codes "profile") (json.string (codes "civic")) json.no_members))

pub pattern_part : (text rest behind end : Text) (all : Members) (pairs : Pairs) → text ≡ before_pattern ++ rest → AreNamedBefore rest all behind → behind ≡ after_pattern ++ end → pairs_of all ≡ Some pairs
    → IsPartBefore 3 region_kind text (PatternRegion pairs) end
unfolding pattern_json print_from escape_byte before_pattern after_pattern
pattern_part text rest behind end all pairs a named b are =
    record {
      tree = object (member (codes "pattern") (object all) (member (codes "profile") (string (codes "civic")) no_members));
      before = record {
        value = pattern_json named.pairs;
        begins = a ∙ ap (λ t. before_pattern ++ t) (named.begins ∙ ap (λ t. print_from false (members_tokens (named_texts named.pairs)) ++ t) b) ∙ pattern_begins (named_texts named.pairs) end;
        has = record {
          numbers = (texts_numbers named.pairs, (tt, tt));
          shallow = omega (arith, texts_shallow named.pairs);
          reads = rw named.reads refl;
        };
      };
      means = rw are refl;
    }
  where
    pattern_begins : (ms : json.Members) (end : Text) → before_pattern ++ (print_from false (members_tokens ms) ++ (after_pattern ++ end))
        ≡ print (json_tokens (json.object (json.member (codes "pattern") (json.object ms) (json.member (codes "profile") (json.string (codes "civic")) json.no_members)))) ++ end
    pattern_begins ms end =
        let p = print_from false (members_tokens ms) in
        ap (λ t. 123 ∷ t) (first_of (codes "pattern") (quoted (codes "pattern") ++ (58 ∷ ((123 ∷ p) ++ (after_pattern ++ end)))) ((123 ∷ p) ++ (after_pattern ++ end)) (after_pattern ++ end) end (json.object ms) (json.member (codes "profile") (json.string (codes "civic")) json.no_members) refl refl refl)

-- ---- the members of a mapping

pub head_members : (head : Head) (text t₁ r₁ t₂ r₂ t₃ r₃ t₄ rest : Text) → text ≡ codes "\"expires\":" ++ t₁ → t₁ ≡ 34 ∷ (head.expires.now ++ (34 ∷ r₁)) → IsPlain head.expires.now
    → r₁ ≡ codes ",\"key\":" ++ t₂ → t₂ ≡ 34 ∷ (head.key.now ++ (34 ∷ r₂)) → IsPlain head.key.now
    → r₂ ≡ codes ",\"lastUpdated\":" ++ t₃ → t₃ ≡ 34 ∷ (head.last_updated.now ++ (34 ∷ r₃)) → IsPlain head.last_updated.now
    → r₃ ≡ codes ",\"service\":" ++ t₄ → t₄ ≡ 34 ∷ (head.service.now ++ (34 ∷ rest)) → IsPlain head.service.now
    → (members : json.Members) (end : Text) → AreMembersBehind rest members end → AreMembersFirst text (with_head head members) end
unfolding escape_byte
head_members head text t₁ r₁ t₂ r₂ t₃ r₃ t₄ rest a₁ b₁ p₁ a₂ b₂ p₂ a₃ b₃ p₃ a₄ b₄ p₄ members end behind =
    let m₄ = json.member (codes "service") (json.string head.service.now) members in
    let m₃ = json.member (codes "lastUpdated") (json.string head.last_updated.now) m₄ in
    let m₂ = json.member (codes "key") (json.string head.key.now) m₃ in
    first_of (codes "expires") text t₁ r₁ end (json.string head.expires.now) m₂ a₁ (b₁ ∙ text_value head.expires.now r₁ p₁)
    (later_of (codes "key") r₁ t₂ r₂ end (json.string head.key.now) m₃ a₂ (b₂ ∙ text_value head.key.now r₂ p₂)
    (later_of (codes "lastUpdated") r₂ t₃ r₃ end (json.string head.last_updated.now) m₄ a₃ (b₃ ∙ text_value head.last_updated.now r₃ p₃)
    (later_of (codes "service") r₃ t₄ rest end (json.string head.service.now) members a₄ (b₄ ∙ text_value head.service.now rest p₄) behind)))

pub number_member : (dialled text t₁ rest : Text) → text ≡ codes ",\"serviceNumber\":" ++ t₁ → t₁ ≡ 34 ∷ (dialled ++ (34 ∷ rest)) → IsPlain dialled
    → (members : json.Members) (end : Text) → AreMembersBehind rest members end → AreMembersBehind text (with_number (Some dialled) members) end
unfolding escape_byte
number_member dialled text t₁ rest a b plain members end behind =
    later_of (codes "serviceNumber") text t₁ rest end (json.string dialled) members a (b ∙ text_value dialled rest plain) behind

pub tail_members : (tail : Tail) (text r₀ t₁ r₁ t₂ rest : Text)
    → ((members : json.Members) (end : Text) → AreMembersBehind r₀ members end → AreMembersBehind text (with_number (option_copied tail.number) members) end)
    → r₀ ≡ codes ",\"source\":" ++ t₁ → t₁ ≡ 34 ∷ (tail.source.now ++ (34 ∷ r₁)) → IsPlain tail.source.now
    → r₁ ≡ codes ",\"sourceId\":" ++ t₂ → t₂ ≡ 34 ∷ (tail.source_id.now ++ (34 ∷ rest)) → IsPlain tail.source_id.now
    → (members : json.Members) (end : Text) → AreMembersBehind rest members end → AreMembersBehind text (with_tail tail members) end
unfolding escape_byte
tail_members tail text r₀ t₁ r₁ t₂ rest dialled a₁ b₁ p₁ a₂ b₂ p₂ members end behind =
    let last = json.member (codes "sourceId") (json.string tail.source_id.now) members in
    dialled (json.member (codes "source") (json.string tail.source.now) last) end
    (later_of (codes "source") r₀ t₁ r₁ end (json.string tail.source.now) last a₁ (b₁ ∙ text_value tail.source.now r₁ p₁)
    (later_of (codes "sourceId") r₁ t₂ rest end (json.string tail.source_id.now) members a₂ (b₂ ∙ text_value tail.source_id.now rest p₂) behind))

abbrev number_tree : Option Text → Members → Members
number_tree None rest = rest
number_tree (Some dialled) rest = member (codes "serviceNumber") (string dialled) rest

abbrev mapping_tree : Head → Items → Option Text → Tail → Items → Members
mapping_tree head regions dialled tail uris =
    member (codes "expires") (string head.expires.now) (
    member (codes "key") (string head.key.now) (
    member (codes "lastUpdated") (string head.last_updated.now) (
    member (codes "service") (string head.service.now) (
    member (codes "serviceBoundary") (array regions) (number_tree dialled (
    member (codes "source") (string tail.source.now) (
    member (codes "sourceId") (string tail.source_id.now) (
    member (codes "uri") (array uris) no_members))))))))

abbrev source_members : Tail → json.Members → json.Members
source_members tail rest = json.member (codes "source") (json.string tail.source.now) (json.member (codes "sourceId") (json.string tail.source_id.now) rest)

mapping_reads : (head : Head) (dialled : Option Text) (tail : Tail) (r u : Json) (regions uris : Items) → of_json r ≡ Some (array regions) → of_json u ≡ Some (array uris)
    → of_members (with_head head (json.member (codes "serviceBoundary") r (with_number dialled (source_members tail (json.member (codes "uri") u json.no_members))))) no_members
    ≡ Some (mapping_tree head regions dialled tail uris)
mapping_reads head None tail r u regions uris a b = rw (a, b) refl
mapping_reads head (Some dialled) tail r u regions uris a b = rw (a, b) refl

with_the_number : (head : Head) (areas : List Region) (tail : Tail) (texts : List Text) (dialled : Option Text) → option_copied tail.number ≡ dialled
    → Some (parts_numbered head areas tail texts dialled) ≡ Some (compact_parts head areas tail texts)
with_the_number head areas tail texts dialled same = ap (λ n. Some (parts_numbered head areas tail texts n)) (sym same)

mapping_parts : (head : Head) (dialled : Option Text) (tail : Tail) (regions uris : Items) (areas : List Region) (texts : List Text) → each_of region_kind regions ≡ Some areas → each_of as_str uris ≡ Some texts
    → option_copied tail.number ≡ dialled → parts_of_members (mapping_tree head regions dialled tail uris) ≡ Some (compact_parts head areas tail texts)
mapping_parts head None tail regions uris areas texts a b same =
    parts_made (mapping_tree head regions None tail uris) tail.source.now tail.source_id.now head.last_updated.now head.expires.now head.service.now
    texts None areas false [] (Some head.key.now) b refl (rw a refl) refl refl refl
    ∙ with_the_number head areas tail texts None same
mapping_parts head (Some dialled) tail regions uris areas texts a b same =
    parts_made (mapping_tree head regions (Some dialled) tail uris) tail.source.now tail.source_id.now head.last_updated.now head.expires.now head.service.now
    texts (Some dialled) areas false [] (Some head.key.now) b refl (rw a refl) refl refl refl
    ∙ with_the_number head areas tail texts (Some dialled) same

pub mapping_text : (head : Head) (tail : Tail) (areas : List Region) (texts : List Text) (mapping : Mapping) (text r₁ t₁ r₂ r₃ t₃ r₄ : Text)
    → ((members : json.Members) (end : Text) → AreMembersBehind r₁ members end → AreMembersFirst text (with_head head members) end)
    → r₁ ≡ codes ",\"serviceBoundary\":" ++ t₁ → IsListBefore 3 region_kind t₁ areas r₂
    → ((members : json.Members) (end : Text) → AreMembersBehind r₃ members end → AreMembersBehind r₂ (with_tail tail members) end)
    → r₃ ≡ codes ",\"uri\":" ++ t₃ → IsListBefore 0 as_str t₃ texts r₄ → r₄ ≡ codes "}}"
    → IsMappingOf (compact_parts head areas tail texts) mapping → IsMappingText text mapping
unfolding escape_byte print_from
mapping_text head tail areas texts mapping text r₁ t₁ r₂ r₃ t₃ r₄ first a regions behind b uris ends is =
    let dialled = option_copied tail.number in
    let r = regions.before.value in
    let u = uris.before.value in
    let last = json.member (codes "uri") u json.no_members in
    record {
      members = with_head head (json.member (codes "serviceBoundary") r (with_tail tail last));
      begins = first (json.member (codes "serviceBoundary") r (with_tail tail last)) (125 ∷ [])
          (later_of (codes "serviceBoundary") r₁ t₁ r₂ (125 ∷ []) r (with_tail tail last) a regions.before.begins
          (behind last (125 ∷ []) (later_of (codes "uri") r₃ t₃ r₄ (125 ∷ []) u json.no_members b uris.before.begins ends)));
      numbers = (tt, (tt, (tt, (tt, (regions.before.has.numbers, number_numbers dialled (source_members tail last) (tt, (tt, (uris.before.has.numbers, tt))))))));
      shallow =
          let behind_it = number_shallow dialled (source_members tail last) 4 (omega (arith, uris.before.has.shallow)) in
          omega (arith, regions.before.has.shallow, behind_it);
      tree = mapping_tree head regions.items dialled tail uris.items;
      reads = mapping_reads head dialled tail r u regions.items uris.items regions.before.has.reads uris.before.has.reads;
      parts = compact_parts head areas tail texts;
      means = mapping_parts head dialled tail regions.items uris.items areas texts regions.means uris.means refl;
      is_mapping = is;
    }
  where
    number_numbers : (dialled : Option Text) (rest : json.Members) → MembersHaveNumbers rest → MembersHaveNumbers (with_number dialled rest)
    number_numbers None rest h = h
    number_numbers (Some n) rest h = (tt, h)

    number_shallow : (dialled : Option Text) (rest : json.Members) (deep : ℕ) → members_depth rest ≤ deep → members_depth (with_number dialled rest) ≤ deep
    number_shallow None rest deep h = h
    number_shallow (Some n) rest deep h = omega (arith, h)

-- ---- the line

line_json : Text → json.Members → Json
line_json name members = json.object (json.member name (json.object members) json.no_members)

line_text : (name : Text) (members : json.Members) → print (json_tokens (line_json name members)) ≡ 123 ∷ (quoted name ++ (58 ∷ (123 ∷ (print_from false (members_tokens members) ++ 125 ∷ []))))
unfolding line_json print_from
line_text name members = ap (λ t. 123 ∷ t) (member_first name (json.object members) json.no_members)

line_reads : (name : Text) (members : json.Members) (tree : Members) → MembersHaveNumbers members → members_depth members ≤ 4 → of_members members no_members ≡ Some tree
    → read (print (json_tokens (line_json name members))) ≡ Some (object (member name (object tree) no_members))
unfolding line_json
line_reads name members tree numbers shallow reads = read_printed (line_json name members) (numbers, tt) (omega (arith, shallow)) ∙ rw reads refl

line_is : (name line rest : Text) (mapping : Mapping) (t : IsMappingText rest mapping) → line ≡ 123 ∷ (quoted name ++ (58 ∷ (123 ∷ rest))) → IsUtf8 line
    → desk_line line ≡ order_in (object (member name (object t.tree) no_members))
line_is name line rest mapping t begins utf8 =
    let is : line ≡ print (json_tokens (line_json name t.members)) = begins ∙ ap (λ r. 123 ∷ (quoted name ++ (58 ∷ (123 ∷ r)))) t.begins ∙ sym (line_text name t.members) in
    sym (desk_line-read line line (refl, utf8)) ∙ ap (option_and_then order_in) (ap read is ∙ line_reads name t.members t.tree t.numbers t.shallow t.reads)

order_is : (edit : Mapping → Edit) (tree : Members) (parts : Parts) (mapping : Mapping) → parts_of_members tree ≡ Some parts → IsMappingOf parts mapping → mapping_order edit (parts_of_members tree) ≡ Ok (Stage (edit mapping))
order_is edit tree parts mapping means (fine, is) = rw (means, fine) (ap (λ m. Ok (Stage (edit m))) (sym is))

pub publish_line : (line rest : Text) (mapping : Mapping) → IsMappingText rest mapping → line ≡ codes "{\"publish\":{" ++ rest → IsUtf8 line → desk_line line ≡ Some (Ok (Stage (Publish mapping)))
unfolding escape_byte
publish_line line rest mapping t begins utf8 =
    line_is (codes "publish") line rest mapping t begins utf8 ∙ ap Some (order_is Publish t.tree t.parts mapping t.means t.is_mapping)

pub replace_line : (line rest : Text) (mapping : Mapping) → IsMappingText rest mapping → line ≡ codes "{\"replace\":{" ++ rest → IsUtf8 line → desk_line line ≡ Some (Ok (Stage (Replace mapping)))
unfolding escape_byte
replace_line line rest mapping t begins utf8 =
    line_is (codes "replace") line rest mapping t begins utf8 ∙ ap Some (order_is Replace t.tree t.parts mapping t.means t.is_mapping)

-- ---- small things

pub map_same : (xs : List (ℤ × ℤ)) → map (λ x. x) xs ≡ xs
map_same [] = refl
map_same (x ∷ xs) = ap (λ rest. x ∷ rest) (map_same xs)

pub if_some : {A : Type 0} (P Q : A → Type 0) (o : Option A) → ((a : A) → P a → Q a) → IfSome o P → IfSome o Q
if_some P Q None more h = tt
if_some P Q (Some a) more h = more a h
