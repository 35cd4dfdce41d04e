-- Values read from their tokens, a turn at a time.
use Rattle.std.proofs.Common.{◌≡◌, ℕ, zero, suc, ◌-◌, ◌<◌, ◌≤◌, List, [], ◌∷◌, ◌++◌, length, Option, Some, None, IfSome, option_map, option_and_then, refl, sym, ap, ◌∙◌, arith}
use Rattle.json.specs.Token.{Token}
use Rattle.json.specs.Reads.{token_of}
use Rattle.json.specs.declared.token.Token as declared
use Rattle.json.specs.declared.token.Token.TheVariants as code
use Rattle.json.specs.Json as json
use Rattle.json.specs.Json.{Parse, parse_map, after_end_array, read_key, items_step, items, members, value, if_last}
use Rattle.json.proofs.Grammar.{value_is, value-begin_object, items_end, items_more, members_end, members_no_key, members_more, read_key-shorter}
use Rattle.serde_json.specs.Data.{Num, Data, null, boolean, number, string, array, object, Items, no_items, item, Members, no_members, put}
use Rattle.serde_json.specs.Find.{as_object}
use Rattle.serde_json.specs.Read.{number_of, of_json, of_items, of_members, converted}
use Rattle.serde_json.specs.View.{view, items_view}
use Rattle.serde_json.specs.declared.value.Value.{Value}
use Rattle.lost_reading.specs.KnownMembers.{of_tokens}

abbrev pick : {A : Type 0} → A → Option A → A
pick d None = d
pick d (Some a) = a

found : {A B : Type 0} (a : A) (r s : List Token) (x : Option B) (b : B) → option_map {U = B × List Token} (λ y. (y, r)) x ≡ Some (b, s) → (r ≡ s) × (x ≡ Some b)
found a r s None b e = absurd (cc)
found a r s (Some y) b e = let same = ap (pick (y, r)) e in (ap (λ p. p.1) same, ap (λ p. Some p.0) same)

pub converted_some : {A B : Type 0} (f : A → Option B) (o : Option (A × List Token)) (b : B) (r : List Token) → converted f o ≡ Some (b, r) → (a : A) × (o ≡ Some (a, r)) × (f a ≡ Some b)
converted_some f None b r e = absurd (cc)
converted_some f (Some p) b r e = let both = found p.0 p.1 r (f p.0) b e in (p.0, ap (λ s. Some (p.0, s)) both.0, both.1)

refused : {B : Type 0} (r : List Token) (x : Option B) → option_map {U = B × List Token} (λ y. (y, r)) x ≡ None → x ≡ None
refused r None e = refl
refused r (Some y) e = absurd (cc)

twice : {A B : Type 0} (g : A → B) (r : List Token) (x : Option A) → option_map (λ b. (b, r)) (option_map g x) ≡ parse_map g (option_map (λ a. (a, r)) x)
twice g r None = refl
twice g r (Some a) = refl

pub converted-array : (o : Option (json.Items × List Token)) → converted of_json (parse_map json.array o) ≡ parse_map array (converted of_items o)
converted-array None = refl
converted-array (Some p) = twice array p.1 (of_items p.0)

pub converted-object : (o : Option (json.Members × List Token)) → converted of_json (parse_map json.object o) ≡ parse_map object (converted (λ ms. of_members ms no_members) o)
converted-object None = refl
converted-object (Some p) = twice object p.1 (of_members p.0 no_members)

with_item : (j : json.Json) (d : Data) → of_json j ≡ Some d → (o : Option (json.Items × List Token)) → converted of_items (parse_map (json.item j) o) ≡ parse_map (item d) (converted of_items o)
with_item j d e None = refl
with_item j d e (Some p) = rw e (twice (item d) p.1 (of_items p.0))

without_item : (j : json.Json) → of_json j ≡ None → (o : Option (json.Items × List Token)) → converted of_items (parse_map (json.item j) o) ≡ None
without_item j e None = refl
without_item j e (Some p) = rw e

with_member : (k : List ℕ) (j : json.Json) (d : Data) (old : Members) → of_json j ≡ Some d → (o : Option (json.Members × List Token))
    → converted (λ ms. of_members ms old) (parse_map (json.member k j) o) ≡ converted (λ ms. of_members ms (put k d old)) o
with_member k j d old e None = refl
with_member k j d old e (Some p) = rw e

without_member : (k : List ℕ) (j : json.Json) (old : Members) → of_json j ≡ None → (o : Option (json.Members × List Token)) → converted (λ ms. of_members ms old) (parse_map (json.member k j) o) ≡ None
without_member k j old e None = refl
without_member k j old e (Some p) = rw e

module _ (p : Parse json.Json) where
  pub item_read : (n : ℕ) (ts r : List Token) (d : Data) → 0 < n → after_end_array ts ≡ None → converted of_json (p ts) ≡ Some (d, r)
      → converted of_items (items p n ts) ≡ parse_map (item d) (converted of_items (items p (n - 1) r))
  item_read n ts r d some going e = let j = converted_some of_json (p ts) d r e in ap (converted of_items) (items_more p n ts r j.0 some going j.1) ∙ with_item j.0 d j.2 _

  no_item : (more : Parse json.Items) (o : Option (json.Json × List Token)) → converted of_json o ≡ None → converted of_items (option_and_then (λ q. parse_map (json.item q.0) (more q.1)) o) ≡ None
  no_item more None e = refl
  no_item more (Some q) e = without_item q.0 (refused q.1 (of_json q.0) e) (more q.1)

  pub item_refused : (n : ℕ) (ts : List Token) → after_end_array ts ≡ None → converted of_json (p ts) ≡ None → converted of_items (items p n ts) ≡ None
  unfolding items
  item_refused zero ts going e = refl
  item_refused (suc n) ts going e = ap (λ o. converted of_items (items_step p (items p n) ts o)) going ∙ no_item (items p n) (p ts) e

  pub items_over : (n : ℕ) (ts r : List Token) → length ts ≤ n → after_end_array ts ≡ Some r → converted of_items (items p n ts) ≡ Some (no_items, r)
  items_over n ts r enough e = ap (converted of_items) (items_end p n ts r enough e)

  module _ (old : Members) where
    pub member_read : (n : ℕ) (k : List ℕ) (ts s r : List Token) (d : Data) → 0 < n → read_key ts ≡ Some (Some k, s) → converted of_json (p s) ≡ Some (d, r)
        → converted (λ ms. of_members ms old) (members p n ts) ≡ converted (λ ms. of_members ms (put k d old)) (members p (n - 1) r)
    member_read n k ts s r d some key e =
        let j = converted_some of_json (p s) d r e in
        ap (converted (λ ms. of_members ms old)) (members_more p n k ts s r j.0 some key j.1) ∙ with_member k j.0 d old j.2 _

    no_member : (k : List ℕ) (more : Parse json.Members) (o : Option (json.Json × List Token)) → converted of_json o ≡ None
        → converted (λ ms. of_members ms old) (option_and_then (λ q. parse_map (json.member k q.0) (more q.1)) o) ≡ None
    no_member k more None e = refl
    no_member k more (Some q) e = without_member k q.0 old (refused q.1 (of_json q.0) e) (more q.1)

    pub member_refused : (n : ℕ) (k : List ℕ) (ts s : List Token) → read_key ts ≡ Some (Some k, s) → converted of_json (p s) ≡ None → converted (λ ms. of_members ms old) (members p n ts) ≡ None
    unfolding members
    member_refused zero k ts s key e = refl
    member_refused (suc n) k ts s key e = rw key (no_member k (members p n) (p s) e)

    pub key_refused : (n : ℕ) (ts : List Token) → read_key ts ≡ None → converted (λ ms. of_members ms old) (members p n ts) ≡ None
    key_refused n ts e = ap (converted (λ ms. of_members ms old)) (members_no_key p n ts e)

    pub members_over : (n : ℕ) (ts r : List Token) → length ts ≤ n → read_key ts ≡ Some (None, r) → converted (λ ms. of_members ms old) (members p n ts) ≡ Some (old, r)
    members_over n ts r enough e = ap (converted (λ ms. of_members ms old)) (members_end p n ts r enough e)

-- ---- the items of an array, read up to some tokens

-- a list that grows at its end
abbrev pub items_before : List Value → Items → Items
items_before [] rest = rest
items_before (v ∷ vs) rest = item (view v) (items_before vs rest)

pub items_before-no_items : (vs : List Value) → items_before vs no_items ≡ items_view vs
items_before-no_items [] = refl
items_before-no_items (v ∷ vs) = ap (item (view v)) (items_before-no_items vs)

pub items_before-push : (vs : List Value) (v : Value) (rest : Items) → items_before vs (item (view v) rest) ≡ items_before (vs ++ v ∷ []) rest
items_before-push [] v rest = refl
items_before-push (w ∷ vs) v rest = ap (item (view w)) (items_before-push vs v rest)

both : (before : Items → Items) (d : Data) (o : Option (Items × List Token)) → parse_map before (parse_map (item d) o) ≡ parse_map (λ rest. before (item d rest)) o
both before d None = refl
both before d (Some p) = refl

none_before : (o : Option (Items × List Token)) → o ≡ parse_map (λ rest. rest) o
none_before None = refl
none_before (Some p) = refl

abbrev pub items_of : ℕ → List Token → Option (Items × List Token)
items_of depth ts = converted of_items (items (value depth) (length ts) ts)

-- items were read, from some tokens to others; those that were read, put before the rest, are like this
pub record HasReadItems (Alike : (Items → Items) → Type 0) (depth : ℕ) (start now : List Token) : Type 0 where
  pub bound : ℕ
  pub before : Items → Items
  pub enough : length now ≤ bound
  pub read : items_of depth start ≡ parse_map before (converted of_items (items (value depth) bound now))
  pub like : Alike before
  pub no_longer : length now ≤ length start

pub items_begun : {Alike : (Items → Items) → Type 0} (depth : ℕ) (ts : List Token) → Alike (λ rest. rest) → HasReadItems Alike depth ts ts
items_begun depth ts like = record { bound = length ts; before = λ rest. rest; enough = omega arith; read = none_before (items_of depth ts); like = like; no_longer = omega arith }

module _ {Alike : (Items → Items) → Type 0} (depth : ℕ) (start ts : List Token) (so_far : HasReadItems Alike depth start ts) where
  pub items_more_read : {After : (Items → Items) → Type 0} (r : List Token) (d : Data) → after_end_array ts ≡ None → converted of_json (value depth ts) ≡ Some (d, r) → length r < length ts
      → ((before : Items → Items) → Alike before → After (λ rest. before (item d rest))) → HasReadItems After depth start r
  items_more_read r d going e less after =
      let enough = so_far.enough in
      let no_longer = so_far.no_longer in
      record {
        bound = so_far.bound - 1;
        before = λ rest. so_far.before (item d rest);
        enough = omega arith;
        read = so_far.read ∙ ap (parse_map so_far.before) (item_read (value depth) so_far.bound ts r d (omega arith) going e) ∙ both so_far.before d _;
        like = after so_far.before so_far.like;
        no_longer = omega arith;
      }

  pub items_stopped : after_end_array ts ≡ None → converted of_json (value depth ts) ≡ None → items_of depth start ≡ None
  items_stopped going e = so_far.read ∙ ap (parse_map so_far.before) (item_refused (value depth) so_far.bound ts going e)

  pub items_done : (r : List Token) → after_end_array ts ≡ Some r → items_of depth start ≡ Some (so_far.before no_items, r)
  items_done r over = so_far.read ∙ ap (parse_map so_far.before) (items_over (value depth) so_far.bound ts r so_far.enough over)

-- ---- the members of an object, read up to some tokens

abbrev pub all_members : ℕ → List Token → Option (Members × List Token)
all_members depth ts = converted (λ ms. of_members ms no_members) (members (value depth) (length ts) ts)

-- members were read, from some tokens to others, and make members like this
pub record HasReadMembers (Alike : Members → Type 0) (depth : ℕ) (start now : List Token) : Type 0 where
  pub bound : ℕ
  pub all : Members
  pub enough : length now ≤ bound
  pub read : all_members depth start ≡ converted (λ ms. of_members ms all) (members (value depth) bound now)
  pub like : Alike all
  pub no_longer : length now ≤ length start

pub members_begun : {Alike : Members → Type 0} (depth : ℕ) (ts : List Token) → Alike no_members → HasReadMembers Alike depth ts ts
members_begun depth ts like = record { bound = length ts; all = no_members; enough = omega arith; read = refl; like = like; no_longer = omega arith }

module _ {Alike : Members → Type 0} (depth : ℕ) (start ts : List Token) (so_far : HasReadMembers Alike depth start ts) where
  pub members_more_read : {After : Members → Type 0} (k : List ℕ) (s r : List Token) (d : Data) → read_key ts ≡ Some (Some k, s) → converted of_json (value depth s) ≡ Some (d, r) → length r < length s
      → ((all : Members) → Alike all → After (put k d all)) → HasReadMembers After depth start r
  members_more_read k s r d key e less after =
      let enough = so_far.enough in
      let no_longer = so_far.no_longer in
      let shorter = read_key-shorter ts (Some k) s key in
      record {
        bound = so_far.bound - 1;
        all = put k d so_far.all;
        enough = omega arith;
        read = so_far.read ∙ member_read (value depth) so_far.all so_far.bound k ts s r d (omega arith) key e;
        like = after so_far.all so_far.like;
        no_longer = omega arith;
      }

  pub members_stopped : (k : List ℕ) (s : List Token) → read_key ts ≡ Some (Some k, s) → converted of_json (value depth s) ≡ None → all_members depth start ≡ None
  members_stopped k s key e = so_far.read ∙ member_refused (value depth) so_far.all so_far.bound k ts s key e

  pub keys_stopped : read_key ts ≡ None → all_members depth start ≡ None
  keys_stopped e = so_far.read ∙ key_refused (value depth) so_far.all so_far.bound ts e

  pub members_done : (r : List Token) → read_key ts ≡ Some (None, r) → (all : Members) × (all_members depth start ≡ Some (all, r)) × Alike all
  members_done r over = (so_far.all, so_far.read ∙ members_over (value depth) so_far.all so_far.bound ts r so_far.enough over, so_far.like)

-- ---- the whole text

abbrev pub whole : Option (json.Json × List Token) → Option Data
whole o = option_and_then of_json (option_and_then (λ p. if_last p.0 p.1) o)

pub whole_read : (o : Option (json.Json × List Token)) (d : Data) → converted of_json o ≡ Some (d, []) → whole o ≡ Some d
whole_read o d e = let j = converted_some of_json o d [] e in ap whole j.1 ∙ j.2

pub whole_and_more : (o : Option (json.Json × List Token)) (d : Data) (t : Token) (r : List Token) → converted of_json o ≡ Some (d, t ∷ r) → whole o ≡ None
whole_and_more o d t r e = ap whole (converted_some of_json o d (t ∷ r) e).1

pub whole_refused : (o : Option (json.Json × List Token)) → converted of_json o ≡ None → whole o ≡ None
whole_refused None e = refl
whole_refused (Some (j, [])) e = refused [] (of_json j) e
whole_refused (Some (j, t ∷ r)) e = refl

pub whole_some : (o : Option (json.Json × List Token)) (d : Data) → whole o ≡ Some d → converted of_json o ≡ Some (d, [])
whole_some None d e = absurd (cc)
whole_some (Some (j, [])) d e = ap (option_map (λ b. (b, []))) e
whole_some (Some (j, t ∷ r)) d e = absurd (cc)

-- ---- what begins with no bracket of an object is none

abbrev data_at : Data → Option (Data × List Token) → Data
data_at d None = d
data_at d (Some p) = p.0

array_at : (x : Option (Items × List Token)) (d : Data) (r : List Token) → parse_map array x ≡ Some (d, r) → as_object d ≡ None
array_at None d r e = absurd (cc)
array_at (Some q) d r e = let same : array q.0 ≡ d = ap (data_at d) e in ap as_object (sym same)

plain_at : (at d : Data) (ts r : List Token) → ◌≡◌ {A = Option (Data × List Token)} (Some (at, ts)) (Some (d, r)) → as_object at ≡ None → as_object d ≡ None
plain_at at d ts r e is = let same : at ≡ d = ap (data_at d) e in ap as_object (sym same) ∙ is

number_at : (x : Option Num) (d : Data) (ts r : List Token) → option_map {U = Data × List Token} (λ b. (b, ts)) (option_map number x) ≡ Some (d, r) → as_object d ≡ None
number_at None d ts r e = absurd (cc)
number_at (Some x) d ts r e = plain_at (number x) d ts r e refl

no_array : (depth : ℕ) (ts : List Token) (d : Data) (r : List Token) → converted of_json (value depth (Token.begin_array ∷ ts)) ≡ Some (d, r) → as_object d ≡ None
unfolding value
no_array zero ts d r e = absurd (cc)
no_array (suc n) ts d r e = array_at (converted of_items (items (value n) (length ts) ts)) d r (sym (converted-array (items (value n) (length ts) ts)) ∙ e)

pub no_object : (depth : ℕ) (t : Token) (ts : List Token) (d : Data) (r : List Token) → (t ≡ Token.begin_object → ⊥) → converted of_json (value depth (t ∷ ts)) ≡ Some (d, r)
    → as_object d ≡ None
no_object depth Token.begin_object ts d r h e = absurd (h refl)
no_object depth Token.end_object ts d r h e = let f = sym (ap (converted of_json) (value_is depth (Token.end_object ∷ ts))) ∙ e in absurd (cc)
no_object depth Token.begin_array ts d r h e = no_array depth ts d r e
no_object depth Token.end_array ts d r h e = let f = sym (ap (converted of_json) (value_is depth (Token.end_array ∷ ts))) ∙ e in absurd (cc)
no_object depth (Token.key s) ts d r h e = let f = sym (ap (converted of_json) (value_is depth (Token.key s ∷ ts))) ∙ e in absurd (cc)
no_object depth (Token.string s) ts d r h e = plain_at (string s) d ts r (sym (ap (converted of_json) (value_is depth (Token.string s ∷ ts))) ∙ e) refl
no_object depth (Token.number s) ts d r h e = number_at (number_of s) d ts r (sym (ap (converted of_json) (value_is depth (Token.number s ∷ ts))) ∙ e)
no_object depth (Token.boolean b) ts d r h e = plain_at (boolean b) d ts r (sym (ap (converted of_json) (value_is depth (Token.boolean b ∷ ts))) ∙ e) refl
no_object depth Token.null ts d r h e = plain_at null d ts r (sym (ap (converted of_json) (value_is depth (Token.null ∷ ts))) ∙ e) refl
no_object depth Token.bad ts d r h e = let f = sym (ap (converted of_json) (value_is depth (Token.bad ∷ ts))) ∙ e in absurd (cc)

if_some : (x : Option Data) (P : Data → Type 0) → ((d : Data) → x ≡ Some d → P d) → IfSome x P
if_some None P h = tt
if_some (Some d) P h = h d refl

-- ---- a line's tokens

pub no_line_object : (t : Token) (ts : List Token) → (t ≡ Token.begin_object → ⊥) → IfSome (of_tokens (t ∷ ts)) (λ d. as_object d ≡ None)
no_line_object t ts h = if_some (of_tokens (t ∷ ts)) (λ d. as_object d ≡ None) (λ d e. no_object 127 t ts d [] h (whole_some (value 127 (t ∷ ts)) d e))

pub line_object : (ts r : List Token) (all : Members) → r ≡ [] → converted (λ ms. of_members ms no_members) (members (value 126) (length ts) ts) ≡ Some (all, r)
    → of_tokens (Token.begin_object ∷ ts) ≡ Some (object all)
line_object ts r all over e =
    whole_read (value 127 (Token.begin_object ∷ ts)) (object all)
    (ap (converted of_json) (value-begin_object 127 ts (omega arith)) ∙ converted-object (members (value 126) (length ts) ts) ∙ ap (parse_map object) e ∙ ap (λ x. Some (object all, x)) over)

pub line_and_more : (ts r : List Token) (all : Members) → (r ≡ [] → ⊥) → converted (λ ms. of_members ms no_members) (members (value 126) (length ts) ts) ≡ Some (all, r)
    → of_tokens (Token.begin_object ∷ ts) ≡ None
line_and_more ts [] all h e = absurd (h refl)
line_and_more ts (t ∷ more) all h e =
    whole_and_more (value 127 (Token.begin_object ∷ ts)) (object all) t more
    (ap (converted of_json) (value-begin_object 127 ts (omega arith)) ∙ converted-object (members (value 126) (length ts) ts) ∙ ap (parse_map object) e)

pub line_refused : (ts : List Token) → converted (λ ms. of_members ms no_members) (members (value 126) (length ts) ts) ≡ None → of_tokens (Token.begin_object ∷ ts) ≡ None
line_refused ts e =
    whole_refused (value 127 (Token.begin_object ∷ ts))
    (ap (converted of_json) (value-begin_object 127 ts (omega arith)) ∙ converted-object (members (value 126) (length ts) ts) ∙ ap (parse_map object) e)

pub no_line : of_tokens [] ≡ None
no_line = whole_refused (value 127 []) (ap (converted of_json) (value_is 127 []))

pub no_begin : (t : declared.Token) → (t ≡ code.BeginObject → ⊥) → token_of t ≡ Token.begin_object → ⊥
no_begin code.BeginObject h e = h refl
no_begin code.EndObject h e = cc
no_begin code.BeginArray h e = cc
no_begin code.EndArray h e = cc
no_begin (code.Key s) h e = cc
no_begin (code.String s) h e = cc
no_begin (code.Number s) h e = cc
no_begin (code.Bool b) h e = cc
no_begin code.Null h e = cc
no_begin code.Bad h e = cc
