-- The tree of a value, where its tokens stand, and the tree of a whole text.
use Rattle.std.proofs.Common.{◌≡◌, ℕ, ◌+◌, ◌*◌, ◌≤◌, List, [], ◌++◌, map, length, true, true≢false, Option, Some, None, is_some, option_map, option_and_then, refl, sym, ap, ◌∙◌, subst, arith, length-append, append-nil}
use Rattle.std.specs.Prelude.{unwrap_or, IsSome}
use Rattle.std.specs.List.{list_all}
use Rattle.std.proofs.lemmas.List.Folds.{list_all-append}
use Rattle.std.proofs.lemmas.Bool.{and_parts}
use Rattle.json.specs.Token.{Token}
use Rattle.json.specs.Lex.{tokens}
use Rattle.json.specs.Json as json
use Rattle.json.specs.Json.{Json, value, if_last, document}
use Rattle.json.specs.Find.{BeginsWith}
use Rattle.json.specs.Print.{print}
use Rattle.json.specs.Tree.{json_tokens, items_tokens, members_tokens, depth, items_depth, members_depth, HasNumbers}
use Rattle.json.proofs.Printed.Tokens.{tokens-print}
use Rattle.json.proofs.Printed.Trees.{value-json_tokens, ArePrintable-json_tokens}
use Rattle.json.proofs.Unique.Spelling.{value-json_tokens_back, tokens-document}
use Rattle.json.specs.Tape.{node_token}
use Rattle.json.specs.declared.tape.Node.{Node}
use Rattle.serde_json.specs.Data.{Data, null, number, Members, put}
use Rattle.serde_json.specs.Read.{number_of, of_json, of_items, of_members, read}
use Rattle.lost_tape.specs.Tapes.{tree_at, data_of, IsTree, is_sure, nests_within, IsTapeOf}
use Rattle.lost_tape.proofs.NestLemmas.{depth_within}

-- ---- depth

mutual
  half_json : (j : Json) → 2 * depth j ≤ length (json_tokens j)
  half_json json.null = omega arith
  half_json (json.boolean b) = omega arith
  half_json (json.number s) = omega arith
  half_json (json.string s) = omega arith
  half_json (json.array js) = omega (arith, half_items js)
  half_json (json.object ms) = omega (arith, half_members ms)

  half_items : (js : json.Items) → 2 * items_depth js + 1 ≤ length (items_tokens js)
  half_items json.no_items = omega arith
  half_items (json.item j js) = omega (arith, half_json j, half_items js, length-append (json_tokens j) (items_tokens js))

  half_members : (ms : json.Members) → 2 * members_depth ms + 1 ≤ length (members_tokens ms)
  half_members json.no_members = omega arith
  half_members (json.member k j ms) = omega (arith, half_json j, half_members ms, length-append (json_tokens j) (members_tokens ms))

-- ---- a value that tokens begin with

pub tree_at-from : (ts : List Token) (j : Json) (d : Data) → BeginsWith ts j → of_json j ≡ Some d → tree_at ts ≡ Some d
unfolding tree_at
tree_at-from ts j d (n, rest, e) is =
    let spelled : ts ≡ json_tokens j ++ rest = value-json_tokens_back n ts rest j e in
    let within : depth j ≤ length ts = omega (arith, half_json j, ap length spelled, length-append (json_tokens j) rest) in
    let whole : value (length ts) ts ≡ Some (j, rest) = ap (value (length ts)) spelled ∙ value-json_tokens j (length ts) rest within in
    ap (option_and_then (λ p. of_json p.0)) whole ∙ is

abbrev pub Held : List Token → Type 0
Held ts = (j : Json) × (d : Data) × BeginsWith ts j × (of_json j ≡ Some d) × (tree_at ts ≡ Some d)

tree_held : (ts : List Token) (n : ℕ) (j : Json) (rest : List Token) (o : Option Data) → value n ts ≡ Some (j, rest) → of_json j ≡ o → is_some o ≡ true
    → (i : Json) × (d : Data) × BeginsWith ts i × (of_json i ≡ Some d)
tree_held ts n j rest None e is h = absurd (true≢false (sym h))
tree_held ts n j rest (Some d) e is h = (j, d, (n, rest, e), is)

value_held : (ts : List Token) (n : ℕ) (o : Option (Json × List Token)) → value n ts ≡ o → is_some (option_and_then (λ p. of_json p.0) o) ≡ true
    → (i : Json) × (d : Data) × BeginsWith ts i × (of_json i ≡ Some d)
value_held ts n None e h = absurd (true≢false (sym h))
value_held ts n (Some (j, rest)) e h = tree_held ts n j rest (of_json j) e refl h

-- where a value has a tree, this is it
pub held : (ts : List Token) → IsTree ts → Held ts
unfolding tree_at
held ts h =
    let x = value_held ts (length ts) (value (length ts) ts) refl h in
    (x.0, x.1, x.2, x.3, tree_at-from ts x.0 x.1 x.2 x.3)

pub data_of-from : (ts : List Token) (d : Data) → tree_at ts ≡ Some d → data_of ts ≡ d
data_of-from ts d e = ap (λ o. unwrap_or o null) e

pub IsTree-from : (ts : List Token) (d : Data) → tree_at ts ≡ Some d → IsTree ts
IsTree-from ts d e = ap is_some e

-- ---- a whole text

some_map : {A B : Type 0} (f : A → B) (o : Option A) → is_some o ≡ true → is_some (option_map f o) ≡ true
some_map f None h = h
some_map f (Some a) h = refl

some_then : {A B : Type 0} (f : A → Option B) (o : Option A) → is_some o ≡ true → ((a : A) → is_some (f a) ≡ true) → is_some (option_and_then f o) ≡ true
some_then f None h k = h
some_then f (Some a) h k = k a

mutual
  sure_json : (j : Json) → list_all is_sure (json_tokens j) ≡ true → is_some (of_json j) ≡ true
  sure_json json.null h = refl
  sure_json (json.boolean b) h = refl
  sure_json (json.number s) h = some_map number (number_of s) (and_parts (is_some (number_of s)) true h).0
  sure_json (json.string s) h = refl
  sure_json (json.array js) h = some_map _ (of_items js) (sure_items js h)
  sure_json (json.object ms) h = some_map _ (of_members ms _) (sure_members ms _ h)

  sure_items : (js : json.Items) → list_all is_sure (items_tokens js) ≡ true → is_some (of_items js) ≡ true
  sure_items json.no_items h = refl
  sure_items (json.item j js) h =
      let parts = and_parts (list_all is_sure (json_tokens j)) (list_all is_sure (items_tokens js)) (sym (list_all-append is_sure (json_tokens j) (items_tokens js)) ∙ h) in
      some_then _ (of_json j) (sure_json j parts.0) (λ d. some_map _ (of_items js) (sure_items js parts.1))

  sure_members : (ms : json.Members) (before : Members) → list_all is_sure (members_tokens ms) ≡ true → is_some (of_members ms before) ≡ true
  sure_members json.no_members before h = refl
  sure_members (json.member k j ms) before h =
      let parts = and_parts (list_all is_sure (json_tokens j)) (list_all is_sure (members_tokens ms)) (sym (list_all-append is_sure (json_tokens j) (members_tokens ms)) ∙ h) in
      some_then _ (of_json j) (sure_json j parts.0) (λ d. sure_members ms (put k d before) parts.1)

some_is : {A : Type 0} (o : Option A) → is_some o ≡ true → (a : A) × (o ≡ Some a)
some_is None h = absurd (true≢false (sym h))
some_is (Some a) h = (a, refl)

-- a text whose values nest at most 127 deep and whose numbers are whole ones has a tree, the one at its first token
pub read-from : (text : List ℕ) (j : Json) → document text ≡ Some j → BeginsWith (tokens text) j → nests_within 0 (tokens text) ≡ true → list_all is_sure (tokens text) ≡ true
    → IsTree (tokens text) × (read text ≡ Some (data_of (tokens text)))
read-from text j e begins nests sure =
    let spelled : tokens text ≡ json_tokens j = tokens-document text j e in
    let tree = some_is (of_json j) (sure_json j (ap (list_all is_sure) (sym spelled) ∙ sure)) in
    let at : tree_at (tokens text) ≡ Some tree.0 = tree_at-from (tokens text) j tree.0 begins tree.1 in
    let within : depth j ≤ 127 = depth_within j (ap (nests_within 0) (sym spelled) ∙ nests) in
    let whole : value 127 (tokens text) ≡ Some (j, []) = ap (value 127) (spelled ∙ sym (append-nil (json_tokens j))) ∙ value-json_tokens j 127 [] within in
    let is : read text ≡ Some tree.0 = ap (λ o. option_and_then of_json (option_and_then (λ p. if_last p.0 p.1) o)) whole ∙ tree.1 in
    (IsTree-from _ tree.0 at, is ∙ ap Some (sym (data_of-from _ tree.0 at)))

pub tape_read : (text : List ℕ) (ts : List Token) (nodes : List Node) → IsTapeOf text ts → map node_token nodes ≡ ts → nests_within 0 (map node_token nodes) ≡ true → list_all is_sure (map node_token nodes) ≡ true
    → IsTree ts × (read text ≡ Some (data_of ts))
tape_read text ts nodes (same, j, e, begins) seen nests sure =
    let found = read-from text j e (subst (λ us. BeginsWith us j) same begins) (ap (nests_within 0) (sym same ∙ sym seen) ∙ nests) (ap (list_all is_sure) (sym same ∙ sym seen) ∙ sure) in
    subst (λ us. IsTree us × (read text ≡ Some (data_of us))) (sym same) found

tape_at : (text : List ℕ) (ts : List Token) (o : Option Json) → document text ≡ o → is_some o ≡ true → ts ≡ tokens text → ((j : Json) → document text ≡ Some j → BeginsWith ts j) → IsTapeOf text ts
tape_at text ts None e h same begins = absurd (true≢false (sym h))
tape_at text ts (Some j) e h same begins = (same, j, e, begins j e)

pub is_tape_of : (text : List ℕ) (ts : List Token) → (ts ≡ tokens text) × IsSome (document text) → ((j : Json) → document text ≡ Some j → BeginsWith ts j) → IsTapeOf text ts
is_tape_of text ts ok begins = tape_at text ts (document text) refl ok.1 ok.0 begins

-- ---- a printed value

-- the text of a value is read as that value
pub read_printed : (j : Json) → HasNumbers j → depth j ≤ 127 → read (print (json_tokens j)) ≡ of_json j
read_printed j numbers shallow =
    let same : tokens (print (json_tokens j)) ≡ json_tokens j ++ [] = tokens-print (json_tokens j) (ArePrintable-json_tokens j numbers) ∙ sym (append-nil (json_tokens j)) in
    ap (λ o. option_and_then of_json (option_and_then (λ r. if_last r.0 r.1) o)) (ap (value 127) same ∙ value-json_tokens j 127 [] shallow)
