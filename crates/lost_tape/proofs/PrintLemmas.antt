-- How values stand in print, one behind another.
use Rattle.std.proofs.Common.{◌≡◌, ℕ, List, [], ◌∷◌, ◌++◌, Bool, true, false, refl, sym, ap, ◌∙◌, append_assoc, append-nil}
use Rattle.std.specs.Prelude.{fold, flat_map}
use Rattle.std.proofs.lemmas.List.Sums.{fold-append}
use Rattle.json.specs.Token.{Token}
use Rattle.json.specs.Json.{Json, null, boolean, number, string, array, object, Items, no_items, item, Members, no_members, member}
use Rattle.json.specs.Print.{escape, quoted, ends, print, print_from}
use Rattle.json.specs.Tree.{json_tokens, items_tokens, members_tokens}
use Rattle.json.proofs.Printed.Tokens.{print_from-append}
use Rattle.lost_tape.specs.Values.{named_texts}

abbrev state : Bool → List Token → Bool
state = fold (λ _ t. ends t)

-- the tokens of a value leave it just ended
mutual
  ends_json : (j : Json) (c : Bool) → state c (json_tokens j) ≡ true
  ends_json null c = refl
  ends_json (boolean b) c = refl
  ends_json (number s) c = refl
  ends_json (string s) c = refl
  ends_json (array js) c = ends_items js false
  ends_json (object ms) c = ends_members ms false

  ends_items : (js : Items) (c : Bool) → state c (items_tokens js) ≡ true
  ends_items no_items c = refl
  ends_items (item j js) c = fold-append (λ _ t. ends t) c (json_tokens j) (items_tokens js) ∙ ends_items js (state c (json_tokens j))

  ends_members : (ms : Members) (c : Bool) → state c (members_tokens ms) ≡ true
  ends_members no_members c = refl
  ends_members (member k j ms) c = fold-append (λ _ t. ends t) false (json_tokens j) (members_tokens ms) ∙ ends_members ms (state false (json_tokens j))

-- a value, and what follows it
value_then : (j : Json) (rest : List Token) → print_from false (json_tokens j ++ rest) ≡ print (json_tokens j) ++ print_from true rest
value_then j rest = print_from-append false (json_tokens j) rest ∙ ap (λ c. print (json_tokens j) ++ print_from c rest) (ends_json j false)

-- a comma stands before a value that is not the first
value_behind : (j : Json) (rest : List Token) → print_from true (json_tokens j ++ rest) ≡ 44 ∷ print_from false (json_tokens j ++ rest)
unfolding print_from
value_behind null rest = refl
value_behind (boolean b) rest = refl
value_behind (number s) rest = refl
value_behind (string s) rest = refl
value_behind (array js) rest = refl
value_behind (object ms) rest = refl

-- a member, and those behind it
pub member_first : (k : List ℕ) (j : Json) (ms : Members) → print_from false (members_tokens (member k j ms)) ≡ quoted k ++ (58 ∷ (print (json_tokens j) ++ print_from true (members_tokens ms)))
unfolding print_from
member_first k j ms = append_assoc (quoted k) (58 ∷ []) _ ∙ ap (λ t. quoted k ++ (58 ∷ t)) (value_then j (members_tokens ms))

pub member_behind : (k : List ℕ) (j : Json) (ms : Members) → print_from true (members_tokens (member k j ms)) ≡ 44 ∷ (quoted k ++ (58 ∷ (print (json_tokens j) ++ print_from true (members_tokens ms))))
unfolding print_from
member_behind k j ms = ap (λ t. 44 ∷ t) (append_assoc (quoted k) (58 ∷ []) _ ∙ ap (λ t. quoted k ++ (58 ∷ t)) (value_then j (members_tokens ms)))

-- the first of an object's members, by the texts that it is cut into
pub first_of : (k text text₁ text₂ end : List ℕ) (j : Json) (ms : Members) → text ≡ quoted k ++ (58 ∷ text₁) → text₁ ≡ print (json_tokens j) ++ text₂ → text₂ ≡ print_from true (members_tokens ms) ++ end
    → text ≡ print_from false (members_tokens (member k j ms)) ++ end
first_of k text text₁ text₂ end j ms a b c =
    let p = print (json_tokens j) in
    let r = print_from true (members_tokens ms) in
    a ∙ ap (λ t. quoted k ++ (58 ∷ t)) (b ∙ ap (λ t. p ++ t) c ∙ sym (append_assoc p r end))
    ∙ sym (append_assoc (quoted k) (58 ∷ (p ++ r)) end) ∙ ap (λ t. t ++ end) (sym (member_first k j ms))

-- a later one
pub later_of : (k text text₁ text₂ end : List ℕ) (j : Json) (ms : Members) → text ≡ 44 ∷ (quoted k ++ (58 ∷ text₁)) → text₁ ≡ print (json_tokens j) ++ text₂ → text₂ ≡ print_from true (members_tokens ms) ++ end
    → text ≡ print_from true (members_tokens (member k j ms)) ++ end
later_of k text text₁ text₂ end j ms a b c =
    let p = print (json_tokens j) in
    let r = print_from true (members_tokens ms) in
    a ∙ ap (λ t. 44 ∷ t) (ap (λ t. quoted k ++ (58 ∷ t)) (b ∙ ap (λ t. p ++ t) c ∙ sym (append_assoc p r end))
    ∙ sym (append_assoc (quoted k) (58 ∷ (p ++ r)) end)) ∙ ap (λ t. t ++ end) (sym (member_behind k j ms))

-- ---- arrays

-- values, a comma behind each
abbrev pub commas : List Json → List ℕ
commas = flat_map (λ j. print (json_tokens j) ++ 44 ∷ [])

abbrev pub json_items : List Json → Items
json_items [] = no_items
json_items (j ∷ js) = item j (json_items js)

behind_comma : (js : List Json) (j : Json) → print_from true (items_tokens (json_items (js ++ j ∷ []))) ≡ 44 ∷ print_from false (items_tokens (json_items (js ++ j ∷ [])))
behind_comma [] j = value_behind j (items_tokens no_items)
behind_comma (x ∷ js) j = value_behind x (items_tokens (json_items (js ++ j ∷ [])))

-- the items of an array, by the texts that it is cut into
pub items_text : (js : List Json) (j : Json) → print_from false (items_tokens (json_items (js ++ j ∷ []))) ≡ commas js ++ (print (json_tokens j) ++ 93 ∷ [])
unfolding print_from
items_text [] j = value_then j (items_tokens no_items)
items_text (x ∷ js) j =
    let p = print (json_tokens x) in
    let more = commas js ++ (print (json_tokens j) ++ 93 ∷ []) in
    value_then x (items_tokens (json_items (js ++ j ∷ []))) ∙ ap (λ t. p ++ t) (behind_comma js j ∙ ap (λ t. 44 ∷ t) (items_text js j))
    ∙ sym (append_assoc p (44 ∷ []) more) ∙ sym (append_assoc (p ++ 44 ∷ []) (commas js) (print (json_tokens j) ++ 93 ∷ []))

-- ---- texts

pub text_value : (s rest : List ℕ) → escape s ≡ s → 34 ∷ (s ++ (34 ∷ rest)) ≡ print (json_tokens (string s)) ++ rest
unfolding print_from
text_value s rest plain =
    ap (λ t. 34 ∷ t) (sym (append_assoc s (34 ∷ []) rest) ∙ ap (λ t. (t ++ (34 ∷ [])) ++ rest) (sym plain))
    ∙ ap (λ t. t ++ rest) (sym (append-nil (quoted s)))

-- ---- an object of texts under names

-- names and texts, a comma behind each
abbrev pub pair_text : List ℕ × List ℕ → List ℕ
pair_text pair = quoted pair.0 ++ (58 ∷ print (json_tokens (string pair.1)))

abbrev pub pair_commas : List (List ℕ × List ℕ) → List ℕ
pair_commas = flat_map (λ pair. pair_text pair ++ 44 ∷ [])

behind_name : (ms : Members) (k : List ℕ) (j : Json) → print_from true (members_tokens (member k j ms)) ≡ 44 ∷ print_from false (members_tokens (member k j ms))
behind_name ms k j = member_behind k j ms ∙ ap (λ t. 44 ∷ t) (sym (member_first k j ms))

behind_pair : (ps : List (List ℕ × List ℕ)) (p : List ℕ × List ℕ) → print_from true (members_tokens (named_texts (ps ++ p ∷ []))) ≡ 44 ∷ print_from false (members_tokens (named_texts (ps ++ p ∷ [])))
behind_pair [] p = behind_name no_members p.0 (string p.1)
behind_pair (x ∷ ps) p = behind_name (named_texts (ps ++ p ∷ [])) x.0 (string x.1)

-- the members of an object of texts, by the texts that it is cut into
pub named_text : (ps : List (List ℕ × List ℕ)) (p : List ℕ × List ℕ) → print_from false (members_tokens (named_texts (ps ++ p ∷ []))) ≡ pair_commas ps ++ (pair_text p ++ 125 ∷ [])
unfolding print_from
named_text [] p = member_first p.0 (string p.1) no_members ∙ sym (append_assoc (quoted p.0) (58 ∷ print (json_tokens (string p.1))) (125 ∷ []))
named_text (x ∷ ps) p =
    let v = print (json_tokens (string x.1)) in
    let more = pair_commas ps ++ (pair_text p ++ 125 ∷ []) in
    member_first x.0 (string x.1) (named_texts (ps ++ p ∷ []))
    ∙ ap (λ t. quoted x.0 ++ (58 ∷ (v ++ t))) (behind_pair ps p ∙ ap (λ t. 44 ∷ t) (named_text ps p))
    ∙ sym (append_assoc (quoted x.0) (58 ∷ v) (44 ∷ more))
    ∙ sym (append_assoc (pair_text x) (44 ∷ []) more)
    ∙ sym (append_assoc (pair_text x ++ 44 ∷ []) (pair_commas ps) (pair_text p ++ 125 ∷ []))
