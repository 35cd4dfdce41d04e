-- How deep a value nests, by a walk over its tokens.
use Rattle.std.proofs.Common.{◌≡◌, ℕ, ◌+◌, ◌-◌, ◌≤◌, List, [], ◌∷◌, ◌++◌, append_assoc, append-nil, true, nat_le, sym, ap, ◌∙◌, subst, arith}
use Rattle.std.proofs.lemmas.Bool.{and_parts}
use Rattle.json.specs.Token.{Token}
use Rattle.json.specs.Json as json
use Rattle.json.specs.Json.{Json}
use Rattle.json.specs.Tree.{json_tokens, items_tokens, members_tokens, depth, items_depth, members_depth}
use Rattle.lost_tape.specs.Tapes.{nests_within}

at_most : (level : ℕ) → nat_le level 127 ≡ true → level ≤ 127
at_most level h = grind arith

-- one token that opens and closes nothing
leaf : (level : ℕ) (rest : List Token) → nests_within level (Token.null ∷ rest) ≡ true → (level + 0 ≤ 127) × (nests_within level rest ≡ true)
leaf level rest h =
    let p = and_parts (nat_le level 127) (nests_within level rest) h in
    let within = at_most level p.0 in
    (omega (arith, within), p.1)

-- the closing bracket leads back
closed : (level : ℕ) (rest : List Token) → nests_within (level + 1) (Token.end_array ∷ rest) ≡ true → nests_within level rest ≡ true
closed level rest h =
    let back : level + 1 - 1 ≡ level = omega arith in
    let p = and_parts (nat_le (level + 1 - 1) 127) (nests_within (level + 1 - 1) rest) h in
    subst (λ l. nests_within l rest ≡ true) back p.1

-- where the tokens of a value and what follows lead to no level above 127, the value nests no deeper from there
mutual
  pub nests_json : (j : Json) (level : ℕ) (rest : List Token) → nests_within level (json_tokens j ++ rest) ≡ true → (level + depth j ≤ 127) × (nests_within level rest ≡ true)
  nests_json json.null level rest h = leaf level rest h
  nests_json (json.boolean b) level rest h = leaf level rest h
  nests_json (json.number s) level rest h = leaf level rest h
  nests_json (json.string s) level rest h = leaf level rest h
  nests_json (json.array js) level rest h =
      let p = and_parts (nat_le (level + 1) 127) (nests_within (level + 1) (items_tokens js ++ rest)) h in
      let inner = nests_items js level rest (at_most (level + 1) p.0) p.1 in
      (omega (arith, inner.0), inner.1)
  nests_json (json.object ms) level rest h =
      let p = and_parts (nat_le (level + 1) 127) (nests_within (level + 1) (members_tokens ms ++ rest)) h in
      let inner = nests_members ms level rest (at_most (level + 1) p.0) p.1 in
      (omega (arith, inner.0), inner.1)

  nests_items : (js : json.Items) (level : ℕ) (rest : List Token) → level + 1 ≤ 127 → nests_within (level + 1) (items_tokens js ++ rest) ≡ true
      → (level + 1 + items_depth js ≤ 127) × (nests_within level rest ≡ true)
  nests_items json.no_items level rest within h = (omega (arith, within), closed level rest h)
  nests_items (json.item j js) level rest within h =
      let first = nests_json j (level + 1) (items_tokens js ++ rest) (sym (ap (nests_within (level + 1)) (append_assoc (json_tokens j) (items_tokens js) rest)) ∙ h) in
      let others = nests_items js level rest within first.1 in
      (omega (arith, first.0, others.0), others.1)

  nests_members : (ms : json.Members) (level : ℕ) (rest : List Token) → level + 1 ≤ 127 → nests_within (level + 1) (members_tokens ms ++ rest) ≡ true
      → (level + 1 + members_depth ms ≤ 127) × (nests_within level rest ≡ true)
  nests_members json.no_members level rest within h = (omega (arith, within), closed level rest h)
  nests_members (json.member k j ms) level rest within h =
      let p = and_parts (nat_le (level + 1) 127) (nests_within (level + 1) ((json_tokens j ++ members_tokens ms) ++ rest)) h in
      let first = nests_json j (level + 1) (members_tokens ms ++ rest) (sym (ap (nests_within (level + 1)) (append_assoc (json_tokens j) (members_tokens ms) rest)) ∙ p.1) in
      let others = nests_members ms level rest within first.1 in
      (omega (arith, first.0, others.0), others.1)

-- a value whose tokens lead to no level above 127 nests at most 127 deep
pub depth_within : (j : Json) → nests_within 0 (json_tokens j) ≡ true → depth j ≤ 127
depth_within j h = let n = (nests_json j 0 [] (ap (nests_within 0) (append-nil (json_tokens j)) ∙ h)).0 in omega (arith, n)
