-- Texts by their names, as members.
use Rattle.std.proofs.Common.{◌≡◌, ℕ, ◌+◌, ◌<◌, List, [], ◌∷◌, ◌++◌, take, length, get_or, String, string_bytes, Ordering, Less, Equal, Greater, nat_cmp, Bor, refl, ap, sym, ◌∙◌}
use Rattle.std.proofs.lemmas.List.{take_more, map-append}
use Rattle.std.specs.Cmp.Lexicographic.{slice_cmp}
use Rattle.std.specs.Ordering.{match_ordering}
use Rattle.std.specs.BTreeMap.{insert_entry}
use Rattle.json.specs.Token.{Token}
use Rattle.serde_json.specs.Data.{Members, no_members, string, put}
use Rattle.lost_spec.specs.Text.{Text}
use Rattle.lost_spec.specs.Civic.{Pairs}
use Rattle.lost_civic.specs.Pairs.{seen_pair, seen_pairs}
use Rattle.lost_writing.specs.Replies.{put_pairs}
use Rattle.lost_writing.specs.Tokens.{then_member, then_members}
use Rattle.lost_writing.specs.Named.{named_members}

-- a name and a text
abbrev pub Entry : Type 0
Entry = Bor Text × Bor Text

by_order : (order : Ordering) (a b c : List Entry) → named_members (match_ordering order a b c) ≡ match_ordering order (named_members a) (named_members b) (named_members c)
by_order Less a b c = refl
by_order Equal a b c = refl
by_order Greater a b c = refl

-- an entry more is a member more
pub named_members-insert_entry : (entries : List Entry) (name text : Bor Text)
    → named_members (insert_entry (λ x y. slice_cmp nat_cmp x.now y.now) entries name text) ≡ put name.now (string text.now) (named_members entries)
named_members-insert_entry [] name text = refl
named_members-insert_entry (entry ∷ entries) name text = by_order (slice_cmp nat_cmp name.now entry.0.now) _ _ _ ∙ rw (named_members-insert_entry entries name text)

-- one more entry is one more member
pub named_members-more : (done : List Entry) (entry : Entry) (before : List Token)
    → then_members (named_members (done ++ entry ∷ [])) before ≡ then_member entry.0.now (string entry.1.now) (then_members (named_members done) before)
named_members-more [] entry before = refl
named_members-more (first ∷ done) entry before = named_members-more done entry (then_member first.0.now (string first.1.now) before)

-- one more pair is put in last
pub put_pairs-push : (before : Members) (pairs : Pairs) (pair : Text × Text) → put_pairs before (pairs ++ pair ∷ []) ≡ put pair.0 (string pair.1) (put_pairs before pairs)
put_pairs-push before [] pair = refl
put_pairs-push before (first ∷ pairs) pair = put_pairs-push (put first.0 (string first.1) before) pairs pair

-- the pairs up to and with a place are those up to it with one more
pub put_pairs-more : {A : Type 0} (pairs : List (String A × String A)) (i : ℕ) (pair : String A × String A) → i < length pairs → pair ≡ get_or pairs i pair
    → put_pairs no_members (seen_pairs (take (i + 1) pairs)) ≡ put (string_bytes pair.0) (string (string_bytes pair.1)) (put_pairs no_members (seen_pairs (take i pairs)))
put_pairs-more pairs i pair within is =
    ap (λ some. put_pairs no_members (seen_pairs some)) (take_more pairs i pair within ∙ ap (λ item. take i pairs ++ item ∷ []) (sym is))
    ∙ (ap (put_pairs no_members) (map-append seen_pair (take i pairs) (pair ∷ [])) ∙ put_pairs-push no_members (seen_pairs (take i pairs)) (seen_pair pair))
