-- The line of a reply that holds one mapping, put together from its pieces.
use Rattle.std.proofs.Common.{◌≡◌, ℕ, List, [], ◌∷◌, ◌++◌, length, Option, None, Some, IfSome, codes, decimal, refl, ap, ◌∙◌, append_assoc, arith}
use Rattle.json.specs.Print.{escape, escape_byte}
use Rattle.serde_json.specs.Data.{Data, number, string, unsigned, object, no_members, member}
use Rattle.serde_json.specs.Written.{compact_text}
use Rattle.lost_spec.specs.Text.{Text}
use Rattle.lost_mapping.specs.Shown.{reference_text}
use Rattle.lost_mapping.specs.Path.{shown_path}
use Rattle.lost_mapping.specs.Reply.{all_shown_of}
use Rattle.lost_mapping.specs.declared.path.Path.{Path}
use Rattle.lost_mapping.specs.declared.reply.Boundary.TheVariants.{ByReference}
use Rattle.lost_mapping.specs.declared.reply.FoundMappings.{FoundMappings}
use Rattle.lost_writing.specs.Replies.{one_member, list_data, texts_data, shown_data, line_of}
use Rattle.lost_writing.specs.FoundLine.{IsPlain, before_edition, before_id, before_mapping, before_server, after_server, found_text}
use Rattle.lost_writing.specs.declared.writing.found_line.FoundLine.{FoundLine}

-- what follows from what is known of a value that may be there
pub when_some : {A : Type 0} {P Q : A → Type 0} (found : Option A) → ((x : A) → P x → Q x) → IfSome found P → IfSome found Q
when_some None follows known = tt
when_some (Some x) follows known = follows x known

-- a list of no items
pub no_items_in : {A : Type 0} (xs : List A) → length xs ≡ 0 → xs ≡ []
no_items_in [] none = refl
no_items_in (x ∷ xs) none = absurd (omega (arith, none))

-- one mapping, by reference
pub only_mapping_is : (found : FoundMappings) (text : Text) → found.rest.items ≡ [] → found.boundary ≡ ByReference → text ≡ reference_text found.first
    → compact_text (list_data shown_data (all_shown_of found)) ≡ 91 ∷ (text ++ 93 ∷ [])
unfolding reference_text
only_mapping_is found text none by is = rw (none, by, is) refl

-- a path of the server's name alone
pub only_server_is : (path : Path) → path.names.now ≡ [] → IsPlain path.server.now → compact_text (texts_data (shown_path path)) ≡ 91 ∷ 34 ∷ (path.server.now ++ 34 ∷ 93 ∷ [])
only_server_is path none plain =
    let name = path.server.now in
    rw (none, plain) (ap (λ t. 91 ∷ 34 ∷ t) (append_assoc name (34 ∷ []) (93 ∷ [])))

-- ---- the line

abbrev found_data : (edition : ℕ) (id : Text) (mappings path : Data) → Data
found_data edition id mappings path =
    one_member (codes "findServiceResponse") (object
    (member (codes "edition") (number (unsigned edition))
    (member (codes "locationUsed") (string id)
    (member (codes "mapping") mappings
    (member (codes "path") path no_members)))))

-- what stands between the pieces
abbrev to_mapping : Text
to_mapping = codes ",\"mapping\":"

abbrev to_path : Text
to_path = codes ",\"path\":"

-- its text, with what is not known
written : (edition : ℕ) (id : Text) (mappings path : Data) → line_of (found_data edition id mappings path)
    ≡ before_edition ++ (((decimal edition ++ (before_id ++ ((escape id ++ 34 ∷ []) ++ (to_mapping ++ (compact_text mappings ++ (to_path ++ (compact_text path ++ 125 ∷ []))))))) ++ 125 ∷ []) ++ 10 ∷ [])
unfolding escape_byte before_edition before_id
written edition id mappings path = refl

-- the pieces, and what stands between them
joined : (edition id mapping server : Text)
    → ((edition ++ (before_id ++ ((id ++ 34 ∷ []) ++ (to_mapping ++ ((91 ∷ (mapping ++ 93 ∷ [])) ++ (to_path ++ ((91 ∷ 34 ∷ (server ++ 34 ∷ 93 ∷ [])) ++ 125 ∷ []))))))) ++ 125 ∷ []) ++ 10 ∷ []
    ≡ edition ++ (before_id ++ (id ++ (before_mapping ++ (mapping ++ (before_server ++ (server ++ after_server))))))
unfolding before_id before_mapping before_server after_server
joined edition id mapping server = simp append_assoc

-- such a reply is the line of its pieces
pub found_text_is : (pieces : FoundLine) (id : Text) (mappings path : Data) → pieces.id.now ≡ id → IsPlain id → compact_text mappings ≡ 91 ∷ (pieces.mapping.now ++ 93 ∷ [])
    → compact_text path ≡ 91 ∷ 34 ∷ (pieces.server.now ++ 34 ∷ 93 ∷ []) → line_of (found_data pieces.edition id mappings path) ≡ found_text pieces
unfolding found_text
found_text_is pieces id mappings path same plain shown named =
    written pieces.edition id mappings path
    ∙ rw (plain, shown, named, ← same) (ap (λ t. before_edition ++ t) (joined (decimal pieces.edition) pieces.id.now pieces.mapping.now pieces.server.now))

appended : (a b c d e f g h i : Text) → (((((((([] ++ a) ++ b) ++ c) ++ d) ++ e) ++ f) ++ g) ++ h) ++ i ≡ a ++ (b ++ (c ++ (d ++ (e ++ (f ++ (g ++ (h ++ i)))))))
appended a b c d e f g h i = simp append_assoc

-- the pieces, appended one after another
pub pieces_joined : (pieces : FoundLine) (digits l l1 l2 l3 l4 l5 l6 l7 l8 l9 : Text) → digits ≡ decimal pieces.edition → l ≡ []
    → l1 ≡ l ++ before_edition → l2 ≡ l1 ++ digits → l3 ≡ l2 ++ before_id → l4 ≡ l3 ++ pieces.id.now → l5 ≡ l4 ++ before_mapping → l6 ≡ l5 ++ pieces.mapping.now
    → l7 ≡ l6 ++ before_server → l8 ≡ l7 ++ pieces.server.now → l9 ≡ l8 ++ after_server → l9 ≡ found_text pieces
unfolding found_text
pieces_joined pieces digits l l1 l2 l3 l4 l5 l6 l7 l8 l9 d e e1 e2 e3 e4 e5 e6 e7 e8 e9 =
    rw (e9, e8, e7, e6, e5, e4, e3, e2, e1, e, d) (appended before_edition (decimal pieces.edition) before_id pieces.id.now before_mapping pieces.mapping.now before_server pieces.server.now after_server)
