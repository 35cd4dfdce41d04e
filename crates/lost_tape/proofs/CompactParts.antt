-- The parts that a compact line is cut into.
use Rattle.std.proofs.Common.{◌≡◌, ℕ, ℤ, ◌≤◌, List, ◌++◌, true, length, take, drop, sym, ap, ◌∙◌, subst, arith, append_assoc, take-append-drop}
use Rattle.std.proofs.lemmas.List.{get_or-take, length-take-le}
use Rattle.std.specs.Borrow.{Bor}
use Rattle.std.specs.Fmt.{signed_decimal}
use Rattle.std.specs.Str.{IsUtf8}
use Rattle.json.specs.Run.{is_plain}
use Rattle.json.specs.Written.{PlainBetween}
use Rattle.json.proofs.Printed.Plain.{escape_on_plain}
use Rattle.lost_spec.specs.Text.{Text}
use Rattle.lost_tape.specs.Compact.{before_id, before_lat, before_lon, after_lon, before_decimal, after_decimal, before_token, after_token, after_service, content_text, place_line, IsContentBefore}
use Rattle.lost_writing.specs.FoundLine.{IsPlain}
use Rattle.lost_tape.specs.declared.locations.Content.{Content}
use Rattle.lost_tape.specs.declared.locations.Content.TheVariants.{Pair, Decimal, Token}

-- a text that is cut where its front ends
pub cut_front : (text front begins rest : List ℕ) → begins ≡ take (length front) text → rest ≡ drop (length front) text → begins ≡ front → text ≡ front ++ rest
cut_front text front begins rest is_front is_rest same =
    sym (take-append-drop (length front) text) ∙ ap (λ t. t ++ drop (length front) text) (sym is_front ∙ same) ∙ ap (λ t. front ++ t) (sym is_rest)

-- a text that is cut where its end begins
pub cut_end : (text front rest end : List ℕ) (n : ℕ) → front ≡ take n text → rest ≡ drop n text → rest ≡ end → text ≡ front ++ end
cut_end text front rest end n is_front is_rest same = sym (take-append-drop n text) ∙ ap (λ t. t ++ drop n text) (sym is_front) ∙ ap (λ t. front ++ t) (sym is_rest ∙ same)

-- the plain bytes that a text begins with need no escape
pub plain_front : (text : List ℕ) (n : ℕ) → n ≤ length text → PlainBetween text 0 n → IsPlain (take n text)
plain_front text n within plain =
    let long : length (take n text) ≡ n = length-take-le n text within in
    escape_on_plain true (take n text) (λ k p q. ap is_plain (get_or-take n text k 0 (omega (arith, long))) ∙ plain k p (omega (arith, long)))

-- a content with what follows it, part by part
abbrev pub content_before : Content → Text → Text
content_before (Pair lat lon) rest = before_lat ++ (signed_decimal lat ++ (before_lon ++ (signed_decimal lon ++ (after_lon ++ rest))))
content_before (Decimal text) rest = before_decimal ++ (text.now ++ (after_decimal ++ rest))
content_before (Token text) rest = before_token ++ (text.now ++ (after_token ++ rest))

-- what follows a content stands behind its last text
pub content_then : (content : Content) (rest : Text) → content_text content ++ rest ≡ content_before content rest
unfolding before_lat before_lon before_decimal before_token
content_then (Pair lat lon) rest =
    let la = signed_decimal lat in
    let lo = signed_decimal lon in
    ap (λ t. before_lat ++ t) (append_assoc la (before_lon ++ (lo ++ after_lon)) rest ∙ ap (λ t. la ++ (before_lon ++ t)) (append_assoc lo after_lon rest))
content_then (Decimal text) rest = ap (λ t. before_decimal ++ t) (append_assoc text.now after_decimal rest)
content_then (Token text) rest = ap (λ t. before_token ++ t) (append_assoc text.now after_token rest)

-- a content is read of its parts
pub pair_of_parts : (text r1 r2 r3 rest : Text) (lat lon : ℤ) → text ≡ signed_decimal lat ++ r1 → r1 ≡ before_lon ++ r2 → r2 ≡ signed_decimal lon ++ r3 → r3 ≡ after_lon ++ rest
    → before_lat ++ text ≡ content_text (Pair lat lon) ++ rest
pair_of_parts text r1 r2 r3 rest lat lon e1 e2 e3 e4 =
    let is : before_lat ++ text ≡ content_before (Pair lat lon) rest = cc in
    is ∙ sym (content_then (Pair lat lon) rest)

-- a text that is found of plain bytes stands as it is
sound_text : (found named : Text) → (found ≡ named) × IsUtf8 named → IsPlain named → IsPlain found × IsUtf8 found
sound_text found named is plain = (subst IsPlain (sym is.0) plain, subst IsUtf8 (sym is.0) is.1)

-- what is found stands between what is before and what is after it
follows : (before after text named r1 rest found : Text) → text ≡ named ++ r1 → r1 ≡ after ++ rest → found ≡ named → before ++ text ≡ before ++ (found ++ (after ++ rest))
follows before after text named r1 rest found e1 e2 same = cc

pub decimal_of_parts : (text named r1 rest : Text) (found : Bor Text) → text ≡ named ++ r1 → r1 ≡ after_decimal ++ rest → (found.now ≡ named) × IsUtf8 named → IsPlain named
    → IsContentBefore (before_decimal ++ text) (Decimal found) rest
decimal_of_parts text named r1 rest found e1 e2 is plain =
    record { begins = follows before_decimal after_decimal text named r1 rest found.now e1 e2 is.0 ∙ sym (content_then (Decimal found) rest); sound = sound_text found.now named is plain }

pub token_of_parts : (text named r1 rest : Text) (found : Bor Text) → text ≡ named ++ r1 → r1 ≡ after_token ++ rest → (found.now ≡ named) × IsUtf8 named → IsPlain named
    → IsContentBefore (before_token ++ text) (Token found) rest
token_of_parts text named r1 rest found e1 e2 is plain =
    record { begins = follows before_token after_token text named r1 rest found.now e1 e2 is.0 ∙ sym (content_then (Token found) rest); sound = sound_text found.now named is plain }

-- a line is written of its parts
pub line_of_parts : (line r1 id r2 r3 service : Text) (content : Content) → line ≡ before_id ++ r1 → r1 ≡ id ++ r2 → r2 ≡ content_text content ++ r3 → r3 ≡ service ++ after_service
    → line ≡ place_line id content service
unfolding place_line
line_of_parts line r1 id r2 r3 service content e1 e2 e3 e4 = cc
