-- Lemmas on cutting bytes into lines.
use Rattle.std.proofs.Common.{◌≡◌, ◌≢◌, ℕ, ◌+◌, ◌<◌, Bool, true, false, cond, ◌==◌, List, [], ◌∷◌, ◌++◌, length, take, drop, All, refl, sym, ap, ◌∙◌, append_assoc, arith, length-take-le, take-append-drop}
use Rattle.std.proofs.lemmas.Bool.{ne_eqb, eq-eqb, eqb-true, cond-false}
use Rattle.std.proofs.lemmas.List.{drop_more, get_or-take, get_or_default}
use Rattle.std.proofs.lemmas.List.Elements.{All-head, All-tail}
use Rattle.memchr.specs.Find.{Nowhere, NoneBefore, Passes, is_byte}
use Rattle.lost_spec.specs.Text.{Text}
use Rattle.lost_lines.specs.Cutting.{newline, with_byte, cut, ended_lines, last_piece, piece_lines, lines_of}

abbrev With : Text → List Text × Text → List Text × Text
With g c = (c.0 ++ ended_lines (c.1 ++ g), last_piece (c.1 ++ g))

-- a byte that ends no line stands at the front of the first
cut-other : (b : ℕ) (x : Text) → (b == newline) ≡ false → cut (b ∷ x) ≡ with_byte b (ended_lines x) (last_piece x)
cut-other b x e = cond-false (b == newline) ([] ∷ ended_lines x, last_piece x) (with_byte b (ended_lines x) (last_piece x)) e

with_byte-append : (b : ℕ) (ls : List Text) (last g : Text) → (b == newline) ≡ false → with_byte b (ls ++ ended_lines (last ++ g)) (last_piece (last ++ g)) ≡ With g (with_byte b ls last)
with_byte-append b [] last g e = sym (cut-other b (last ++ g) e)
with_byte-append b (l ∷ ls) last g e = refl

cut-cons : (b : ℕ) (x g : Text) (t : Bool) → (b == newline) ≡ t → cut (x ++ g) ≡ With g (cut x)
    → cond t ([] ∷ ended_lines (x ++ g), last_piece (x ++ g)) (with_byte b (ended_lines (x ++ g)) (last_piece (x ++ g)))
    ≡ With g (cond t ([] ∷ ended_lines x, last_piece x) (with_byte b (ended_lines x) (last_piece x)))
cut-cons b x g true e h = let f : List Text × Text → List Text × Text = λ p. ([] ∷ p.0, p.1) in ap f h
cut-cons b x g false e h = let f : List Text × Text → List Text × Text = λ p. with_byte b p.0 p.1 in ap f h ∙ with_byte-append b (ended_lines x) (last_piece x) g e

-- further bytes are cut after the last piece
pub cut-append : (x g : Text) → cut (x ++ g) ≡ (ended_lines x ++ ended_lines (last_piece x ++ g), last_piece (last_piece x ++ g))
cut-append [] g = refl
cut-append (b ∷ x) g = cut-cons b x g (b == newline) refl (cut-append x g)

pub cut-join : (x g : Text) (ls ms : List Text) (p q : Text) → cut x ≡ (ls, p) → cut (p ++ g) ≡ (ms, q) → cut (x ++ g) ≡ (ls ++ ms, q)
cut-join x g ls ms p q first second =
    let f : List Text × Text → List Text × Text = λ c. (ls ++ c.0, c.1) in
    cut-append x g ∙ ap (With g) first ∙ ap f second

-- a text without byte 10 is a last piece
pub cut-piece : (q : Text) → All (λ b. b ≢ newline) q → cut q ≡ ([], q)
cut-piece [] h = refl
cut-piece (b ∷ q) h =
    let e : (b == newline) ≡ false = ne_eqb b 10 (All-head (λ b. b ≢ newline) b q h) in
    let f : List Text × Text → List Text × Text = λ p. with_byte b p.0 p.1 in
    cut-other b q e ∙ ap f (cut-piece q (All-tail (λ b. b ≢ newline) b q h))

-- and a line where byte 10 ends it
pub cut-line : (q : Text) → All (λ b. b ≢ newline) q → cut (q ++ newline ∷ []) ≡ (q ∷ [], [])
cut-line [] h = refl
cut-line (b ∷ q) h =
    let e : (b == newline) ≡ false = ne_eqb b 10 (All-head (λ b. b ≢ newline) b q h) in
    let f : List Text × Text → List Text × Text = λ p. with_byte b p.0 p.1 in
    cut-other b (q ++ newline ∷ []) e ∙ ap f (cut-line q (All-tail (λ b. b ≢ newline) b q h))

-- the lines that are ended stay, whatever comes after them
pub ended_lines-append : (x y : Text) (ls : List Text) (p : Text) → cut x ≡ (ls, p) → ended_lines (x ++ y) ≡ ls ++ ended_lines (p ++ y)
ended_lines-append x y ls p e =
    let f : List Text × Text → List Text = λ c. c.0 in
    ap f (cut-append x y ∙ ap (With y) e)

pub lines_of-append : (x y : Text) (ls : List Text) (p : Text) → cut x ≡ (ls, p) → lines_of (x ++ y) ≡ ls ++ lines_of (p ++ y)
lines_of-append x y ls p e =
    let f : List Text × Text → List Text = λ c. c.0 ++ piece_lines c.1 in
    ap f (cut-append x y ∙ ap (With y) e) ∙ append_assoc ls (ended_lines (p ++ y)) (piece_lines (last_piece (p ++ y)))

pub lines_of-cut : (x : Text) (ls : List Text) (p : Text) → cut x ≡ (ls, p) → lines_of x ≡ ls ++ piece_lines p
lines_of-cut x ls p e =
    let f : List Text × Text → List Text = λ c. c.0 ++ piece_lines c.1 in
    ap f e

-- what the search for byte 10 says: none stands in the text
pub All-from_none : (bytes : Text) → Nowhere (Passes (is_byte newline) bytes) 0 (length bytes) → All (λ b. b ≢ newline) bytes
All-from_none bytes h k d below is = h k (omega arith) below (eq-eqb _ 10 (get_or_default bytes k 0 d below ∙ is))

-- or none stands before the first
pub All-before_first : (bytes : Text) (n : ℕ) → NoneBefore (Passes (is_byte newline) bytes) 0 (length bytes) n → All (λ b. b ≢ newline) (take n bytes)
All-before_first bytes n h k d below is =
    let high = h.high in
    let e = length-take-le n bytes (omega arith) in
    let small : k < n = omega arith in
    let within : k < length bytes = omega arith in
    h.before k (omega arith) small (eq-eqb _ 10 (get_or_default bytes k 0 d within ∙ sym (get_or-take n bytes k d small) ∙ is))

-- a text up to its first byte 10, that byte, and the rest
pub split_at_first : (bytes : Text) (n : ℕ) → n < length bytes → Passes (is_byte newline) bytes n → bytes ≡ (take n bytes ++ newline ∷ []) ++ drop (n + 1) bytes
split_at_first bytes n below is =
    sym (take-append-drop n bytes) ∙ ap (λ l. take n bytes ++ l) (drop_more bytes n 0 below ∙ ap (λ b. b ∷ drop (n + 1) bytes) (eqb-true _ 10 is)) ∙ sym (append_assoc (take n bytes) (newline ∷ []) (drop (n + 1) bytes))
