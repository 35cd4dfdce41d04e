-- Lemmas on bytes on their way to an output.
use Rattle.std.proofs.Common.{◌≡◌, ℕ, [], ◌++◌, take, drop, sym, ap, ◌∙◌, refl, append_assoc, append-nil, take-append-drop, Option}
use Rattle.std.specs.Io.KnownBytes.{Appends, Keeps}
use Rattle.std.proofs.KnownBytes.{Appends-trans, Appends-nil, Appends-kept}
use Rattle.lost_spec.specs.Text.{Text}
use Rattle.lost_lines.specs.Sending.{Sends}
use Rattle.lost_lines.specs.Stream.{AppendsFront}

-- a front of the bytes was written, and the rest is left
pub record Writes (before after : Option Text) (bytes rest : Text) : Type 0 where
  pub front : Text
  pub splits : bytes ≡ front ++ rest
  pub appended : Appends before after front

pub Writes-none : (before : Option Text) (bytes : Text) → Writes before before bytes bytes
Writes-none before bytes = record { front = []; splits = refl; appended = Appends-nil before }

-- some of the rest is written too
pub Writes-more : (a b c : Option Text) (bytes rest : Text) (count : ℕ) → Writes a b bytes rest → Appends b c (take count rest) → Writes a c bytes (drop count rest)
Writes-more a b c bytes rest count w more = record {
  front = w.front ++ take count rest;
  splits = w.splits ∙ ap (λ l. w.front ++ l) (sym (take-append-drop count rest)) ∙ sym (append_assoc w.front (take count rest) (drop count rest));
  appended = Appends-trans a b c w.front (take count rest) w.appended more;
}

-- nothing is left
pub Writes-all : (a b : Option Text) (bytes rest : Text) → Writes a b bytes rest → rest ≡ [] → Appends a b bytes
Writes-all a b bytes rest w none = let whole : bytes ≡ w.front = w.splits ∙ ap (λ l. w.front ++ l) none ∙ append-nil w.front in rw whole w.appended

-- a write fails, and nothing more is written
pub AppendsFront-from_writes : (a b c : Option Text) (bytes rest : Text) → Writes a b bytes rest → Keeps b c → AppendsFront a c bytes
AppendsFront-from_writes a b c bytes rest w kept = (w.front, rest, w.splits, Appends-kept a b c w.front w.appended kept)

-- all that is gathered was written, and then the text
pub Sends-from_writes : (a b c : Option Text) (gathered left text : Text) → Appends a b gathered → left ≡ [] → Appends b c text → Sends a gathered c left text
Sends-from_writes a b c gathered left text first none second = record {
  sent = gathered ++ text;
  appended = Appends-trans a b c gathered text first second;
  whole = sym (ap (λ l. (gathered ++ text) ++ l) none ∙ append-nil (gathered ++ text));
}

-- a front of what is gathered was written
pub AppendsFront-more : (a b : Option Text) (gathered text : Text) → AppendsFront a b gathered → AppendsFront a b (gathered ++ text)
AppendsFront-more a b gathered text w = (w.0, w.1 ++ text, ap (λ l. l ++ text) w.2 ∙ append_assoc w.0 w.1 text, w.3)

-- all that is gathered was written, and then a front of the text
pub AppendsFront-after : (a b c : Option Text) (gathered text : Text) → Appends a b gathered → AppendsFront b c text → AppendsFront a c (gathered ++ text)
AppendsFront-after a b c gathered text first w =
    (gathered ++ w.0, w.1, ap (λ l. gathered ++ l) w.2 ∙ sym (append_assoc gathered w.0 w.1), Appends-trans a b c gathered w.0 first w.3)

-- what is gathered behind a text was written too
pub Sends-settled : (a b c : Option Text) (gathered left last text : Text) → Sends a gathered b left text → Appends b c left → last ≡ [] → Sends a gathered c last text
Sends-settled a b c gathered left last text first second none = record {
  sent = first.sent ++ left;
  appended = Appends-trans a b c first.sent left first.appended second;
  whole = first.whole ∙ sym (ap (λ l. (first.sent ++ left) ++ l) none ∙ append-nil (first.sent ++ left));
}

-- or a front of it
pub AppendsFront-settled : (a b c : Option Text) (gathered left text : Text) → Sends a gathered b left text → AppendsFront b c left → AppendsFront a c (gathered ++ text)
AppendsFront-settled a b c gathered left text first w =
    (first.sent ++ w.0, w.1, first.whole ∙ ap (λ l. first.sent ++ l) w.2 ∙ sym (append_assoc first.sent w.0 w.1), Appends-trans a b c first.sent w.0 first.appended w.3)

-- all that was gathered was written, and then the text is added to nothing, or written too
pub Sends-again : (a b c : Option Text) (gathered empty left text : Text) → Appends a b gathered → empty ≡ [] → Sends b empty c left text → Sends a gathered c left text
Sends-again a b c gathered empty left text first none second = record {
  sent = gathered ++ second.sent;
  appended = Appends-trans a b c gathered second.sent first second.appended;
  whole = ap (λ l. gathered ++ (l ++ text)) (sym none) ∙ ap (λ l. gathered ++ l) second.whole ∙ sym (append_assoc gathered second.sent left);
}

-- or a front of it
pub AppendsFront-again : (a b c : Option Text) (gathered empty text : Text) → Appends a b gathered → empty ≡ [] → AppendsFront b c (empty ++ text) → AppendsFront a c (gathered ++ text)
AppendsFront-again a b c gathered empty text first none w =
    (gathered ++ w.0, w.1, ap (λ l. gathered ++ (l ++ text)) (sym none) ∙ ap (λ l. gathered ++ l) w.2 ∙ sym (append_assoc gathered w.0 w.1), Appends-trans a b c gathered w.0 first w.3)
