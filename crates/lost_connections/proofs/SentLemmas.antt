-- Bytes on their way to an output.
use Rattle.std.proofs.Common.{◌≡◌, refl, ℕ, ◌-◌, [], ◌++◌, Option, length, length-append, take, drop, take-append-drop, sym, ap, ◌∙◌, append_assoc, arith}
use Rattle.std.specs.Io.KnownBytes.{Keeps, Appends}
use Rattle.std.proofs.KnownBytes.{Appends-nil, Appends-trans, Appends-kept}
use lib.Seq.{drop-append_seam}
use Rattle.lost_spec.specs.Text.{Text}
use Rattle.lost_connections.specs.Sent.{Sent}

pub Sent-none : (before : Option Text) (bytes : Text) → Sent before before bytes bytes
Sent-none before bytes = record { taken = []; appended = Appends-nil before; splits = refl }

pub Sent-more : (a b c : Option Text) (bytes rest : Text) (count : ℕ) → Sent a b bytes rest → Appends b c (take count rest) → Sent a c bytes (drop count rest)
Sent-more a b c bytes rest count s more = record {
  taken = s.taken ++ take count rest;
  appended = Appends-trans a b c s.taken (take count rest) s.appended more;
  splits = s.splits ∙ ap (λ (x : Text). s.taken ++ x) (sym (take-append-drop count rest)) ∙ sym (append_assoc s.taken (take count rest) (drop count rest));
}

pub Sent-kept : (a b c : Option Text) (bytes rest : Text) → Sent a b bytes rest → Keeps b c → Sent a c bytes rest
Sent-kept a b c bytes rest s kept = record { taken = s.taken; appended = Appends-kept a b c s.taken s.appended kept; splits = s.splits }

-- what is left stands at the end
pub left_at_end : (xs front rest : Text) → xs ≡ front ++ rest → drop (length xs - length rest) xs ≡ rest
left_at_end xs front rest e =
    let count : length xs - length rest ≡ length front = omega (arith, ap length e, length-append front rest) in
    ap (λ (n : ℕ). drop n xs) count ∙ ap (drop (length front)) e ∙ drop-append_seam front rest
