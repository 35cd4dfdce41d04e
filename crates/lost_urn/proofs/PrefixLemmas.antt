-- The prefix of a service URN, in any case.
use Rattle.std.proofs.Common.{◌≡◌, ℕ, ◌++◌, take, drop, sym, ap, ◌∙◌}
use Rattle.std.specs.Char.{to_ascii_lowercase}
use Rattle.std.proofs.lemmas.List.{map-append, take-append-drop, take-map}
use Rattle.lost_spec.specs.Text.{Text, lowered}
use Rattle.lost_spec.specs.Service.{urn_prefix}

-- a text that is cut anywhere, in lower case
lowered-cut : (n : ℕ) (text : Text) → lowered text ≡ lowered (take n text) ++ lowered (drop n text)
lowered-cut n text = ap lowered (sym (take-append-drop n text)) ∙ map-append to_ascii_lowercase (take n text) (drop n text)

-- the first bytes are the prefix in lower case
pub lowercase_prefix_found : (text front rest : Text) → front ≡ take 12 text → rest ≡ drop 12 text → front ≡ urn_prefix → text ≡ urn_prefix ++ rest
lowercase_prefix_found text front rest front_is rest_is found =
    sym (take-append-drop 12 text) ∙ ap (λ f. f ++ drop 12 text) (sym front_is ∙ found) ∙ ap (λ r. urn_prefix ++ r) (sym rest_is)

-- the first bytes are the prefix
pub prefix_found : (text front rest : Text) → front ≡ take 12 text → rest ≡ drop 12 text → lowered front ≡ urn_prefix → lowered text ≡ urn_prefix ++ lowered rest
prefix_found text front rest front_is rest_is found =
    lowered-cut 12 text ∙ ap (λ f. lowered f ++ lowered (drop 12 text)) (sym front_is) ∙ ap (λ f. f ++ lowered (drop 12 text)) found ∙ ap (λ r. urn_prefix ++ lowered r) (sym rest_is)

-- a text that begins with the prefix has it in its first bytes
pub prefix_there : (text front rest : Text) → front ≡ take 12 text → lowered text ≡ urn_prefix ++ rest → lowered front ≡ urn_prefix
prefix_there text front rest front_is begins = ap lowered front_is ∙ sym (take-map to_ascii_lowercase 12 text) ∙ ap (take 12) begins
