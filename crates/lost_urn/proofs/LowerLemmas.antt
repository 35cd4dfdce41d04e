-- A text whose bytes are their own lower case is in lower case.
use Rattle.std.proofs.Common.{◌≡◌, true, ap, refl, ◌∙◌, [], ◌∷◌, eqb}
use Rattle.std.specs.List.{list_all}
use Rattle.std.specs.Char.{to_ascii_lowercase}
use Rattle.std.proofs.lemmas.Bool.{and_parts}
use Rattle.std.proofs.lemmas.Bool.Decides.{Decides-eqb}
use Rattle.lost_spec.specs.Text.{Text, lowered}

pub lowered_as_it_is : (text : Text) → list_all (λ b. eqb (to_ascii_lowercase b) b) text ≡ true → lowered text ≡ text
lowered_as_it_is [] all = refl
lowered_as_it_is (b ∷ rest) all =
    let parts = and_parts (eqb (to_ascii_lowercase b) b) (list_all (λ c. eqb (to_ascii_lowercase c) c) rest) all in
    ap (λ c. c ∷ lowered rest) ((Decides-eqb (to_ascii_lowercase b) b).0 parts.0)
    ∙ ap (λ t. b ∷ t) (lowered_as_it_is rest parts.1)
