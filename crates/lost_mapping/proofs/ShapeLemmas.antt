-- The shape of a stamp's first bytes.
use Rattle.std.proofs.Common.{◌≡◌, ◌<◌, Bool, false, ◌&&◌, List, [], ◌∷◌, length, take, refl, ap, ◌∙◌, arith}
use Rattle.std.specs.List.{list_all, zip}
use Rattle.std.proofs.lemmas.List.{length-take}
use lib.Pointwise.{pointwise, pointwise_long}
use Rattle.lost_spec.specs.Text.{Text}
use Rattle.lost_spec.specs.Moment.{stamp_shape, fits_shape}
use Rattle.lost_mapping.specs.StampText.{has_shape}
use Rattle.lost_mapping.proofs.BoolLemmas.{not_true}

-- two lists of one length, pair by pair
pub pointwise-zip : {A B : Type 0} (E : A → B → Bool) (xs : List A) (ys : List B) → length xs ≡ length ys → list_all (λ p. E p.0 p.1) (zip xs ys) ≡ pointwise E xs ys
pointwise-zip E [] [] h = refl
pointwise-zip E [] (y ∷ ys) h = absurd (omega arith)
pointwise-zip E (x ∷ xs) [] h = absurd (omega arith)
pointwise-zip E (x ∷ xs) (y ∷ ys) h = ap (λ b. E x y && b) (pointwise-zip E xs ys (omega arith))

pub shape_of_front : (text front : Text) (b : Bool) → front ≡ take 19 text → b ≡ pointwise fits_shape stamp_shape front → b ≡ has_shape text
unfolding has_shape
shape_of_front text front b is h = h ∙ ap (pointwise fits_shape stamp_shape) is

pub too_short : (text : Text) → length text < 19 → false ≡ has_shape text
unfolding has_shape
too_short text short =
    not_true (pointwise fits_shape stamp_shape (take 19 text))
    (λ h. let long : 19 ≡ length (take 19 text) = pointwise_long fits_shape stamp_shape (take 19 text) h in omega (arith, length-take 19 text))
