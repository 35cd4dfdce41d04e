-- What a look-up finds is in one of the rows.
use Rattle.std.proofs.Common.{◌≡◌, ℕ, Bool, true, false, ◌&&◌, ◌||◌, Option, Some, List, [], ◌∷◌, map, nat_eq, cond, refl}
use Rattle.std.specs.Prelude.{unwrap_or}
use Rattle.std.specs.List.{list_any}
use Rattle.std.specs.Map.{lookup}
use Rattle.std.proofs.lemmas.Bool.{false≢true}
use Rattle.lost_spec.specs.Text.{Text, same_text}
use Rattle.lost_tables.specs.Lists.{Stands}

or_left : (a b : Bool) → a ≡ true → (a || b) ≡ true
or_left true b h = refl
or_left false b h = absurd (false≢true h)

in_next : (n : ℕ) (here : Bool) (v : List ℕ) (rest : Option (List ℕ)) (later : Bool) → (Stands n (unwrap_or rest []) → later ≡ true)
    → Stands n (unwrap_or (cond here (Some v) rest) []) → ((here && list_any (nat_eq n) v) || later) ≡ true
in_next n true v rest later after h = or_left (list_any (nat_eq n) v) later h
in_next n false v rest later after h = after h

pub found_in_rows : {K : Type 0} (text_of : K → Text) (text : Text) (n : ℕ) (es : List (K × List ℕ))
    → Stands n (unwrap_or (lookup (λ k. same_text text (text_of k)) es) [])
    → list_any (λ (row : Text × List ℕ). same_text text row.0 && list_any (nat_eq n) row.1) (map (λ e. (text_of e.0, e.1)) es) ≡ true
found_in_rows text_of text n [] h = absurd (false≢true h)
found_in_rows text_of text n (e ∷ es) h =
    in_next n (same_text text (text_of e.0)) e.1 (lookup (λ k. same_text text (text_of k)) es)
    (list_any (λ (row : Text × List ℕ). same_text text row.0 && list_any (nat_eq n) row.1) (map (λ e. (text_of e.0, e.1)) es))
    (found_in_rows text_of text n es) h
