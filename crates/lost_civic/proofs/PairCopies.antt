-- Copies, sameness and hashes of pairs are those of the pairs that definitions see.
use Rattle.std.proofs.Common.{◌≡◌, ◌&&◌, ◌++◌, List, [], ◌∷◌, map, length, String, string_bytes, refl, sym, ◌∙◌, ap}
use Rattle.std.specs.Hash as fed
use Rattle.std.specs.List.{AllZip, flat_map}
use Rattle.std.proofs.lemmas.List.{length-map}
use Rattle.std.proofs.lemmas.List.Folds.{flat_map-map}
use lib.Pointwise.{pointwise}
use Rattle.lost_spec.specs.Text.{Text}
use Rattle.lost_civic.specs.Pairs.{seen_pair, seen_pairs, same_pair, same_pairs, hashed_pairs}

-- copies that are seen as the values are
pub map-from_all_zip : {X Y : Type 0} (copies : X → X → Type 0) (seen : X → Y) → ((x y : X) → copies x y → seen y ≡ seen x) → (xs ys : List X) → AllZip copies xs ys → map seen ys ≡ map seen xs
map-from_all_zip copies seen each [] [] h = refl
map-from_all_zip copies seen each [] (y ∷ ys) h = absurd h
map-from_all_zip copies seen each (x ∷ xs) [] h = absurd h
map-from_all_zip copies seen each (x ∷ xs) (y ∷ ys) h =
    ap (λ first. first ∷ map seen ys) (each x y h.0) ∙ ap (λ rest. seen x ∷ rest) (map-from_all_zip copies seen each xs ys h.1)

pub pointwise-seen : {A B : Type 0} (xs : List (String A × String A)) (ys : List (String B × String B)) → pointwise (λ x y. same_pair (seen_pair x) (seen_pair y)) xs ys ≡ same_pairs (seen_pairs xs) (seen_pairs ys)
pointwise-seen [] [] = refl
pointwise-seen [] (y ∷ ys) = refl
pointwise-seen (x ∷ xs) [] = refl
pointwise-seen (x ∷ xs) (y ∷ ys) = ap (λ rest. same_pair (seen_pair x) (seen_pair y) && rest) (pointwise-seen xs ys)

pub hashed-seen : {A : Type 0} (pairs : List (String A × String A)) → fed.slice (λ pair. fed.str (string_bytes pair.0) ++ fed.str (string_bytes pair.1)) pairs ≡ hashed_pairs (seen_pairs pairs)
hashed-seen pairs =
    let fed_pair : Text × Text → fed.HashWrites = λ pair. fed.str pair.0 ++ fed.str pair.1 in
    ap (λ count. fed.usize count ++ flat_map (λ pair. fed_pair (seen_pair pair)) pairs) (sym (length-map pairs seen_pair)) ∙ ap (λ writes. fed.usize (length (seen_pairs pairs)) ++ writes) (sym (flat_map-map fed_pair seen_pair pairs))

pub same_pair-copies : {A B : Type 0} (pair : String A × String A) (copy : String B × String B) → string_bytes copy.0 ≡ string_bytes pair.0 → string_bytes copy.1 ≡ string_bytes pair.1 → seen_pair copy ≡ seen_pair pair
same_pair-copies pair copy name value = ap (λ n. (n, string_bytes copy.1)) name ∙ ap (λ v. (string_bytes pair.0, v)) value
