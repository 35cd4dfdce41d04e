-- What a hasher takes piece by piece it takes as a whole.
use Rattle.std.proofs.Common.{◌≡◌, ℕ, ◌+◌, List, [], ◌∷◌, ◌++◌, length, map, take, subst, sym, ap, ◌∙◌, append_assoc}
use Rattle.std.proofs.lemmas.List.{append-nil, length-map, flat_map_more}
use Rattle.std.proofs.lemmas.List.Folds.{flat_map-map}
use Rattle.std.specs.List.{flat_map}
use Rattle.md5.specs.Md5.{Holds}
use Rattle.md5.specs.declared.Md5.{Md5}
use Rattle.lost_spec.specs.Text.{Text}
use Rattle.lost_digest.specs.Bytes.{count_bytes, list_bytes}
use Rattle.lost_digest.specs.Digest.{Takes}

pub takes : (a b : Md5) (xs : Text) → ((held : Text) → Holds a held → Holds b (held ++ xs)) → Takes a b xs
unfolding Takes
takes a b xs t = t

pub takes_none : (a : Md5) → Takes a a []
unfolding Takes
takes_none a held h = subst (Holds a) (sym (append-nil held)) h

pub then_takes : (a b c : Md5) (xs ys : Text) → Takes a b xs → Takes b c ys → Takes a c (xs ++ ys)
unfolding Takes
then_takes a b c xs ys s t held h = subst (Holds c) (append_assoc held xs ys) (t (held ++ xs) (s held h))

-- a list of things that stand for others has the bytes of those
pub list_bytes_map : {A B : Type 0} (item_bytes : B → Text) (seen : A → B) (items : List A) → list_bytes item_bytes (map seen items) ≡ list_bytes (λ x. item_bytes (seen x)) items
unfolding list_bytes
list_bytes_map item_bytes seen items =
    ap (λ n. count_bytes n ++ flat_map item_bytes (map seen items)) (length-map items seen) ∙ ap (λ bytes. count_bytes (length items) ++ bytes) (flat_map-map item_bytes seen items)

-- one item more of a list
pub takes_item : {A : Type 0} (a b c : Md5) (front : Text) (item_bytes : A → Text) (items : List A) (i : ℕ) (x : A) → take (i + 1) items ≡ take i items ++ x ∷ []
    → Takes a b (front ++ flat_map item_bytes (take i items)) → Takes b c (item_bytes x) → Takes a c (front ++ flat_map item_bytes (take (i + 1) items))
takes_item a b c front item_bytes items i x more s t =
    subst (Takes a c) (flat_map_more item_bytes front (take i items) x ∙ ap (λ l. front ++ flat_map item_bytes l) (sym more)) (then_takes a b c (front ++ flat_map item_bytes (take i items)) (item_bytes x) s t)
