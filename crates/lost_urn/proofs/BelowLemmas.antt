-- A service is at or below another where its text goes on from the other's with nothing or with a dot.
use Rattle.std.proofs.Common.{◌≡◌, ◌≢◌, Bool, true, false, ◌||◌, nat_eq, List, [], ◌∷◌, ◌++◌, take, drop, length, refl, sym, ap, ◌∙◌, arith}
use Rattle.std.specs.List.{starts_with, join_with_byte}
use Rattle.std.proofs.lemmas.Bool.Decides.{Decides-eqb}
use Rattle.std.proofs.lemmas.List.{append_assoc, append_cancel_left, append-nil, take-append-drop}
use Rattle.std.proofs.Math.Seq.{take-append_seam}
use Rattle.std.specs.Cmp.Lexicographic.{pointwise}
use Rattle.std.proofs.lemmas.Slice.Eq.{starts_is, bytes_eq-Decides}
use Rattle.lost_spec.specs.Text.{Text}
use Rattle.lost_spec.specs.Service.{Service, split_at_dots, is_service, service_text, is_at_or_below, urn_prefix}
use Rattle.lost_urn.proofs.DotLemmas.{split-at_dot}
use Rattle.lost_urn.proofs.ReadLemmas.{not_true, split-service}

-- ---- labels that go on

join-append : (label : Text) (above : List Text) (next : Text) (below : List Text)
    → join_with_byte 46 ((label ∷ above) ++ (next ∷ below)) ≡ join_with_byte 46 (label ∷ above) ++ 46 ∷ join_with_byte 46 (next ∷ below)
join-append label [] next below = refl
join-append label (other ∷ above) next below =
    ap (λ w. label ++ 46 ∷ w) (join-append other above next below)
    ∙ sym (append_assoc label (46 ∷ join_with_byte 46 (other ∷ above)) (46 ∷ join_with_byte 46 (next ∷ below)))

below_from : (s u rest : Service) → s ≡ u ++ rest → is_at_or_below s u ≡ true
below_from s u rest is = (starts_is bytes_eq-Decides s u (is_at_or_below s u) refl).1 rest is

below_is : (s u : Service) → is_at_or_below s u ≡ true → s ≡ u ++ drop (length u) s
below_is s u is = (starts_is bytes_eq-Decides s u (is_at_or_below s u) refl).0 is

-- ---- texts that go on

after_prefix : (s u : Service) (rest : Text) → service_text s ≡ service_text u ++ rest → join_with_byte 46 s ≡ join_with_byte 46 u ++ rest
after_prefix s u rest is = ap (drop 12) is

-- with nothing: the services are the same
below_itself : (s u : Service) → is_service s ≡ true → is_service u ≡ true → service_text s ≡ service_text u ++ [] → is_at_or_below s u ≡ true
below_itself s u hs hu is =
    let joined : join_with_byte 46 s ≡ join_with_byte 46 u = after_prefix s u [] is ∙ append-nil (join_with_byte 46 u) in
    below_from s u [] (sym (split-service s hs) ∙ ap split_at_dots joined ∙ split-service u hu ∙ sym (append-nil u))

-- with a dot: the other's labels come first
below_dot : (s u : Service) (rest : Text) → is_service s ≡ true → is_service u ≡ true → service_text s ≡ service_text u ++ 46 ∷ rest → is_at_or_below s u ≡ true
below_dot s u rest hs hu is =
    below_from s u (split_at_dots rest)
    (sym (split-service s hs) ∙ ap split_at_dots (after_prefix s u (46 ∷ rest) is) ∙ split-at_dot (join_with_byte 46 u) rest ∙ ap (λ w. w ++ split_at_dots rest) (split-service u hu))

-- ---- and otherwise it is not

or_true : (b : Bool) → (b || true) ≡ true
or_true true = refl
or_true false = refl

neither : (a b : Bool) → a ≡ false → b ≡ false → (a || b) ≡ true → ⊥
neither a b no_a no_b h = cc

goes_on : (u rest : Service) → is_service u ≡ true → (more : Text) × (service_text (u ++ rest) ≡ service_text u ++ more) × ((nat_eq (length more) 0 || starts_with nat_eq more (46 ∷ [])) ≡ true)
goes_on [] rest hu = absurd (cc)
goes_on (label ∷ above) [] hu = ([], ap service_text (append-nil (label ∷ above)) ∙ sym (append-nil (service_text (label ∷ above))), refl)
goes_on (label ∷ above) (next ∷ below) hu = (46 ∷ join_with_byte 46 (next ∷ below), ap (λ w. urn_prefix ++ w) (join-append label above next below), or_true (nat_eq (length (46 ∷ join_with_byte 46 (next ∷ below))) 0))

-- the text does not go on from the other's
pub not_below_apart : (s u : Service) → is_service u ≡ true → ((rest : Text) → service_text s ≢ service_text u ++ rest) → is_at_or_below s u ≡ false
not_below_apart s u hu apart =
    not_true (is_at_or_below s u) (λ below. let on = goes_on u (drop (length u) s) hu in apart on.0 (ap service_text (below_is s u below) ∙ on.1))

-- it goes on with another byte
not_below_inside : (s u : Service) (rest : Text) → is_service u ≡ true → service_text s ≡ service_text u ++ rest → nat_eq (length rest) 0 ≡ false → starts_with nat_eq rest (46 ∷ []) ≡ false → is_at_or_below s u ≡ false
not_below_inside s u rest hu is some no_dot =
    not_true (is_at_or_below s u)
    (λ below.
    let on = goes_on u (drop (length u) s) hu in
    let same : rest ≡ on.0 = append_cancel_left (service_text u) rest on.0 (sym is ∙ ap service_text (below_is s u below) ∙ on.1) in
    let yes : (nat_eq (length rest) 0 || starts_with nat_eq rest (46 ∷ [])) ≡ true = ap (λ w. nat_eq (length w) 0 || starts_with nat_eq w (46 ∷ [])) same ∙ on.2 in
    neither (nat_eq (length rest) 0) (starts_with nat_eq rest (46 ∷ [])) some no_dot yes)

-- ---- the test of what follows

-- nothing follows
pub below_at_end : (s u : Service) (rest : Text) → is_service s ≡ true → is_service u ≡ true → service_text s ≡ service_text u ++ rest → true ≡ nat_eq (length rest) 0 → is_at_or_below s u ≡ true
below_at_end s u [] hs hu is none = below_itself s u hs hu is
below_at_end s u (b ∷ rest) hs hu is none = let empty : length (b ∷ rest) ≡ 0 = (Decides-eqb (length (b ∷ rest)) 0).0 (sym none) in absurd (omega arith)

-- something follows, and it is tested for a dot in front
pub below_by_dot : (s u : Service) (rest : Text) (dot : Bool) → is_service s ≡ true → is_service u ≡ true → service_text s ≡ service_text u ++ rest → false ≡ nat_eq (length rest) 0
    → dot ≡ starts_with nat_eq rest (46 ∷ []) → dot ≡ is_at_or_below s u
below_by_dot s u rest true hs hu is some dot =
    let first : rest ≡ 46 ∷ drop 1 rest = (starts_is Decides-eqb rest (46 ∷ []) (starts_with nat_eq rest (46 ∷ [])) refl).0 (sym dot) in
    sym (below_dot s u (drop 1 rest) hs hu (is ∙ ap (λ w. service_text u ++ w) first))
below_by_dot s u rest false hs hu is some dot = sym (not_below_inside s u rest hu is (sym some) (sym dot))

-- ---- what `strip_prefix` says of two texts

module _ (s u : Service) (mine theirs : Text) (mine_is : mine ≡ service_text s) (theirs_is : theirs ≡ service_text u) where
  -- it found the other's text in front
  pub front_found : (rest : Text) → pointwise nat_eq (take (length theirs) mine) theirs ≡ true → rest ≡ drop (length theirs) mine → service_text s ≡ service_text u ++ rest
  front_found rest found is =
      let front : take (length theirs) mine ≡ theirs = (bytes_eq-Decides (take (length theirs) mine) theirs).0 found in
      sym mine_is ∙ sym (take-append-drop (length theirs) mine) ∙ ap (λ w. w ++ drop (length theirs) mine) front ∙ ap (λ w. theirs ++ w) (sym is) ∙ ap (λ w. w ++ rest) theirs_is

  -- it did not
  pub front_not_found : pointwise nat_eq (take (length theirs) mine) theirs ≡ false → (rest : Text) → service_text s ≢ service_text u ++ rest
  front_not_found missed rest is =
      let front : take (length theirs) mine ≡ theirs = ap (take (length theirs)) (mine_is ∙ is ∙ ap (λ w. w ++ rest) (sym theirs_is)) ∙ take-append_seam theirs rest in
      let found : pointwise nat_eq (take (length theirs) mine) theirs ≡ true = (bytes_eq-Decides (take (length theirs) mine) theirs).1 front in
      absurd (cc)
