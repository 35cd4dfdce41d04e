-- Chunks of one size, and the list that they make.
use Rattle.std.proofs.Common.{◌≡◌, ℕ, zero, suc, ◌+◌, ◌-◌, ◌*◌, ◌/◌, ◌%◌, ◌<◌, ◌≤◌, Bor, Result, Ok, Err, Option, Some, None, Bool, true, false, nat_lt, ◌==◌, List, [], ◌∷◌, ◌++◌, length, take, drop, set, get_or, refl, sym, ap, subst, arith, ◌∙◌}
use Rattle.std.specs.Prelude.{slice_get, IfSome, IsSome, OnErr, ◌↔◌}
use Rattle.std.specs.Option.{option_copied}
use Rattle.std.specs.List.{remove, slice_index_or}
use Rattle.std.specs.VecDeque.{deque_items, deque_len, deque_capacity}
use Rattle.std.specs.declared.collections.VecDeque.{VecDeque}
use Rattle.std.proofs.lemmas.List.{set-append_left, set-append_right}
use Rattle.std.proofs.lemmas.List.Edits.{remove-append_left, remove-append_right}
use Rattle.std.proofs.lemmas.List.{append_assoc, append-nil}
use Rattle.std.proofs.Math.Numerals.{add-one}
use Rattle.std.proofs.lemmas.List.{length-append, length-set, length-drop, get_or-set_other, set-get_or, get_or_default}
use Rattle.std.proofs.lemmas.List.Concat.{get_or-flat_map, flat_map-append}
use Rattle.std.proofs.lemmas.List.Folds.{length-flat_map-take}
use Rattle.std.proofs.lemmas.Option.{slice_get_read, slice_get_past, get_or_from_slice_get}
use Rattle.std.proofs.lemmas.Bool.{false≢true}
use Rattle.std.proofs.lemmas.Bool.Decides.{nat_tests}
use Rattle.lost_tables.specs.Chunks.{full, elements, AreFilled, LacksAt}

at_most : (a b : ℕ) → (a < b → ⊥) → b ≤ a
at_most a b none = by (nat_lt a b) refl
  where
    by : (t : Bool) → nat_lt a b ≡ t → b ≤ a
    by true is = absurd (none (grind (arith, nat_tests)))
    by false is = grind (arith, nat_tests)

pub if_refused : {X E : Type 0} (P : Type 0) (r : Result X E) → P → OnErr r P
if_refused P (Ok x) p = tt
if_refused P (Err e) p = p

empty_list : {T : Type 0} (ts : List T) → length ts ≡ 0 → ts ≡ []
empty_list [] none = refl
empty_list (t ∷ ts) none = absurd (omega (arith, none))

module _ {T A : Type 0} where
  -- ---- one chunk

  long : (c : VecDeque T A) → length c.items ≡ deque_len c
  long c = sym c.ok.0

  pub room_after : (c c' : VecDeque T A) → deque_len c' + 1 ≡ deque_len c → deque_capacity c' ≡ deque_capacity c → deque_len c' < deque_capacity c'
  room_after c c' less same = let fits = c.small.1 in omega (arith, fits, less, same)

  joined : (c : VecDeque T A) (ts : List T) → length (c.items ++ ts) ≡ deque_len c + length ts
  joined c ts = length-append c.items ts ∙ ap (λ n. n + length ts) (long c)

  -- ---- where the elements of a chunk stand

  pub before : (cs : List (VecDeque T A)) (i : ℕ) → AreFilled cs → i < length cs → length (elements (take i cs)) ≡ 512 * i
  before cs zero filled within = refl
  before [] (suc i) filled within = absurd (omega (arith, within))
  before (c ∷ []) (suc i) filled within = absurd (omega (arith, within))
  before (c ∷ d ∷ rest) (suc i) filled within =
      let there = before (d ∷ rest) i filled.1 (omega (arith, within)) in
      let both = joined c (elements (take i (d ∷ rest))) in
      let is_full = filled.0 in
      omega (arith, there, both, is_full)

  pub chunk_within : (cs : List (VecDeque T A)) (i j : ℕ) → AreFilled cs → j < 512 → 512 * i + j < length (elements cs) → i < length cs
  chunk_within [] i j filled small within = absurd (omega (arith, within))
  chunk_within (c ∷ []) zero j filled small within = omega arith
  chunk_within (c ∷ []) (suc i) j filled small within =
      let both = joined c [] in let most = filled.1 in absurd (omega (arith, both, most, within))
  chunk_within (c ∷ d ∷ rest) zero j filled small within = omega arith
  chunk_within (c ∷ d ∷ rest) (suc i) j filled small within =
      let both = joined c (elements (d ∷ rest)) in let is_full = filled.0 in
      let later = chunk_within (d ∷ rest) i j filled.1 small (omega (arith, both, is_full, within)) in
      omega (arith, later)

  pub place_within : (cs : List (VecDeque T A)) (i j : ℕ) (e : VecDeque T A) → AreFilled cs → j < 512 → 512 * i + j < length (elements cs)
      → j < deque_len (get_or cs i e)
  place_within [] i j e filled small within = absurd (omega (arith, within))
  place_within (c ∷ []) zero j e filled small within =
      let both = joined c [] in omega (arith, both, within)
  place_within (c ∷ []) (suc i) j e filled small within =
      let both = joined c [] in let most = filled.1 in absurd (omega (arith, both, most, within))
  place_within (c ∷ d ∷ rest) zero j e filled small within = let is_full = filled.0 in omega (arith, is_full, small)
  place_within (c ∷ d ∷ rest) (suc i) j e filled small within =
      let both = joined c (elements (d ∷ rest)) in let is_full = filled.0 in
      place_within (d ∷ rest) i j e filled.1 small (omega (arith, both, is_full, within))

  -- ---- the list around a chunk

  pub around : (cs : List (VecDeque T A)) (i : ℕ) (e : VecDeque T A) → i < length cs
      → elements cs ≡ elements (take i cs) ++ ((get_or cs i e).items ++ elements (drop (suc i) cs))
  around [] i e within = absurd (omega (arith, within))
  around (c ∷ cs) zero e within = refl
  around (c ∷ cs) (suc i) e within =
      ap (λ ts. c.items ++ ts) (around cs i e (omega (arith, within)))
      ∙ sym (append_assoc c.items (elements (take i cs)) ((get_or cs i e).items ++ elements (drop (suc i) cs)))

  pub around_other : (cs : List (VecDeque T A)) (i : ℕ) (c' : VecDeque T A) → i < length cs
      → elements (set cs i c') ≡ elements (take i cs) ++ (c'.items ++ elements (drop (suc i) cs))
  around_other [] i c' within = absurd (omega (arith, within))
  around_other (c ∷ cs) zero c' within = refl
  around_other (c ∷ cs) (suc i) c' within =
      ap (λ ts. c.items ++ ts) (around_other cs i c' (omega (arith, within)))
      ∙ sym (append_assoc c.items (elements (take i cs)) (c'.items ++ elements (drop (suc i) cs)))

  -- ---- the element at a position

  pub there : (cs : List (VecDeque T A)) (p : ℕ) (e : VecDeque T A) (x : T) → AreFilled cs → p / 512 < length cs
      → p % 512 < deque_len (get_or cs (p / 512) e) → x ≡ slice_index_or (get_or cs (p / 512) e).items (p % 512) x
      → slice_get (elements cs) p ≡ Some x
  there cs p e x filled within inside is =
      let start = before cs (p / 512) filled within in
      let size = long (get_or cs (p / 512) e) in
      let most = length-flat_map-take deque_items cs (p / 512) e within in
      let value = get_or-flat_map deque_items cs (p / 512) (p % 512) e x within (omega (arith, size, inside)) in
      let where_it_is : length (elements (take (p / 512) cs)) + p % 512 ≡ p = omega (arith, start) in
      slice_get_read (elements cs) (length (elements cs)) p x refl (omega (arith, start, size, most, inside))
      (is ∙ sym value ∙ ap (λ n. get_or (elements cs) n x) where_it_is)

  pub nowhere : (cs : List (VecDeque T A)) (p : ℕ) (e : VecDeque T A) → AreFilled cs
      → (p / 512 < length cs → p % 512 < deque_len (get_or cs (p / 512) e) → ⊥) → slice_get (elements cs) p ≡ None
  nowhere cs p e filled none =
      slice_get_past (elements cs) p (at_most p (length (elements cs)) (λ within.
      none (chunk_within cs (p / 512) (p % 512) filled (omega arith) (omega (arith, within)))
      (place_within cs (p / 512) (p % 512) e filled (omega arith) (omega (arith, within)))))

  pub got : (cs : List (VecDeque T A)) (p : ℕ) (c : VecDeque T A) (o : Option (Bor T)) → AreFilled cs → p / 512 < length cs
      → c ≡ slice_index_or cs (p / 512) c → (IsSome o ↔ (p % 512 < deque_len c)) → IfSome o (λ x. x.now ≡ slice_index_or c.items (p % 512) x.now)
      → option_copied o ≡ slice_get (elements cs) p
  got cs p c (Some x) filled within is inside value =
      sym (there cs p c x.now filled within (subst (λ d. p % 512 < deque_len d) is (inside.0 refl))
      (subst (λ d. x.now ≡ slice_index_or d.items (p % 512) x.now) is value))
  got cs p c None filled within is inside value =
      sym (nowhere cs p c filled (λ there here. false≢true (inside.1 (subst (λ d. p % 512 < deque_len d) (sym is) here))))

  pub past_all : (cs : List (VecDeque T A)) (p : ℕ) → AreFilled cs → false ≡ nat_lt (p / 512) (length cs) → slice_get (elements cs) p ≡ None
  past_all cs p filled out =
      slice_get_past (elements cs) p (at_most p (length (elements cs)) (λ within.
      let inside = chunk_within cs (p / 512) (p % 512) filled (omega arith) (omega (arith, within)) in grind (arith, nat_tests)))

  -- ---- other chunks in the place of some

  full_before : (c : VecDeque T A) (ds : List (VecDeque T A)) → deque_len c ≡ full → 0 < length ds → AreFilled ds → AreFilled (c ∷ ds)
  full_before c [] is_full some filled = absurd (omega (arith, some))
  full_before c (d ∷ ds) is_full some filled = (is_full, filled)

  pub filled_set : (cs : List (VecDeque T A)) (i : ℕ) (e c' : VecDeque T A) → AreFilled cs → i < length cs
      → deque_len c' ≡ deque_len (get_or cs i e) → AreFilled (set cs i c')
  filled_set [] i e c' filled within as_many = absurd (omega (arith, within))
  filled_set (c ∷ []) zero e c' filled within as_many =
      (subst (λ n. 0 < n) (sym as_many) filled.0, subst (λ n. n ≤ full) (sym as_many) filled.1)
  filled_set (c ∷ []) (suc i) e c' filled within as_many = absurd (omega (arith, within))
  filled_set (c ∷ d ∷ rest) zero e c' filled within as_many = (as_many ∙ filled.0, filled.1)
  filled_set (c ∷ d ∷ rest) (suc i) e c' filled within as_many =
      full_before c (set (d ∷ rest) i c') filled.0 (let same = length-set (d ∷ rest) i c' in omega (arith, same))
      (filled_set (d ∷ rest) i e c' filled.1 (omega (arith, within)) as_many)

  pub lacks_set : (cs : List (VecDeque T A)) (i : ℕ) (e c' : VecDeque T A) → AreFilled cs → i < length cs
      → deque_len c' + 1 ≡ deque_len (get_or cs i e) → deque_len c' < deque_capacity c' → LacksAt i (set cs i c')
  lacks_set [] i e c' filled within one_less room = absurd (omega (arith, within))
  lacks_set (c ∷ []) zero e c' filled within one_less room = (let most = filled.1 in omega (arith, most, one_less), room)
  lacks_set (c ∷ []) (suc i) e c' filled within one_less room = absurd (omega (arith, within))
  lacks_set (c ∷ d ∷ rest) zero e c' filled within one_less room = ((one_less ∙ filled.0, room), filled.1)
  lacks_set (c ∷ d ∷ rest) (suc i) e c' filled within one_less room =
      (filled.0, lacks_set (d ∷ rest) i e c' filled.1 (omega (arith, within)) one_less room)

  pub pulled_lacks : (cs : List (VecDeque T A)) (n : ℕ) (e c' d' : VecDeque T A) → LacksAt n cs → suc n < length cs
      → deque_len c' ≡ deque_len (get_or cs n e) + 1 → deque_len d' + 1 ≡ deque_len (get_or cs (suc n) e)
      → deque_len d' < deque_capacity d' → LacksAt (suc n) (set (set cs (suc n) d') n c')
  pulled_lacks [] n e c' d' lacks within more less room = absurd (omega (arith, within))
  pulled_lacks (c ∷ []) n e c' d' lacks within more less room = absurd (omega (arith, within))
  pulled_lacks (c ∷ d ∷ []) zero e c' d' lacks within more less room =
      (more ∙ lacks.0.0, (let most = lacks.1.1 in omega (arith, most, less), room))
  pulled_lacks (c ∷ d ∷ f ∷ rest) zero e c' d' lacks within more less room =
      (more ∙ lacks.0.0, ((less ∙ lacks.1.0, room), lacks.1.1))
  pulled_lacks (c ∷ d ∷ rest) (suc n) e c' d' lacks within more less room =
      (lacks.0, pulled_lacks (d ∷ rest) n e c' d' lacks.1 (omega (arith, within)) more less room)

  pub pulled_same : (cs : List (VecDeque T A)) (n : ℕ) (e c' d' : VecDeque T A) → suc n < length cs
      → c'.items ++ d'.items ≡ (get_or cs n e).items ++ (get_or cs (suc n) e).items
      → elements (set (set cs (suc n) d') n c') ≡ elements cs
  pulled_same [] n e c' d' within both = absurd (omega (arith, within))
  pulled_same (c ∷ []) n e c' d' within both = absurd (omega (arith, within))
  pulled_same (c ∷ d ∷ rest) zero e c' d' within both =
      sym (append_assoc c'.items d'.items (elements rest)) ∙ ap (λ ts. ts ++ elements rest) both ∙ append_assoc c.items d.items (elements rest)
  pulled_same (c ∷ d ∷ rest) (suc n) e c' d' within both =
      ap (λ ts. c.items ++ ts) (pulled_same (d ∷ rest) n e c' d' (omega (arith, within)) both)

  pub room_of_lacking : (cs : List (VecDeque T A)) (n : ℕ) (e : VecDeque T A) → LacksAt n cs → n < length cs
      → deque_len (get_or cs n e) < deque_capacity (get_or cs n e)
  room_of_lacking [] n e lacks within = absurd (omega (arith, within))
  room_of_lacking (c ∷ []) zero e lacks within = lacks.1
  room_of_lacking (c ∷ d ∷ rest) zero e lacks within = lacks.0.1
  room_of_lacking (c ∷ rest) (suc n) e lacks within = room_of_lacking rest n e lacks.1 (omega (arith, within))

  pub next_has_some : (cs : List (VecDeque T A)) (n : ℕ) (e : VecDeque T A) → LacksAt n cs → suc n < length cs
      → 0 < deque_len (get_or cs (suc n) e)
  next_has_some [] n e lacks within = absurd (omega (arith, within))
  next_has_some (c ∷ []) n e lacks within = absurd (omega (arith, within))
  next_has_some (c ∷ d ∷ []) zero e lacks within = lacks.1.0
  next_has_some (c ∷ d ∷ f ∷ rest) zero e lacks within = let is_full = lacks.1.0 in omega (arith, is_full)
  next_has_some (c ∷ d ∷ rest) (suc n) e lacks within = next_has_some (d ∷ rest) n e lacks.1 (omega (arith, within))

  -- ---- what a pull does

  pub room_to_pull : (cs : List (VecDeque T A)) (n : ℕ) (e d' : VecDeque T A) → LacksAt n cs → n + 1 < length cs
      → deque_len (get_or (set cs (n + 1) d') n e) < deque_capacity (get_or (set cs (n + 1) d') n e)
  room_to_pull cs n e d' lacks within =
      rw (get_or-set_other cs (n + 1) n d' e (omega arith)) (room_of_lacking cs n e lacks (omega (arith, within)))

  pub pulls_some : (cs : List (VecDeque T A)) (n : ℕ) (e : VecDeque T A) → LacksAt n cs → n + 1 < length cs → 0 < deque_len (get_or cs (n + 1) e)
  pulls_some cs n e lacks within = rw (add-one n) (next_has_some cs n e lacks (omega (arith, within)))

  pub lacks_after : (cs : List (VecDeque T A)) (n : ℕ) (e f c' d' : VecDeque T A) → LacksAt n cs → n + 1 < length cs
      → deque_len c' ≡ deque_len (get_or (set cs (n + 1) d') n e) + 1 → deque_len d' + 1 ≡ deque_len (get_or cs (n + 1) f)
      → deque_capacity d' ≡ deque_capacity (get_or cs (n + 1) f) → LacksAt (n + 1) (set (set cs (n + 1) d') n c')
  lacks_after cs n e f c' d' lacks within more less room =
      let fits = (get_or cs (n + 1) f).small.1 in
      let here = ap deque_len (get_or-set_other cs (n + 1) n d' e (omega arith)) in
      let default = ap deque_len (get_or_default cs (suc n) f e (omega (arith, within))) in
      let next = ap (λ k. deque_len (get_or cs k f)) (add-one n) in
      rw (add-one n) (pulled_lacks cs n e c' d' lacks (omega (arith, within)) (more ∙ ap (λ k. k + 1) here)
      (less ∙ next ∙ default) (omega (arith, fits, less, room)))

  pub same_after : (cs : List (VecDeque T A)) (n : ℕ) (e f c' d' : VecDeque T A) (x : T) → n + 1 < length cs
      → c'.items ≡ (get_or (set cs (n + 1) d') n e).items ++ x ∷ [] → (get_or cs (n + 1) f).items ≡ x ∷ d'.items
      → elements (set (set cs (n + 1) d') n c') ≡ elements cs
  same_after cs n e f c' d' x within more less =
      let here = ap deque_items (get_or-set_other cs (n + 1) n d' e (omega arith)) in
      let default = ap deque_items (get_or_default cs (suc n) e f (omega (arith, within))) in
      let next = ap (λ k. (get_or cs k f).items) (sym (add-one n)) in
      rw (add-one n) (pulled_same cs n e c' d' (omega (arith, within))
      (ap (λ ts. ts ++ d'.items) (more ∙ ap (λ ts. ts ++ x ∷ []) here)
      ∙ append_assoc (get_or cs n e).items (x ∷ []) d'.items
      ∙ ap (λ ts. (get_or cs n e).items ++ ts) (sym (default ∙ next ∙ less))))

  -- ---- an edit in a chunk is one of the list

  offset : (cs : List (VecDeque T A)) (p : ℕ) → AreFilled cs → p / 512 < length cs
      → (length (elements (take (p / 512) cs)) ≡ 512 * (p / 512)) × (512 * (p / 512) ≤ p) × (p - 512 * (p / 512) ≡ p % 512)
  offset cs p filled within = (before cs (p / 512) filled within, omega arith, omega arith)

  pub row_within : (cs : List (VecDeque T A)) (p : ℕ) → AreFilled cs → p < length (elements cs) → p / 512 < length cs
  row_within cs p filled inside = chunk_within cs (p / 512) (p % 512) filled (omega arith) (omega (arith, inside))

  pub spot_within : (cs : List (VecDeque T A)) (p : ℕ) (e : VecDeque T A) → AreFilled cs → p < length (elements cs)
      → p % 512 < deque_len (get_or cs (p / 512) e)
  spot_within cs p e filled inside = place_within cs (p / 512) (p % 512) e filled (omega arith) (omega (arith, inside))

  -- an edit at a place, which changes the one part of a list where the place is, changes the chunk there
  edited : (edit : List T → ℕ → List T)
      → ((xs ys : List T) (k : ℕ) → k < length xs → edit (xs ++ ys) k ≡ edit xs k ++ ys)
      → ((xs ys : List T) (n k : ℕ) → length xs ≡ n → n ≤ k → edit (xs ++ ys) k ≡ xs ++ edit ys (k - n))
      → (cs : List (VecDeque T A)) (p : ℕ) (e c' : VecDeque T A) → AreFilled cs → p < length (elements cs)
      → c'.items ≡ edit (get_or cs (p / 512) e).items (p % 512) → elements (set cs (p / 512) c') ≡ edit (elements cs) p
  edited edit in_left in_right cs p e c' filled inside is =
      let within = row_within cs p filled inside in
      let chunk = (get_or cs (p / 512) e).items in
      let start = elements (take (p / 512) cs) in
      let rest = elements (drop (suc (p / 512)) cs) in
      let at = offset cs p filled within in
      let spot = spot_within cs p e filled inside in
      let size = long (get_or cs (p / 512) e) in
      around_other cs (p / 512) c' within
      ∙ ap (λ ts. start ++ (ts ++ rest)) is
      ∙ ap (λ ts. start ++ ts) (sym (in_left chunk rest (p % 512) (omega (arith, spot, size))))
      ∙ ap (λ k. start ++ edit (chunk ++ rest) k) (sym at.2)
      ∙ sym (in_right start (chunk ++ rest) (512 * (p / 512)) p at.0 at.1)
      ∙ ap (λ ts. edit ts p) (sym (around cs (p / 512) e within))

  pub removed : (cs : List (VecDeque T A)) (p : ℕ) (e c' : VecDeque T A) → AreFilled cs → p < length (elements cs)
      → c'.items ≡ remove (get_or cs (p / 512) e).items (p % 512) → elements (set cs (p / 512) c') ≡ remove (elements cs) p
  removed = edited remove remove-append_left remove-append_right

  pub replaced : (cs : List (VecDeque T A)) (p : ℕ) (e c' : VecDeque T A) (x : T) → AreFilled cs → p < length (elements cs)
      → c'.items ≡ set (get_or cs (p / 512) e).items (p % 512) x → elements (set cs (p / 512) c') ≡ set (elements cs) p x
  replaced cs p e c' x =
      edited (λ xs k. set xs k x) (λ xs ys k. set-append_left xs ys k x) (λ xs ys n k. set-append_right xs ys n k x) cs p e c'

  pub value_there : (cs : List (VecDeque T A)) (p : ℕ) (e : VecDeque T A) (x : T) → AreFilled cs → p < length (elements cs)
      → x ≡ slice_index_or (get_or cs (p / 512) e).items (p % 512) x → x ≡ slice_index_or (elements cs) p x
  value_there cs p e x filled inside is =
      sym (get_or_from_slice_get (elements cs) p x x (there cs p e x filled (row_within cs p filled inside) (spot_within cs p e filled inside) is))

  -- ---- the last chunk

  pub lacks_within : (cs : List (VecDeque T A)) (n : ℕ) → LacksAt n cs → n < length cs
  lacks_within [] n lacks = absurd lacks
  lacks_within (c ∷ []) zero lacks = omega arith
  lacks_within (c ∷ d ∷ rest) zero lacks = omega arith
  lacks_within (c ∷ rest) (suc n) lacks = let later = lacks_within rest n lacks.1 in omega (arith, later)

  pub last_filled : (cs : List (VecDeque T A)) (n : ℕ) (e : VecDeque T A) → LacksAt n cs → suc n ≡ length cs → 0 < deque_len (get_or cs n e) → AreFilled cs
  last_filled [] n e lacks last some = absurd lacks
  last_filled (c ∷ []) zero e lacks last some = (some, let few = lacks.0 in omega (arith, few))
  last_filled (c ∷ d ∷ rest) zero e lacks last some = absurd (omega (arith, last))
  last_filled (c ∷ []) (suc n) e lacks last some = absurd lacks.1
  last_filled (c ∷ d ∷ rest) (suc n) e lacks last some = (lacks.0, last_filled (d ∷ rest) n e lacks.1 (omega (arith, last)) some)

  pub filled_without : (cs : List (VecDeque T A)) (n : ℕ) → LacksAt n cs → suc n ≡ length cs → AreFilled (take n cs)
  filled_without [] n lacks last = absurd lacks
  filled_without (c ∷ cs) zero lacks last = tt
  filled_without (c ∷ []) (suc n) lacks last = absurd lacks.1
  filled_without (c ∷ d ∷ rest) (suc zero) lacks last =
      let is_full = lacks.0 in (omega (arith, is_full), omega (arith, is_full))
  filled_without (c ∷ d ∷ rest) (suc (suc n)) lacks last = (lacks.0, filled_without (d ∷ rest) (suc n) lacks.1 (omega (arith, last)))

  pub same_without : (cs : List (VecDeque T A)) (n : ℕ) (e : VecDeque T A) → suc n ≡ length cs → deque_len (get_or cs n e) ≡ 0
      → elements (take n cs) ≡ elements cs
  same_without [] n e last none = absurd (omega (arith, last))
  same_without (c ∷ []) zero e last none = let size = long c in sym (ap (λ ts. ts ++ []) (empty_list c.items (size ∙ none)))
  same_without (c ∷ d ∷ rest) zero e last none = absurd (omega (arith, last))
  same_without (c ∷ cs) (suc n) e last none = ap (λ ts. c.items ++ ts) (same_without cs n e (omega (arith, last)) none)

  -- what a `Vec` of chunks is once its last chunk is looked at
  pub popped_filled : (cs ds : List (VecDeque T A)) (n : ℕ) → LacksAt (length cs - 1) cs → n ≡ length cs → ds ≡ take (n - 1) cs → AreFilled ds
  popped_filled cs ds n lacks count is =
      let inside = lacks_within cs (length cs - 1) lacks in
      rw (is, count) (filled_without cs (length cs - 1) lacks (omega (arith, inside)))

  pub popped_same : (cs ds : List (VecDeque T A)) (n : ℕ) (e : VecDeque T A) → LacksAt (length cs - 1) cs → n ≡ length cs → ds ≡ take (n - 1) cs
      → e ≡ slice_index_or cs (n - 1) e → true ≡ (deque_len e == 0) → elements ds ≡ elements cs
  popped_same cs ds n e lacks count is last none =
      let inside = lacks_within cs (length cs - 1) lacks in
      let empty : deque_len e ≡ 0 = grind (arith, nat_tests) in
      rw is (rw count (same_without cs (length cs - 1) e (omega (arith, inside))
      (ap deque_len (sym (last ∙ ap (λ k. get_or cs (k - 1) e) count)) ∙ empty)))

  pub kept_filled : (cs : List (VecDeque T A)) (n : ℕ) (e : VecDeque T A) → LacksAt (length cs - 1) cs → n ≡ length cs
      → e ≡ slice_index_or cs (n - 1) e → false ≡ (deque_len e == 0) → AreFilled cs
  kept_filled cs n e lacks count last some =
      let inside = lacks_within cs (length cs - 1) lacks in
      let there : 0 < deque_len e = grind (arith, nat_tests) in
      last_filled cs (length cs - 1) e lacks (omega (arith, inside))
      (subst (λ d. 0 < deque_len d) (last ∙ ap (λ k. get_or cs (k - 1) e) count) there)

  -- ---- an element behind all

  last_most : (cs : List (VecDeque T A)) (n : ℕ) (e : VecDeque T A) → AreFilled cs → suc n ≡ length cs → deque_len (get_or cs n e) ≤ full
  last_most [] n e filled last = absurd (omega (arith, last))
  last_most (c ∷ []) zero e filled last = filled.1
  last_most (c ∷ []) (suc n) e filled last = absurd (omega (arith, last))
  last_most (c ∷ d ∷ rest) zero e filled last = absurd (omega (arith, last))
  last_most (c ∷ d ∷ rest) (suc n) e filled last = last_most (d ∷ rest) n e filled.1 (omega (arith, last))

  grown : (cs : List (VecDeque T A)) (n : ℕ) (e c' : VecDeque T A) → AreFilled cs → suc n ≡ length cs → deque_len (get_or cs n e) < full
      → deque_len c' ≡ deque_len (get_or cs n e) + 1 → AreFilled (set cs n c')
  grown [] n e c' filled last few more = absurd (omega (arith, last))
  grown (c ∷ []) zero e c' filled last few more = (omega (arith, more), omega (arith, more, few))
  grown (c ∷ []) (suc n) e c' filled last few more = absurd (omega (arith, last))
  grown (c ∷ d ∷ rest) zero e c' filled last few more = absurd (omega (arith, last))
  grown (c ∷ d ∷ rest) (suc n) e c' filled last few more =
      full_before c (set (d ∷ rest) n c') filled.0 (let same = length-set (d ∷ rest) n c' in omega (arith, same))
      (grown (d ∷ rest) n e c' filled.1 (omega (arith, last)) few more)

  appended : (cs : List (VecDeque T A)) (n : ℕ) (e c : VecDeque T A) → AreFilled cs → suc n ≡ length cs → deque_len (get_or cs n e) ≡ full
      → deque_len c ≡ 1 → AreFilled (cs ++ c ∷ [])
  appended [] n e c filled last is_full one = absurd (omega (arith, last))
  appended (d ∷ []) zero e c filled last is_full one = (is_full, (omega (arith, one), omega (arith, one)))
  appended (d ∷ []) (suc n) e c filled last is_full one = absurd (omega (arith, last))
  appended (d ∷ f ∷ rest) zero e c filled last is_full one = absurd (omega (arith, last))
  appended (d ∷ f ∷ rest) (suc n) e c filled last is_full one = (filled.0, appended (f ∷ rest) n e c filled.1 (omega (arith, last)) is_full one)

  last_of : (cs : List (VecDeque T A)) (n : ℕ) (e : VecDeque T A) → n ≡ length cs → e ≡ slice_index_or cs (n - 1) e
      → deque_len (get_or cs (n - 1) e) ≡ deque_len e
  last_of cs n e count is = ap deque_len (sym is)

  pub pushed_filled : (cs : List (VecDeque T A)) (n : ℕ) (e c' : VecDeque T A) → AreFilled cs → n ≡ length cs → 0 < n
      → e ≡ slice_index_or cs (n - 1) e → deque_len e < full → deque_len c' ≡ deque_len e + 1 → AreFilled (set cs (n - 1) c')
  pushed_filled cs n e c' filled count some is few more =
      let same = last_of cs n e count is in
      grown cs (n - 1) e c' filled (omega (arith, count, some)) (omega (arith, same, few)) (omega (arith, same, more))

  pub unpushed_filled : (cs : List (VecDeque T A)) (n : ℕ) (e c' : VecDeque T A) → AreFilled cs → n ≡ length cs → 0 < n
      → e ≡ slice_index_or cs (n - 1) e → deque_len c' ≡ deque_len e → AreFilled (set cs (n - 1) c')
  unpushed_filled cs n e c' filled count some is same =
      filled_set cs (n - 1) e c' filled (omega (arith, count, some)) (same ∙ sym (last_of cs n e count is))

  nothing_behind : (cs : List (VecDeque T A)) (n : ℕ) → n ≡ length cs → 0 < n → drop (suc (n - 1)) cs ≡ []
  nothing_behind cs n count some = empty_list (drop (suc (n - 1)) cs) (let cut = length-drop (suc (n - 1)) cs in omega (arith, cut, count, some))

  with_last : (cs : List (VecDeque T A)) (n : ℕ) (c' : VecDeque T A) → n ≡ length cs → 0 < n
      → elements (set cs (n - 1) c') ≡ elements (take (n - 1) cs) ++ (c'.items ++ [])
  with_last cs n c' count some =
      around_other cs (n - 1) c' (omega (arith, count, some))
      ∙ ap (λ ds. elements (take (n - 1) cs) ++ (c'.items ++ elements ds)) (nothing_behind cs n count some)

  its_last : (cs : List (VecDeque T A)) (n : ℕ) (e : VecDeque T A) → n ≡ length cs → 0 < n → e ≡ slice_index_or cs (n - 1) e
      → elements cs ≡ elements (take (n - 1) cs) ++ (e.items ++ [])
  its_last cs n e count some is =
      around cs (n - 1) e (omega (arith, count, some))
      ∙ ap (λ ds. elements (take (n - 1) cs) ++ ((get_or cs (n - 1) e).items ++ elements ds)) (nothing_behind cs n count some)
      ∙ ap (λ c. elements (take (n - 1) cs) ++ (deque_items c ++ [])) (sym is)

  pub pushed : (cs : List (VecDeque T A)) (n : ℕ) (e c' : VecDeque T A) (x : T) → n ≡ length cs → 0 < n → e ≡ slice_index_or cs (n - 1) e
      → c'.items ≡ e.items ++ x ∷ [] → elements (set cs (n - 1) c') ≡ elements cs ++ x ∷ []
  pushed cs n e c' x count some is more =
      let start = elements (take (n - 1) cs) in
      with_last cs n c' count some
      ∙ ap (λ ts. start ++ ts) (append-nil c'.items ∙ more ∙ ap (λ ts. ts ++ x ∷ []) (sym (append-nil e.items)))
      ∙ sym (append_assoc start (e.items ++ []) (x ∷ []))
      ∙ ap (λ ts. ts ++ x ∷ []) (sym (its_last cs n e count some is))

  pub unpushed : (cs : List (VecDeque T A)) (n : ℕ) (e c' : VecDeque T A) → n ≡ length cs → 0 < n → e ≡ slice_index_or cs (n - 1) e
      → c'.items ≡ e.items → elements (set cs (n - 1) c') ≡ elements cs
  unpushed cs n e c' count some is same =
      with_last cs n c' count some
      ∙ ap (λ ts. elements (take (n - 1) cs) ++ (ts ++ [])) same
      ∙ sym (its_last cs n e count some is)

  pub filled_behind : (cs : List (VecDeque T A)) (n : ℕ) (e c : VecDeque T A) → AreFilled cs → n ≡ length cs → 0 < n
      → e ≡ slice_index_or cs (n - 1) e → full ≤ deque_len e → deque_len c ≡ 1 → AreFilled (cs ++ c ∷ [])
  filled_behind cs n e c filled count some is many one =
      let same = last_of cs n e count is in
      let most = last_most cs (n - 1) e filled (omega (arith, count, some)) in
      appended cs (n - 1) e c filled (omega (arith, count, some)) (omega (arith, same, most, many)) one

  pub filled_first : (cs : List (VecDeque T A)) (c : VecDeque T A) → length cs ≡ 0 → deque_len c ≡ 1 → AreFilled (cs ++ c ∷ [])
  filled_first [] c none one = (omega (arith, one), omega (arith, one))
  filled_first (d ∷ cs) c none one = absurd (omega (arith, none))

  pushed_behind : (cs : List (VecDeque T A)) (c : VecDeque T A) (x : T) → c.items ≡ x ∷ [] → elements (cs ++ c ∷ []) ≡ elements cs ++ x ∷ []
  pushed_behind cs c x is = flat_map-append deque_items cs (c ∷ []) ∙ ap (λ ts. elements cs ++ ts) (append-nil c.items ∙ is)

  -- the chunks are as they were where the last of them was only looked at
  pub looked_at : (cs ds : List (VecDeque T A)) (n : ℕ) (e : VecDeque T A) → ds ≡ set cs n e → e ≡ slice_index_or cs n e → ds ≡ cs
  looked_at cs ds n e is there = is ∙ ap (set cs n) there ∙ set-get_or cs n e

  pub none_at_all : (cs : List (VecDeque T A)) (n : ℕ) → n ≡ length cs → (0 < n → false ≡ true) → length cs ≡ 0
  none_at_all cs n count none = let most = at_most 0 n (λ some. false≢true (none some)) in omega (arith, count, most)

  pub pushed_on : (cs ds fs : List (VecDeque T A)) (c : VecDeque T A) (x : T) → fs ≡ ds ++ c ∷ [] → ds ≡ cs → c.items ≡ x ∷ []
      → elements fs ≡ elements cs ++ x ∷ []
  pushed_on cs ds fs c x is same one = rw (is, same) (pushed_behind cs c x one)
