-- Numbered rows in chunks: which chunk may have a number, and what a change of that chunk does to all rows.
use Rattle.std.proofs.Common.{◌≡◌, ℕ, zero, suc, ◌+◌, ◌-◌, ◌<◌, ◌≤◌, Bool, true, false, nat_lt, nat_eq, ◌==◌, Vec, Result, Ok, Err, OnOk, OnErr, None, is_some as has_some, List, [], ◌∷◌, ◌++◌, length, take, drop, set, get_or, remove, Contains, refl, sym, ap, subst, add-one, arith, ◌∙◌}
use Rattle.std.specs.Cmp.{nat_eq_equiv}
use Rattle.std.specs.List.{AllWithin}
use Rattle.std.specs.List.Sorted.{IsPartitionedBy}
use Rattle.std.specs.Map.{lookup}
use Rattle.std.specs.Vec.{vec_items, vec_len}
use Rattle.std.proofs.lemmas.Bool.{false≢true}
use Rattle.std.proofs.lemmas.Bool.Decides.{nat_tests}
use Rattle.std.proofs.lemmas.List.{append_assoc, append-nil, take-append-drop, take-set, drop-set, drop_more}
use Rattle.std.proofs.lemmas.List.Concat.{flat_map-append}
use Rattle.std.proofs.lemmas.List.Elements.{Contains-append_left, Contains-append_right}
use Rattle.std.proofs.lemmas.Map.Views.{IsSome-lookup_from_Contains, Contains-keys_from_lookup}
use Rattle.lost_index.specs.Chunks.{AreRising, HasRow, AreFilled, AreChunks, IsChunkOf, rows_of, ends_below}
use Rattle.lost_index.specs.Entries.{IsHeld, IsAbove, without, with_number}
use Rattle.lost_index.proofs.RisingLemmas.{Lacks, is_below, is_not_below, lacks_append, lookup_lacking, lookup_left, lookup_right, without_left, without_right, with_left, with_right, ended_lacks, behind_above, above_not_ended, above_append_left, above_append_right, AreAbove, lacks_above, held_lacks, rising_left, rising_right, rising_put, rising_without, rising_with, length_with, equal_numbers}

empty_list : {X : Type 0} (xs : List X) → length xs ≡ 0 → xs ≡ []
empty_list [] none = refl
empty_list (x ∷ xs) none = absurd (omega (arith, none))

is_zero : (b : Bool) (m : ℕ) → b ≡ (m == 0) → b ≡ true → m ≡ 0
is_zero b m is so = search (arith, nat_tests)

is_some : (b : Bool) (m : ℕ) → b ≡ (m == 0) → b ≡ false → m ≡ 0 → ⊥
is_some b m is not_so none = false≢true (sym not_so ∙ is ∙ ap (λ k. k == 0) none)

pub by_result : {X E P Q Z : Type 0} (r : Result X E) → OnOk r P → OnErr r Q → (P → Z) → (Q → Z) → Z
by_result (Ok x) p q f h = f p
by_result (Err e) p q f h = h q

module _ {T A : Type 0} where
  -- ---- the rows around those of one chunk
  pub around : (cs : List (Vec (ℕ × T) A)) (i : ℕ) (e : Vec (ℕ × T) A) → i < length cs
      → rows_of cs ≡ rows_of (take i cs) ++ ((get_or cs i e).items ++ rows_of (drop (suc i) cs))
  around cs i e within =
      ap rows_of (sym (take-append-drop i cs) ∙ ap (λ l. take i cs ++ l) (drop_more cs i e within)) ∙ flat_map-append vec_items (take i cs) (get_or cs i e ∷ drop (i + 1) cs)
      ∙ ap (λ n. rows_of (take i cs) ++ ((get_or cs i e).items ++ rows_of (drop n cs))) (add-one i)

  pub around_other : (cs : List (Vec (ℕ × T) A)) (i : ℕ) (c' : Vec (ℕ × T) A) → i < length cs
      → rows_of (set cs i c') ≡ rows_of (take i cs) ++ (c'.items ++ rows_of (drop (suc i) cs))
  around_other cs i c' within =
      ap rows_of (sym (take-append-drop i (set cs i c')) ∙ ap (λ l. l ++ drop i (set cs i c')) (take-set cs i c') ∙ ap (λ l. take i cs ++ l) (drop-set cs i c' within))
      ∙ flat_map-append vec_items (take i cs) (c' ∷ drop (i + 1) cs) ∙ ap (λ n. rows_of (take i cs) ++ (c'.items ++ rows_of (drop n cs))) (add-one i)

  pub rising_in : (cs : List (Vec (ℕ × T) A)) (i : ℕ) (e : Vec (ℕ × T) A) → i < length cs → AreRising (rows_of cs) → AreRising (get_or cs i e).items
  rising_in [] i e within rising = absurd (omega (arith, within))
  rising_in (c ∷ cs) zero e within rising = rising_left c.items (rows_of cs) rising
  rising_in (c ∷ cs) (suc i) e within rising = rising_in cs i e (omega (arith, within)) (rising_right c.items (rows_of cs) rising)

  -- ---- the only chunk that may have a number
  module _ (n : ℕ) where
    abbrev EndBelow : List (Vec (ℕ × T) A) → ℕ → Type 0
    EndBelow cs i = AllWithin (λ c. ends_below n (vec_items c) ≡ true) cs 0 i

    below_later : (c : Vec (ℕ × T) A) (cs : List (Vec (ℕ × T) A)) (i : ℕ) → EndBelow (c ∷ cs) (suc i) → EndBelow cs i
    below_later c cs i below k d low within = below (suc k) d (omega arith) (omega (arith, within))

    lacks_before : (cs : List (Vec (ℕ × T) A)) (i : ℕ) → AreRising (rows_of cs) → EndBelow cs i → Lacks n (rows_of (take i cs))
    lacks_before cs zero rising below = tt
    lacks_before [] (suc i) rising below = tt
    lacks_before (c ∷ cs) (suc i) rising below =
        lacks_append n c.items (rows_of (take i cs))
        (ended_lacks n c.items (rising_left c.items (rows_of cs) rising) (below 0 c (omega arith) (omega arith)))
        (lacks_before cs i (rising_right c.items (rows_of cs) rising) (below_later c cs i below))

    lacks_behind : (cs : List (Vec (ℕ × T) A)) (i : ℕ) (e : Vec (ℕ × T) A) → i < length cs → AreRising (rows_of cs)
        → ends_below n (get_or cs i e).items ≡ false → Lacks n (rows_of (drop (suc i) cs))
    lacks_behind [] i e within rising is = absurd (omega (arith, within))
    lacks_behind (c ∷ cs) zero e within rising is = lacks_above n (rows_of cs) (behind_above n c.items (rows_of cs) rising is)
    lacks_behind (c ∷ cs) (suc i) e within rising is =
        lacks_behind cs i e (omega (arith, within)) (rising_right c.items (rows_of cs) rising) is

    pub lacks_all : (cs : List (Vec (ℕ × T) A)) (i : ℕ) → AreRising (rows_of cs) → EndBelow cs i → length cs ≤ i → Lacks n (rows_of cs)
    lacks_all [] i rising below past = tt
    lacks_all (c ∷ cs) zero rising below past = absurd (omega (arith, past))
    lacks_all (c ∷ cs) (suc i) rising below past =
        lacks_append n c.items (rows_of cs)
        (ended_lacks n c.items (rising_left c.items (rows_of cs) rising) (below 0 c (omega arith) (omega arith)))
        (lacks_all cs i (rising_right c.items (rows_of cs) rising) (below_later c cs i below) (omega (arith, past)))

    pub within_held : (cs : List (Vec (ℕ × T) A)) (i : ℕ) → AreRising (rows_of cs) → IsChunkOf n cs i → IsHeld n (rows_of cs) → i < length cs
    within_held cs i rising is held = by (nat_lt i (length cs)) refl
      where
        by : (t : Bool) → nat_lt i (length cs) ≡ t → i < length cs
        by true less = is_below i (length cs) less
        by false less = absurd (held_lacks n (rows_of cs) held (lacks_all cs i rising is.0 (is_not_below i (length cs) less)))

    module _ (cs : List (Vec (ℕ × T) A)) (i : ℕ) (e : Vec (ℕ × T) A) (rising : AreRising (rows_of cs)) (is : IsChunkOf n cs i) where
      abbrev before : List (ℕ × T)
      before = rows_of (take i cs)

      abbrev behind : List (ℕ × T)
      behind = rows_of (drop (suc i) cs)

      abbrev here : List (ℕ × T)
      here = (get_or cs i e).items

      lacking_before : Lacks n before
      lacking_before = lacks_before cs i rising is.0

      lacking_behind : i < length cs → Lacks n behind
      lacking_behind within = lacks_behind cs i e within rising (is.1 i e (omega arith) within)

      pub lookup_here : i < length cs → lookup (nat_eq n) (rows_of cs) ≡ lookup (nat_eq n) here
      lookup_here within =
          ap (lookup (nat_eq n)) (around cs i e within) ∙ lookup_left n before (here ++ behind) lacking_before
          ∙ lookup_right n here behind (lacking_behind within)

      pub without_here : i < length cs → without n (rows_of cs) ≡ before ++ (without n here ++ behind)
      without_here within =
          ap (without n) (around cs i e within) ∙ without_left n before (here ++ behind) lacking_before
          ∙ ap (λ rows. before ++ rows) (without_right n here behind (lacking_behind within))

      pub held_here : IsHeld n (rows_of cs) → IsHeld n here
      held_here held =
          Contains-keys_from_lookup equal_numbers n here
          (ap has_some (sym (lookup_here (within_held cs i rising is held))) ∙ IsSome-lookup_from_Contains nat_eq_equiv n (rows_of cs) held)

  -- ---- the same of a vector of chunks that is read as a slice
  module _ {B : Type 0} (n : ℕ) (cs : Vec (Vec (ℕ × T) A) B) (l : List (Vec (ℕ × T) A)) (i : ℕ) (same : l ≡ cs.items) (chunks : AreChunks cs.items)
      (at : IsChunkOf n l i) (held : IsHeld n (rows_of cs.items)) where
    at_chunk : IsChunkOf n cs.items i
    at_chunk = subst (λ l. IsChunkOf n l i) same at

    pub chunk_within : i < vec_len cs
    chunk_within = subst (λ len. i < len) (sym cs.ok.0) (within_held n cs.items i chunks.rising at_chunk held)

    pub chunk_has : (e : Vec (ℕ × T) A) → e ≡ get_or cs.items i e → HasRow n e.items
    chunk_has e is = record {
      rising = subst (λ e. AreRising e.items) (sym is) (rising_in cs.items i e (within_held n cs.items i chunks.rising at_chunk held) chunks.rising);
      held = subst (λ e. IsHeld n e.items) (sym is) (held_here n cs.items i e chunks.rising at_chunk held);
    }

  pub not_found_in_all : (n : ℕ) (cs : List (Vec (ℕ × T) A)) (i : ℕ) → AreRising (rows_of cs) → IsChunkOf n cs i
      → false ≡ nat_lt i (length cs) → None ≡ lookup (nat_eq n) (rows_of cs)
  not_found_in_all n cs i rising is past =
      sym (lookup_lacking n (rows_of cs) (lacks_all n cs i rising is.0 (is_not_below i (length cs) (sym past))))

  -- ---- what stands in a chunk stands in all rows
  pub contains_all : (cs : List (Vec (ℕ × T) A)) (i : ℕ) (e : Vec (ℕ × T) A) (r : ℕ × T) → i < length cs → Contains (get_or cs i e).items r → Contains (rows_of cs) r
  contains_all [] i e r within stands = absurd (omega (arith, within))
  contains_all (c ∷ cs) zero e r within stands = Contains-append_left c.items (rows_of cs) r stands
  contains_all (c ∷ cs) (suc i) e r within stands =
      Contains-append_right c.items (rows_of cs) r (contains_all cs i e r (omega (arith, within)) stands)

  -- ---- no chunk is empty
  pub filled_set : (cs : List (Vec (ℕ × T) A)) (i : ℕ) (c' : Vec (ℕ × T) A) → AreFilled cs → 0 < vec_len c' → AreFilled (set cs i c')
  filled_set [] i c' filled some = tt
  filled_set (c ∷ cs) zero c' filled some = (some, filled.1)
  filled_set (c ∷ cs) (suc i) c' filled some = (filled.0, filled_set cs i c' filled.1 some)

  pub filled_remove : (cs : List (Vec (ℕ × T) A)) (i : ℕ) (c' : Vec (ℕ × T) A) → AreFilled cs → AreFilled (remove (set cs i c') i)
  filled_remove [] zero c' filled = tt
  filled_remove [] (suc i) c' filled = tt
  filled_remove (c ∷ cs) zero c' filled = filled.1
  filled_remove (c ∷ cs) (suc i) c' filled = (filled.0, filled_remove cs i c' filled.1)

  filled_back : (cs : List (Vec (ℕ × T) A)) (i : ℕ) (e : Vec (ℕ × T) A) → i < length cs → AreFilled (remove cs i) → 0 < vec_len (get_or cs i e) → AreFilled cs
  filled_back [] i e within filled some = tt
  filled_back (c ∷ cs) zero e within filled some = (some, filled)
  filled_back (c ∷ cs) (suc i) e within filled some = (filled.0, filled_back cs i e (omega (arith, within)) filled.1 some)

  pub filled_in : (cs : List (Vec (ℕ × T) A)) (i : ℕ) (e : Vec (ℕ × T) A) → i < length cs → AreFilled cs → 0 < vec_len (get_or cs i e)
  filled_in [] i e within filled = absurd (omega (arith, within))
  filled_in (c ∷ cs) zero e within filled = filled.0
  filled_in (c ∷ cs) (suc i) e within filled = filled_in cs i e (omega (arith, within)) filled.1

  pub filled_behind : (cs : List (Vec (ℕ × T) A)) (c : Vec (ℕ × T) A) → AreFilled cs → 0 < vec_len c → AreFilled (cs ++ c ∷ [])
  filled_behind [] c filled some = (some, tt)
  filled_behind (d ∷ cs) c filled some = (filled.0, filled_behind cs c filled.1 some)

  -- ---- the chunks that end below a number stand in front
  above_in : (n : ℕ) (cs : List (Vec (ℕ × T) A)) (i : ℕ) (e : Vec (ℕ × T) A) → i < length cs → AreAbove n (rows_of cs) → AreAbove n (get_or cs i e).items
  above_in n [] i e within above = absurd (omega (arith, within))
  above_in n (c ∷ cs) zero e within above = above_append_left n c.items (rows_of cs) above
  above_in n (c ∷ cs) (suc i) e within above = above_in n cs i e (omega (arith, within)) (above_append_right n c.items (rows_of cs) above)

  first_ends_below : (n : ℕ) (c : Vec (ℕ × T) A) (cs : List (Vec (ℕ × T) A)) (j : ℕ) (e : Vec (ℕ × T) A) → AreRising (c.items ++ rows_of cs) → AreFilled cs
      → j < length cs → ends_below n (get_or cs j e).items ≡ true → ends_below n c.items ≡ true
  first_ends_below n c cs j e rising filled within is = by (ends_below n c.items) refl
    where
      some : 0 < length (get_or cs j e).items
      some = let len = (get_or cs j e).ok.0 in let one = filled_in cs j e within filled in omega (arith, len, one)

      by : (t : Bool) → ends_below n c.items ≡ t → ends_below n c.items ≡ true
      by true below = below
      by false not_below = absurd (above_not_ended n (get_or cs j e).items some
          (above_in n cs j e within (behind_above n c.items (rows_of cs) rising not_below)) is)

  pub chunks_parted : (n : ℕ) (cs : List (Vec (ℕ × T) A)) → AreRising (rows_of cs) → AreFilled cs → IsPartitionedBy (λ c. ends_below n (vec_items c)) cs
  chunks_parted n [] rising filled i j d before within is = absurd (omega (arith, within))
  chunks_parted n (c ∷ cs) rising filled zero zero d before within is = is
  chunks_parted n (c ∷ cs) rising filled zero (suc j) d before within is = first_ends_below n c cs j d rising filled.1 (omega (arith, within)) is
  chunks_parted n (c ∷ cs) rising filled (suc i) zero d before within is = absurd (omega (arith, before))
  chunks_parted n (c ∷ cs) rising filled (suc i) (suc j) d before within is =
      chunks_parted n cs (rising_right c.items (rows_of cs) rising) filled.1 i j d (omega (arith, before)) (omega (arith, within)) is

  -- ---- a row behind all
  same_rows : (cs : List (Vec (ℕ × T) A)) (i : ℕ) (e c' : Vec (ℕ × T) A) → i < length cs → c'.items ≡ (get_or cs i e).items → rows_of (set cs i c') ≡ rows_of cs
  same_rows cs i e c' within same =
      around_other cs i c' within ∙ ap (λ rows. rows_of (take i cs) ++ (rows ++ rows_of (drop (suc i) cs))) same ∙ sym (around cs i e within)

  put_last_rows : (cs : List (Vec (ℕ × T) A)) (l : ℕ) (e c' : Vec (ℕ × T) A) (r : ℕ × T) → length cs ≡ suc l
      → c'.items ≡ (get_or cs l e).items ++ r ∷ [] → rows_of (set cs l c') ≡ rows_of cs ++ r ∷ []
  put_last_rows [] l e c' r long is = absurd (omega (arith, long))
  put_last_rows (c ∷ []) zero e c' r long is = append-nil c'.items ∙ is ∙ ap (λ rows. rows ++ r ∷ []) (sym (append-nil c.items))
  put_last_rows (c ∷ []) (suc l) e c' r long is = absurd (omega (arith, long))
  put_last_rows (c ∷ d ∷ cs) zero e c' r long is = absurd (omega (arith, long))
  put_last_rows (c ∷ d ∷ cs) (suc l) e c' r long is =
      ap (λ rows. c.items ++ rows) (put_last_rows (d ∷ cs) l e c' r (omega (arith, long)) is)
      ∙ sym (append_assoc c.items (rows_of (d ∷ cs)) (r ∷ []))

  pub are_chunks_put : (cs cs' : List (Vec (ℕ × T) A)) (n : ℕ) (v : T) → AreChunks cs → IsAbove n (rows_of cs)
      → rows_of cs' ≡ rows_of cs ++ (n, v) ∷ [] → AreFilled cs' → AreChunks cs'
  are_chunks_put cs cs' n v chunks above is filled = record {
    rising = subst AreRising (sym is) (rising_put n v (rows_of cs) chunks.rising above);
    filled = filled;
  }

  module _ (cs : List (Vec (ℕ × T) A)) (e c' : Vec (ℕ × T) A) (some : 0 < length cs) where
    abbrev last : Vec (ℕ × T) A
    last = get_or cs (length cs - 1) e

    pub put_last : (r : ℕ × T) → c'.items ≡ last.items ++ r ∷ [] → rows_of (set cs (length cs - 1) c') ≡ rows_of cs ++ r ∷ []
    put_last r put = put_last_rows cs (length cs - 1) e c' r (omega (arith, some)) put

    pub keep_last : c'.items ≡ last.items → rows_of (set cs (length cs - 1) c') ≡ rows_of cs
    keep_last same = same_rows cs (length cs - 1) e c' (omega (arith, some)) same

    pub chunks_put_last : (n : ℕ) (v : T) → AreChunks cs → IsAbove n (rows_of cs) → c'.items ≡ last.items ++ (n, v) ∷ [] → vec_len c' ≡ vec_len last + 1
        → AreChunks (set cs (length cs - 1) c')
    chunks_put_last n v chunks above put more =
        are_chunks_put cs (set cs (length cs - 1) c') n v chunks above (put_last (n, v) put)
        (filled_set cs (length cs - 1) c' chunks.filled (omega (arith, more)))

    pub chunks_keep_last : AreChunks cs → c'.items ≡ last.items → vec_len c' ≡ vec_len last → AreChunks (set cs (length cs - 1) c')
    chunks_keep_last chunks same len = record {
      rising = subst AreRising (sym (keep_last same)) chunks.rising;
      filled = filled_set cs (length cs - 1) c' chunks.filled
          (let one = filled_in cs (length cs - 1) e (omega (arith, some)) chunks.filled in omega (arith, one, len));
    }

  put_behind_rows : (cs : List (Vec (ℕ × T) A)) (c : Vec (ℕ × T) A) (r : ℕ × T) → c.items ≡ r ∷ [] → rows_of (cs ++ c ∷ []) ≡ rows_of cs ++ r ∷ []
  put_behind_rows [] c r is = append-nil c.items ∙ is
  put_behind_rows (d ∷ cs) c r is =
      ap (λ rows. d.items ++ rows) (put_behind_rows cs c r is) ∙ sym (append_assoc d.items (rows_of cs) (r ∷ []))

  pub chunks_put_behind : (cs : List (Vec (ℕ × T) A)) (c : Vec (ℕ × T) A) (n : ℕ) (v : T) → AreChunks cs → IsAbove n (rows_of cs)
      → c.items ≡ (n, v) ∷ [] → vec_len c ≡ 1 → AreChunks (cs ++ c ∷ [])
  chunks_put_behind cs c n v chunks above is one =
      are_chunks_put cs (cs ++ c ∷ []) n v chunks above (put_behind_rows cs c (n, v) is) (filled_behind cs c chunks.filled (omega (arith, one)))

  -- ---- the row of a number is taken out
  module _ (n : ℕ) (cs : List (Vec (ℕ × T) A)) (i : ℕ) (e c' : Vec (ℕ × T) A) (chunks : AreChunks cs) (at : IsChunkOf n cs i)
      (held : IsHeld n (rows_of cs)) (is : e ≡ get_or cs i e) (rest : c'.items ≡ without n e.items) where
    pub taken_rows : rows_of (set cs i c') ≡ without n (rows_of cs)
    taken_rows =
        let within = within_held n cs i chunks.rising at held in
        around_other cs i c' within
        ∙ ap (λ rows. rows_of (take i cs) ++ (rows ++ rows_of (drop (suc i) cs))) (rest ∙ ap (λ c. without n c.items) is)
        ∙ sym (without_here n cs i e chunks.rising at within)

    pub taken_rising : AreRising (rows_of (set cs i c'))
    taken_rising = subst AreRising (sym taken_rows) (rising_without n (rows_of cs) chunks.rising)

  -- ---- a chunk that is empty goes
  emptied_rows : (cs : List (Vec (ℕ × T) A)) (i : ℕ) (e : Vec (ℕ × T) A) → i < length cs → (get_or cs i e).items ≡ [] → rows_of (remove cs i) ≡ rows_of cs
  emptied_rows [] i e within none = absurd (omega (arith, within))
  emptied_rows (c ∷ cs) zero e within none = ap (λ rows. rows ++ rows_of cs) (sym none)
  emptied_rows (c ∷ cs) (suc i) e within none = ap (λ rows. c.items ++ rows) (emptied_rows cs i e (omega (arith, within)) none)

  module _ (cs : List (Vec (ℕ × T) A)) (i : ℕ) (e : Vec (ℕ × T) A) (empty : Bool) (within : i < length cs) (is : e ≡ get_or cs i e) (tested : empty ≡ (vec_len e == 0))
      (rising : AreRising (rows_of cs)) (filled : AreFilled (remove cs i)) where
    pub dropped_rows : empty ≡ true → rows_of (remove cs i) ≡ rows_of cs
    dropped_rows so = emptied_rows cs i e within (ap (λ c. c.items) (sym is) ∙ empty_list e.items (sym e.ok.0 ∙ is_zero empty (vec_len e) tested so))

    pub dropped_chunks : empty ≡ true → AreChunks (remove cs i)
    dropped_chunks so = record { rising = subst AreRising (sym (dropped_rows so)) rising; filled = filled }

    pub kept_chunks : empty ≡ false → AreChunks cs
    kept_chunks not_so = record { rising = rising; filled = filled_back cs i e within filled (ap_len (is_some empty (vec_len e) tested not_so)) }
      where
        ap_len : (vec_len e ≡ 0 → ⊥) → 0 < vec_len (get_or cs i e)
        ap_len some = let len = ap vec_len is in omega (arith, some, len)

-- ---- a number has other regions
module _ {R A : Type 0} (n : ℕ) (change : List R → List R) (cs : List (Vec (ℕ × List R) A)) (i : ℕ) (e c' : Vec (ℕ × List R) A)
    (chunks : AreChunks cs) (at : IsChunkOf n cs i) (held : IsHeld n (rows_of cs)) (is : e ≡ get_or cs i e) where
  module _ (changed : c'.items ≡ with_number n change e.items) where
    pub changed_rows : rows_of (set cs i c') ≡ with_number n change (rows_of cs)
    changed_rows =
        let within = within_held n cs i chunks.rising at held in
        around_other cs i c' within
        ∙ ap (λ rows. rows_of (take i cs) ++ (rows ++ rows_of (drop (suc i) cs))) (changed ∙ ap (λ c. with_number n change c.items) is)
        ∙ ap (λ rows. rows_of (take i cs) ++ rows)
        (sym (with_right n change (get_or cs i e).items (rows_of (drop (suc i) cs)) (lacking_behind n cs i e chunks.rising at within)))
        ∙ sym (with_left n change (rows_of (take i cs)) ((get_or cs i e).items ++ rows_of (drop (suc i) cs)) (lacking_before n cs i e chunks.rising at))
        ∙ ap (with_number n change) (sym (around cs i e within))

    pub changed_chunks : AreChunks (set cs i c')
    changed_chunks =
        let within = within_held n cs i chunks.rising at held in
        let some = filled_in cs i e within chunks.filled in
        let len = ap vec_len is in
        let old = e.ok.0 in
        let new = c'.ok.0 in
        let same = ap length changed ∙ length_with n change e.items in record {
          rising = subst AreRising (sym changed_rows) (rising_with n change (rows_of cs) chunks.rising);
          filled = filled_set cs i c' chunks.filled (omega (arith, some, len, old, new, same));
        }

  pub unchanged_rows : c'.items ≡ e.items → rows_of (set cs i c') ≡ rows_of cs
  unchanged_rows same = same_rows cs i e c' (within_held n cs i chunks.rising at held) (same ∙ ap (λ c. c.items) is)

  pub unchanged_chunks : c'.items ≡ e.items → AreChunks (set cs i c')
  unchanged_chunks same =
      let within = within_held n cs i chunks.rising at held in
      let some = filled_in cs i e within chunks.filled in
      let len = ap vec_len is in
      let old = e.ok.0 in
      let new = c'.ok.0 in
      let long = ap length same in record {
        rising = subst AreRising (sym (unchanged_rows same)) chunks.rising;
        filled = filled_set cs i c' chunks.filled (omega (arith, some, len, old, new, long));
      }
