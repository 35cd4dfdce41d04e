-- That numbers tell the classes of their mappings' services, edit by edit; and that no mapping of a chain is passed over.
use Rattle.std.proofs.Common.{◌≡◌, ℕ, zero, suc, ◌+◌, ◌-◌, ◌<◌, ◌≤◌, ◌%◌, Bool, true, false, cond, ◌||◌, ◌⊎◌, inl, inr, ⊎_elim, List, [], ◌∷◌, ◌++◌, length, take, filter, slice_set, slice_index_or, get_or, replicate, IsTrue, Contains, nat_eq, refl, sym, ap, subst, ◌∙◌, arith}
use Rattle.std.specs.List.{list_any, zip, remove}
use Rattle.std.proofs.lemmas.Bool.{false≢true, or_cases}
use Rattle.std.proofs.lemmas.List.{get_or_past}
use Rattle.lost_spec.specs.Place.{Place}
use Rattle.lost_spec.specs.Service.{Service, is_service, is_at_or_below, service_text}
use Rattle.lost_spec.specs.Mapping.{Mapping}
use Rattle.lost_urn.specs.Order.{same_service_is}
use Rattle.lost_tables.specs.declared.tables.Tables.{Tables}
use Rattle.lost_tables.specs.Picks.{Covers}
use Rattle.lost_regions.specs.Regions.{Regions, holders_at}
use Rattle.lost_routing.specs.Chain.{IsHolderBelow}
use Rattle.lost_routing.specs.Classes.{class_of, has_class, is_told, KeepsClasses, AreOfChain, AreTold}
use Rattle.lost_routing.specs.Invariants.{IsClassed}
use Rattle.lost_routing.proofs.SplitLemmas.{all_map, all_join, zip_split}
use Rattle.lost_routing.proofs.CoverLemmas.{row_at, same_number, or_true, covers_at, noted_at}

-- ---- what is told stays told

still_or : (a b c : Bool) → (b ≡ true → c ≡ true) → (a || b) ≡ true → (a || c) ≡ true
still_or true b c keeps h = refl
still_or false b c keeps h = keeps h

told_still : (old new : List Bool) → KeepsClasses old new → (n : ℕ) (m : Mapping) → is_told old n m ≡ true → is_told new n m ≡ true
told_still old new keeps n m h =
    let class = class_of (service_text m.service) in
    still_or (nat_eq (n % 64) class) (has_class old class) (has_class new class) (keeps class) h

pub told_kept : (old new : List Bool) (rows : List (ℕ × Mapping)) → KeepsClasses old new → AreTold old rows → AreTold new rows
told_kept old new rows keeps told =
    all_map (λ e. is_told old e.0 e.1 ≡ true) (λ e. is_told new e.0 e.1 ≡ true) rows (λ e. told_still old new keeps e.0 e.1) told

pub told_put : (old new : List Bool) (ns : List ℕ) (ms : List Mapping) (n : ℕ) (m : Mapping) → length ns ≡ length ms → KeepsClasses old new
    → is_told new n m ≡ true → AreTold old (zip ns ms) → AreTold new (zip (ns ++ n ∷ []) (ms ++ m ∷ []))
told_put old new ns ms n m paired keeps told all =
    subst (AreTold new) (sym (zip_split ns [] ms [] n m paired))
    (all_join (λ e. is_told new e.0 e.1 ≡ true) (zip ns ms) ((n, m) ∷ []) (told_kept old new (zip ns ms) keeps all) (told, tt))

told_set : (strays : List Bool) (ns : List ℕ) (ms : List Mapping) (i n : ℕ) (m : Mapping) → length ns ≡ length ms → i < length ms → n ≡ slice_index_or ns i n
    → is_told strays n m ≡ true → AreTold strays (zip ns ms) → AreTold strays (zip ns (slice_set ms i m))
told_set strays [] ms i n m paired within at told all = tt
told_set strays (k ∷ ns) [] i n m paired within at told all = absurd (omega arith)
told_set strays (k ∷ ns) (x ∷ ms) zero n m paired within at told all = (subst (λ j. is_told strays j m ≡ true) at told, all.1)
told_set strays (k ∷ ns) (x ∷ ms) (suc i) n m paired within at told all =
    (all.0, told_set strays ns ms i n m (omega arith) (omega arith) at told all.1)

pub told_changed : (old new : List Bool) (ns : List ℕ) (ms : List Mapping) (i n : ℕ) (m : Mapping) → length ns ≡ length ms → i < length ms
    → n ≡ slice_index_or ns i n → KeepsClasses old new → is_told new n m ≡ true → AreTold old (zip ns ms) → AreTold new (zip ns (slice_set ms i m))
told_changed old new ns ms i n m paired within at keeps told all =
    told_set new ns ms i n m paired within at told (told_kept old new (zip ns ms) keeps all)

pub told_removed : (strays : List Bool) (ns : List ℕ) (ms : List Mapping) (i : ℕ) → length ns ≡ length ms → i < length ms
    → AreTold strays (zip ns ms) → AreTold strays (zip (remove ns i) (remove ms i))
told_removed strays [] [] i paired within all = absurd (omega arith)
told_removed strays [] (x ∷ ms) i paired within all = absurd (omega arith)
told_removed strays (k ∷ ns) [] i paired within all = absurd (omega arith)
told_removed strays (k ∷ ns) (x ∷ ms) zero paired within all = all.1
told_removed strays (k ∷ ns) (x ∷ ms) (suc i) paired within all = (all.0, told_removed strays ns ms i (omega arith) (omega arith) all.1)

-- ---- the classes of a chain

pub unset : (count class : ℕ) → get_or (replicate count false) class false ≡ false
unset zero class = get_or_past [] class false (omega arith)
unset (suc count) zero = refl
unset (suc count) (suc class) = unset count class

less_or_same : (k n : ℕ) → k < n + 1 → (k < n) ⊎ (k ≡ n)
less_or_same zero zero within = inr refl
less_or_same zero (suc n) within = inl (omega arith)
less_or_same (suc k) zero within = absurd (omega arith)
less_or_same (suc k) (suc n) within = ⊎_elim (λ less. inl (omega (arith, less))) (λ same. inr (ap suc same)) (less_or_same k n (omega arith))

-- with the class of one service more
pub chain_more : (s : Service) (strays old new : List Bool) (count class : ℕ) → AreOfChain s strays old count → KeepsClasses old new
    → class ≡ class_of (service_text (take (count + 1) s)) → has_class new class ≡ true → has_class strays class ≡ false → AreOfChain s strays new (count + 1)
chain_more s strays old new count class are keeps is marked none k within =
    ⊎_elim
    (λ less. (keeps (class_of (service_text (take (k + 1) s))) (are k less).0, (are k less).1))
    (λ same. subst (λ j. (has_class new (class_of (service_text (take (j + 1) s))) ≡ true) × (has_class strays (class_of (service_text (take (j + 1) s))) ≡ false))
    (sym same)
    (subst (λ c. (has_class new c ≡ true) × (has_class strays c ≡ false)) is (marked, none)))
    (less_or_same k count within)

-- ---- no mapping of a chain is passed over

kept_number : (passes : ℕ → Bool) (n : ℕ) (xs : List ℕ) → passes n ≡ true → list_any (nat_eq n) xs ≡ true → list_any (nat_eq n) (filter passes xs) ≡ true
kept_number passes n [] told h = h
kept_number passes n (x ∷ xs) told h =
    ⊎_elim
    (λ here. first_kept passes n x (filter passes xs) here (ap passes (sym (same_number n x here)) ∙ told))
    (λ later. later_kept passes n x (filter passes xs) (kept_number passes n xs told later))
    (or_cases (nat_eq n x) (list_any (nat_eq n) xs) h)
  where
    first_kept : (passes : ℕ → Bool) (n x : ℕ) (rest : List ℕ) → nat_eq n x ≡ true → passes x ≡ true → list_any (nat_eq n) (cond (passes x) (x ∷ rest) rest) ≡ true
    first_kept passes n x rest here told = rw (told, here) refl

    later_kept : (passes : ℕ → Bool) (n x : ℕ) (rest : List ℕ) → list_any (nat_eq n) rest ≡ true → list_any (nat_eq n) (cond (passes x) (x ∷ rest) rest) ≡ true
    later_kept passes n x rest h = elim (passes x) as (λ b. list_any (nat_eq n) (cond b (x ∷ rest) rest) ≡ true) [
      | true ↦ or_true (nat_eq n x) (list_any (nat_eq n) rest) h
      | false ↦ h
    ]

some_label : (s : Service) → IsTrue (is_service s) → 0 < length s
some_label [] h = absurd (false≢true h)
some_label (label ∷ rest) h = omega arith

not_second : (a b : Bool) → b ≡ false → (a || b) ≡ true → a ≡ true
not_second true b none h = refl
not_second false b none h = absurd (false≢true (sym none ∙ h))

no_longer : {X : Type 0} (n : ℕ) (xs : List X) → length (take n xs) ≤ length xs
no_longer zero xs = omega arith
no_longer (suc n) [] = omega arith
no_longer (suc n) (x ∷ xs) = omega (arith, no_longer n xs)

module _ (s : Service) (strays classes : List Bool) (are : AreOfChain s strays classes (length s)) where
  -- of a service of the chain, the class is marked, and is no stray one
  of_front : (v : Service) → IsTrue (is_service v) → v ≡ take (length v) s
      → (has_class classes (class_of (service_text v)) ≡ true) × (has_class strays (class_of (service_text v)) ≡ false)
  of_front v lawful same =
      let some : 0 < length v = some_label v lawful in
      let within : length v ≤ length s = subst (λ n. n ≤ length s) (sym (ap length same)) (no_longer (length v) s) in
      let number : length v - 1 + 1 ≡ length v = omega arith in
      let front : take (length v - 1 + 1) s ≡ v = ap (λ n. take n s) number ∙ sym same in
      subst (λ u. (has_class classes (class_of (service_text u)) ≡ true) × (has_class strays (class_of (service_text u)) ≡ false)) front
      (are (length v - 1) (omega arith))

  -- so its number tells a marked class
  pub told_of_chain : (n : ℕ) (m : Mapping) → IsTrue (is_service m.service) → is_at_or_below s m.service ≡ true → is_told strays n m ≡ true
      → has_class classes (n % 64) ≡ true
  told_of_chain n m lawful above told =
      let class = class_of (service_text m.service) in
      let of = of_front m.service lawful (same_service_is m.service (take (length m.service) s) above) in
      subst (λ k. has_class classes k ≡ true)
      (sym (same_number (n % 64) class (not_second (nat_eq (n % 64) class) (has_class strays class) of.1 told))) of.0

pub covers_below : (ns : List ℕ) (ms : List Mapping) (tables : Tables) (regions : Regions) (strays : List Bool) → IsClassed ns ms tables regions strays
    → (test : Mapping → Bool) (s : Service) (l : Place) (candidates : List ℕ) (classes : List Bool) → ((m : Mapping) → test m ≡ true → IsHolderBelow s l m)
    → ((n : ℕ) → Contains (holders_at l regions) n → Contains candidates n) → AreOfChain s strays classes (length s)
    → Covers test ns ms (filter (λ n. has_class classes (n % 64)) candidates)
covers_below ns ms tables regions strays kept test s l candidates classes tells among are place number m at_m at_n h =
    let near = covers_at ns ms tables regions kept.store test l candidates (λ m h. (tells m h).holder) among place number m at_m at_n h in
    let noted = noted_at ns ms tables regions kept.store place number m at_m at_n in
    let told = row_at (λ e. is_told strays e.0 e.1 ≡ true) ns ms kept.told place number m at_m at_n in
    kept_number (λ n. has_class classes (n % 64)) number candidates
    (told_of_chain s strays classes are number m noted.well_formed (tells m h).above told) near
