-- Sets of places: which mappings of a set are shown, and for which lists of edits an entry is right.
use Rattle.std.proofs.Common.{◌≡◌, ℕ, zero, suc, ◌+◌, ◌<◌, ◌≤◌, Bool, true, false, not, cond, ◌&&◌, IsTrue, List, [], ◌∷◌, ◌++◌, length, take, filter, slice_get, Option, refl, sym, ap, ◌∙◌, arith, length-append, ⊎_elim}
use Rattle.std.specs.Option.{option_map_or}
use Rattle.std.specs.List.{All}
use Rattle.std.proofs.lemmas.List.{take_all}
use Rattle.lost_spec.specs.Place.{Place}
use Rattle.lost_spec.specs.Laws.{BeginsWith}
use Rattle.lost_spec.specs.Moment.{Instant}
use Rattle.lost_spec.specs.Mapping.{Mapping, is_live}
use Rattle.lost_spec.specs.Positions.{positions_from, positions}
use Rattle.lost_spec.specs.Book.{Limits, Book, Edit, book_of, is_accepted}
use Rattle.lost_spec.specs.Find.{holds}
use Rattle.lost_spec.specs.Services.{is_holding}
use Rattle.lost_spec.specs.Holders.{Entry, IsRightFor, holders_of}
use Rattle.lost_spec.proofs.BookLemmas.{accepted_book}
use Rattle.lost_query.proofs.PositionLemmas.{positions-within}
use Rattle.lost_desk.specs.Sets.{is_living_at, AreRightFor, AreRightIn, IsOfBook, KeepsOnly}

-- ---- the mappings of a set that are shown

and_apart : (a b c : Bool) → (a && (b && c)) ≡ ((a && b) && c)
and_apart true b c = refl
and_apart false b c = refl

module _ (shown held : Mapping → Bool) (at : ℕ → Option Mapping) where
  is_shown : ℕ → Bool
  is_shown i = option_map_or shown (at i) false

  -- positions that pass one test, of which those are kept that pass another one
  filtered : (both : Mapping → Bool) → ((m : Mapping) → both m ≡ (shown m && held m)) → (n : ℕ) (ms : List Mapping)
      → ((i : ℕ) → at (n + i) ≡ slice_get ms i) → filter (λ i. option_map_or shown (at i) false) (positions_from held n ms) ≡ positions_from both n ms
  filtered both is n [] stands = refl
  filtered both is n (m ∷ ms) stands =
      let none : n + 0 ≡ n = omega arith in
      let here : option_map_or shown (at n) false ≡ shown m = ap (λ o. option_map_or shown o false) (ap at (sym none) ∙ stands 0) in
      let later = filtered both is (suc n) ms (λ i. let next : suc n + i ≡ n + suc i = omega arith in ap at next ∙ stands (suc i)) in
      by (held m) (shown m) (both m) here (is m) later
    where
      by : (h s b : Bool) → option_map_or shown (at n) false ≡ s → b ≡ (s && h)
          → filter (λ i. option_map_or shown (at i) false) (positions_from held (suc n) ms) ≡ positions_from both (suc n) ms
          → filter (λ i. option_map_or shown (at i) false) (cond h (n ∷ positions_from held (suc n) ms) (positions_from held (suc n) ms))
          ≡ cond b (n ∷ positions_from both (suc n) ms) (positions_from both (suc n) ms)
      by true true b here is later = rw (here, is) (ap (λ l. n ∷ l) later)
      by true false b here is later = rw (here, is) later
      by false true b here is later = rw is later
      by false false b here is later = rw is later

-- those of the set of a place that are live and no defaults are those that the place shows
pub shown_of_set : (t : Instant) (l : Place) (ms : List Mapping) (set : List ℕ) → set ≡ positions (λ m. holds m l) ms
    → filter (is_living_at t ms) set ≡ positions (is_holding t l) ms
shown_of_set t l ms set is =
    ap (filter (is_living_at t ms)) is
    ∙ filtered (λ m. is_live m t && not m.is_default) (λ m. holds m l) (slice_get ms) (is_holding t l) (λ m. and_apart (is_live m t) (not m.is_default) (holds m l)) 0 ms (λ i. let none : 0 + i ≡ i = omega arith in ap (slice_get ms) none)

-- the set of a place is within the list
pub set_within : (b : Book) (l : Place) (set : List ℕ) → set ≡ holders_of b l → All (λ i. i < length b.mappings) set
set_within b l set is = positions-within (λ m. holds m l) b.mappings set is

-- ---- entries and lists

take_front : {A : Type 0} (n : ℕ) (es rest : List A) → n ≤ length es → take n (es ++ rest) ≡ take n es
take_front zero es rest le = refl
take_front (suc n) [] rest le = absurd (omega arith)
take_front (suc n) (x ∷ xs) rest le = ap (λ ys. x ∷ ys) (take_front n xs rest (omega arith))

longer_than : {A : Type 0} (es fs : List A) → BeginsWith fs es → length es ≤ length fs
longer_than es fs begins =
    let all : length fs ≡ length es + length begins.0 = ap length begins.1 ∙ length-append es begins.0 in
    omega arith

-- what is right for a list is right for one that begins with it
pub stays_right : (limits : Limits) (es fs : List Edit) (e : Entry) → BeginsWith fs es → IsRightFor limits es e → IsRightFor limits fs e
stays_right limits es fs e begins right =
    let longer : length es ≤ length fs = longer_than es fs begins in
    let same : take e.edition fs ≡ take e.edition es = ap (take e.edition) begins.1 ∙ take_front e.edition es begins.0 right.within in
    let within : e.edition ≤ length es = right.within in
    record {
      within = omega arith;
      set = right.set ∙ ap (λ l. holders_of (book_of limits l) e.place) (sym same);
    }

pub all_stay_right : (keeps : Entry → Type 0) (limits : Limits) (es fs : List Edit) → BeginsWith fs es → AreRightFor keeps limits es → AreRightFor keeps limits fs
all_stay_right keeps limits es fs begins right = λ e kept. stays_right limits es fs e begins (right e kept)

-- what is right for a list is right for its book
pub right_in_book : (keeps : Entry → Type 0) (limits : Limits) (es : List Edit) (b : Book) → b ≡ book_of limits es → IsTrue (is_accepted limits es)
    → AreRightFor keeps limits es → AreRightIn keeps b
right_in_book keeps limits es b is accepted right = λ e kept same.
    let counted : (book_of limits es).edits ≡ length es = (accepted_book limits es accepted).counted in
    let whole : e.edition ≡ length es = same ∙ ap (λ c. c.edits) is ∙ counted in
    let all : take e.edition es ≡ es = take_all e.edition es (omega arith) in
    (right e kept).set ∙ ap (λ l. holders_of (book_of limits l) e.place) all ∙ ap (λ c. holders_of c e.place) (sym is)

-- an entry of a list's book is right for the list
pub right_of_book : (limits : Limits) (es : List Edit) (b : Book) (e : Entry) → b ≡ book_of limits es → IsTrue (is_accepted limits es)
    → IsOfBook b e → IsRightFor limits es e
right_of_book limits es b e is accepted of =
    let counted : (book_of limits es).edits ≡ length es = (accepted_book limits es accepted).counted in
    let whole : e.edition ≡ length es = of.edition ∙ ap (λ c. c.edits) is ∙ counted in
    let all : take e.edition es ≡ es = take_all e.edition es (omega arith) in
    record {
      within = omega arith;
      set = of.set ∙ ap (λ c. holders_of c e.place) is ∙ ap (λ l. holders_of (book_of limits l) e.place) (sym all);
    }

-- so all that is kept then is right for the list
pub all_right_then : (before after : Entry → Type 0) (limits : Limits) (es : List Edit) (b : Book) → b ≡ book_of limits es → IsTrue (is_accepted limits es)
    → AreRightFor before limits es → KeepsOnly before b after → AreRightFor after limits es
all_right_then before after limits es b is accepted right only = λ e kept.
    ⊎_elim (λ (was : before e). right e was) (λ (of : IsOfBook b e). right_of_book limits es b e is accepted of) (only e kept)
