-- Each kind of step keeps the rule.
use Rattle.std.proofs.Common.{◌≡◌, ℕ, ◌+◌, ◌≢◌, List, [], ◌∷◌, ◌++◌, set, refl, subst, sym, ◌∙◌, ⊎_elim}
use mathlib.Core.Option.{some}
use lib.ListN.{get_elem?}
use Rattle.left_right.specs.Register.{Admits, TurnsAt, Turns, Forks, Merges}
use Rattle.atomic_table.proofs.Lists.{at_set, at_snoc}
use Rattle.lost_spec.specs.Laws.{BeginsWith}
use Rattle.lost_history.proofs.Beginnings.{begins_itself, begins_trans}
use Rattle.lost_desk.specs.declared.version.Version.{Version}
use Rattle.lost_desk.specs.declared.view.View.{View}
use Rattle.lost_spec.specs.Book.{Limits}
use Rattle.lost_history.specs.History.{Opening}
use Rattle.lost_desk.specs.Copies.{IsBookOfItsList, first_version}
use Rattle.lost_desk.specs.Rule.{IsBeside, IsOneList, newcomer, named, Enters, names, shows}
use Rattle.lost_desk.specs.States.{MayFollow}

-- every list begins with the empty one
begins_empty : {A : Type 0} (xs : List A) → BeginsWith xs []
begins_empty xs = (xs, refl)

-- a seat that nobody has is beside any copy
newcomer_beside : (v : Version) → IsBeside v newcomer
newcomer_beside v = record { seen = begins_empty v.front.list; known = λ e. absurd cc }

named_beside : (v : Version) → IsBeside v (named v)
named_beside v = record { seen = begins_empty v.front.list; known = λ e. record { limits = refl; opening = refl } }

-- a seat stays beside what may follow
beside_follows : (v next : Version) (w : View) → MayFollow v next → IsBeside v w → IsBeside next w
beside_follows v next w f b = record {
  seen = begins_trans w.front.list v.front.list next.front.list f.begins b.seen;
  known = λ e. record { limits = (b.known e).limits ∙ sym f.limits; opening = (b.known e).opening ∙ sym f.opening };
}

-- one seat changes, and the others stay
set_beside : (v : Version) (views : List View) (seat : ℕ) (w : View) → ((j : ℕ) (u : View) → get_elem? views j ≡ some u → IsBeside v u) → IsBeside v w
    → (j : ℕ) (u : View) → get_elem? (set views seat w) j ≡ some u → IsBeside v u
set_beside v views seat w all one j u e =
    ⊎_elim (λ (t : (j ≡ seat) × (w ≡ u)). subst (λ z. IsBeside v z) t.1 one) (λ (t : (j ≢ seat) × (get_elem? views j ≡ some u)). all j u t.1) (at_set views seat j w u e)

-- one seat more
snoc_beside : (v : Version) (views : List View) (w : View) → ((j : ℕ) (u : View) → get_elem? views j ≡ some u → IsBeside v u) → IsBeside v w
    → (j : ℕ) (u : View) → get_elem? (views ++ w ∷ []) j ≡ some u → IsBeside v u
snoc_beside v views w all one j u e = ⊎_elim (all j u) (λ (same : w ≡ u). subst (λ z. IsBeside v z) same one) (at_snoc views w u j e)

-- ---- the steps

pub opens : (v : Version) → IsBookOfItsList v → IsOneList v (newcomer ∷ [])
opens v copy = record { copy = copy; seats = snoc_beside v [] newcomer (λ j u e. absurd cc) (newcomer_beside v) }

pub admits : Admits IsOneList newcomer
admits v views h = record { copy = h.copy; seats = snoc_beside v views newcomer h.seats (newcomer_beside v) }

pub enters : (seat : ℕ) (w : View) → Turns IsOneList seat w (λ v. v) Enters
enters seat w v views h at =
    let mine = h.seats seat w at in
    let after : View = record { is_known = w.is_known; limits = w.limits; front = v.front; entries = w.entries + 1 } in
    let beside : IsBeside v after = record { seen = begins_itself v.front.list; known = λ e. record { limits = (mine.known e).limits; opening = refl } } in (
      after,
      record { copy = h.copy; seats = set_beside v views seat after h.seats beside },
      record { copy = h.copy; seen = refl; begins = mine.seen; entries = refl; known = λ e. mine.known e; kept = (refl, refl) },
    )

pub publishes : (seat : ℕ) (w : View) (v next : Version) → MayFollow v next → TurnsAt IsOneList seat w v next shows
publishes seat w v next f views h at = (
  w,
  record { copy = f.copy; seats = set_beside next views seat w (λ j u e. beside_follows v next u f (h.seats j u e)) (beside_follows v next w f (h.seats seat w at)) },
  refl,
)

pub opening_names : (seat : ℕ) (w : View) (v : Version) → TurnsAt IsOneList seat w v v names
opening_names seat w v views h at = (
  named v,
  record { copy = h.copy; seats = set_beside v views seat (named v) h.seats (named_beside v) },
  refl,
)

pub forks : (seat : ℕ) (w : View) → Forks IsOneList seat w w w
forks seat w v views h at =
    record { copy = h.copy; seats = snoc_beside v (set views seat w) w (set_beside v views seat w h.seats (h.seats seat w at)) (h.seats seat w at) }

pub merges : (seat : ℕ) (w : View) (other : ℕ) (told : View) → Merges IsOneList seat w other told told newcomer
merges seat w other told v views h at apart there =
    let told_beside : IsBeside v told = ⊎_elim (λ (t : (other ≡ seat) × (told ≡ told)). absurd (apart t.0)) (λ (t : (other ≢ seat) × (get_elem? views other ≡ some told)). h.seats other told t.1) (at_set views seat other told told there) in
    record { copy = h.copy; seats = set_beside v (set views seat told) other newcomer (set_beside v views seat told h.seats told_beside) (newcomer_beside v) }

-- the first copies and their writer's seat
pub opens_first : (opening : Opening) (limits : Limits) → IsOneList (first_version opening limits) (newcomer ∷ [])
opens_first opening limits = opens (first_version opening limits) (record { book = refl; accepted = refl; sealed = refl })
