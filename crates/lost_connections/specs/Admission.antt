-- How many connections are open, in all and from each address, and which one more is let in. (Own.)
use Rattle.std.specs.Prelude.{◌≡◌, ◌<◌, ◌≤◌, ℕ, ◌+◌, ◌-◌, Bool, if◌then◌else◌, List, [], ◌∷◌, Option, None, Some, Result, Ok, Err, nat_le}
use Rattle.std.specs.HashMap.{get}
use Rattle.std.specs.Map.{count_at}
use Rattle.std.specs.declared.cmp.PartialEq as equal
use Rattle.std.specs.declared.hash.Hash as hashed
use Rattle.lost_connections.specs.declared.admission.Admission.{Admission}
use Rattle.lost_connections.specs.declared.admission.Refusal.{Refusal}
use Rattle.lost_connections.specs.declared.admission.Refusal.TheVariants.{Most, MostOfAddress, Memory}

-- the address that is counted: none where there is no limit on those from one
abbrev pub counted : {A : Type 0} → Option ℕ → Option A → Option A
counted None address = None
counted (Some most) address = address

-- 1 at the address, 0 at each other
abbrev pub one_at : {A : Type 0} → (A → A → Bool) → Option A → A → ℕ
one_at same None other = 0
one_at same (Some address) other = if same address other then 1 else 0

module _ {A : Type 0} {E : equal.Ghosts A} {H : hashed.Ghosts A} where
  -- how many are open in all
  abbrev pub open_all : Admission A E H → ℕ
  open_all a = a.all

  -- the most that may be open in all, and from one address where there is a limit on these
  abbrev pub most_of_all : Admission A E H → ℕ
  most_of_all a = a.most

  abbrev pub most_of_one : Admission A E H → Option ℕ
  most_of_one a = a.most_of_address

  -- the limits are the same, and as many are open in all
  pub record HasSameAll (old new : Admission A E H) : Type 0 where
    pub all : open_all new ≡ open_all old
    pub most : most_of_all new ≡ most_of_all old
    pub most_of_address : most_of_one new ≡ most_of_one old

module _ {A : Type 0} {E : equal.Ghosts A} {H : hashed.Ghosts A} where
  -- how many are open from an address that is counted
  abbrev pub open_from : Admission A E H → A → ℕ
  open_from a address = count_at (get E.eq a.by_address) address

  -- none is open, and no address is kept
  pub record IsEmpty (a : Admission A E H) : Type 0 where
    pub all : open_all a ≡ 0
    pub from : (address : A) → open_from a address ≡ 0
    pub forgotten : a.by_address.entries ≡ []

module _ {A : Type 0} {E : equal.Ghosts A} {H : hashed.Ghosts A} where
  -- as many are open, in all and from each address
  pub record Stays (old new : Admission A E H) : Type 0 where
    pub all : HasSameAll old new
    pub from : (other : A) → open_from new other ≡ open_from old other

  -- one more is open, in all and from this address alone
  pub record Enters (old new : Admission A E H) (address : Option A) : Type 0 where
    pub all : open_all new ≡ open_all old + 1
    pub from : (other : A) → open_from new other ≡ open_from old other + one_at E.eq (counted (most_of_one old) address) other
    pub most : most_of_all new ≡ most_of_all old
    pub most_of_address : most_of_one new ≡ most_of_one old

  -- one less is open, in all and from this address alone; where none was open, none is
  pub record Leaves (old new : Admission A E H) (address : Option A) : Type 0 where
    pub all : open_all new ≡ open_all old - 1
    pub from : (other : A) → open_from new other ≡ open_from old other - one_at E.eq (counted (most_of_one old) address) other
    pub most : most_of_all new ≡ most_of_all old
    pub most_of_address : most_of_one new ≡ most_of_one old

  -- the limit on those from one address, where it is reached
  abbrev pub met_from : Admission A E H → Option ℕ → Option A → Option Refusal
  met_from a None address = None
  met_from a (Some most) None = None
  met_from a (Some most) (Some address) = if nat_le most (open_from a address) then Some MostOfAddress else None

  -- the limit that one more from an address meets, that on all first
  abbrev pub limit_met : Admission A E H → Option A → Option Refusal
  limit_met a address = if nat_le (most_of_all a) (open_all a) then Some Most else met_from a (most_of_one a) address

  -- it is let in exactly if it meets no limit, unless memory is refused; if it is not let in, nothing changes
  abbrev pub Admits : {T : Type 0} → Admission A E H → Option A → Result T Refusal → Admission A E H → Type 0
  Admits old address (Ok entered) new = (limit_met old address ≡ None) × Enters old new address
  Admits old address (Err Memory) new = (limit_met old address ≡ None) × Stays old new
  Admits old address (Err Most) new = (limit_met old address ≡ Some Most) × Stays old new
  Admits old address (Err MostOfAddress) new = (limit_met old address ≡ Some MostOfAddress) × Stays old new

  -- the same of one from an address that is counted, but for those in all
  abbrev pub AdmitsFrom : {T : Type 0} → ℕ → Admission A E H → A → Result T Refusal → Admission A E H → Type 0
  AdmitsFrom most old address (Ok entered) new = (open_from old address < most) × HasSameAll old new
      × ((other : A) → open_from new other ≡ open_from old other + one_at E.eq (Some address) other)
  AdmitsFrom most old address (Err Memory) new = (open_from old address < most) × Stays old new
  AdmitsFrom most old address (Err MostOfAddress) new = (most ≤ open_from old address) × Stays old new
  AdmitsFrom most old address (Err Most) new = ⊥

-- what happens to the connections: one from an address, or from none, enters or leaves
pub data Step (A : Type 0) : Type 0 where
  Entered : (address : Option A) → Step A
  Left : (address : Option A) → Step A

-- how much enters, and how much leaves, where each connection counts for a weight
abbrev pub entered : {A : Type 0} → (Option A → ℕ) → List (Step A) → ℕ
entered weight [] = 0
entered weight (Entered address ∷ steps) = weight address + entered weight steps
entered weight (Left address ∷ steps) = entered weight steps

abbrev pub left : {A : Type 0} → (Option A → ℕ) → List (Step A) → ℕ
left weight [] = 0
left weight (Entered address ∷ steps) = left weight steps
left weight (Left address ∷ steps) = weight address + left weight steps

module _ {A : Type 0} {E : equal.Ghosts A} {H : hashed.Ghosts A} where
  -- a connection from this address is open
  pub record IsOpen (a : Admission A E H) (address : Option A) : Type 0 where
    pub all : 0 < open_all a
    pub from : (other : A) → one_at E.eq (counted (most_of_one a) address) other ≤ open_from a other

  -- connections enter and leave, one after another, and none leaves that is not open
  abbrev pub GoesBy : Admission A E H → List (Step A) → Admission A E H → Type 0
  GoesBy a [] b = b ≡ a
  GoesBy a (Entered address ∷ steps) b = (next : Admission A E H) × Enters a next address × GoesBy next steps b
  GoesBy a (Left address ∷ steps) b = (next : Admission A E H) × IsOpen a address × Leaves a next address × GoesBy next steps b

  -- as many left as entered, in all and from each address that is counted
  pub record HaveAllLeft (a : Admission A E H) (steps : List (Step A)) : Type 0 where
    pub all : entered (λ address. 1) steps ≡ left (λ address. 1) steps
    pub from : (other : A) → entered (λ address. one_at E.eq (counted (most_of_one a) address) other) steps
        ≡ left (λ address. one_at E.eq (counted (most_of_one a) address) other) steps

  -- once all that entered have left, in whatever order, none is open and no address is kept
  abbrev pub IsEmptyOnceAllLeft : Admission A E H → Admission A E H → Type 0
  IsEmptyOnceAllLeft a b = (steps : List (Step A)) → IsEmpty a → GoesBy a steps b → HaveAllLeft a steps → IsEmpty b
