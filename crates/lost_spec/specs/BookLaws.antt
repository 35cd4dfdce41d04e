-- Laws of the book of an accepted list, and of what an edit leaves as it is.
use Rattle.std.specs.Prelude.{◌≡◌, ◌≢◌, ℕ, ◌≤◌, IsTrue, not, List, Some, None, length, map, filter}
use Rattle.std.specs.List.{AllByRecursion}
use Rattle.lost_spec.specs.Text.{Text}
use Rattle.lost_spec.specs.Mapping.{Mapping}
use Rattle.lost_spec.specs.Book.{Limits, Trace, Book, Identity, Edit, Publish, Replace, Withdraw, identity_of, has_identity, held, withdrawn, after, book_of, is_accepted}
use Rattle.lost_spec.specs.Laws.{EachWithLater}

-- two mappings have two identities
abbrev pub HasOtherIdentity : Mapping → Mapping → Type 0
HasOtherIdentity m n = identity_of m ≢ identity_of n

-- two mappings have no key in common
abbrev pub HasOtherKey : Mapping → Mapping → Type 0
HasOtherKey m n = (key : Text) → m.key ≡ Some key → n.key ≢ Some key

-- two traces are of two identities
abbrev pub IsOfOtherIdentity : Trace → Trace → Type 0
IsOfOtherIdentity t u = t.0 ≢ u.0

-- the mapping's identity is not remembered as withdrawn
abbrev pub HasNoTrace : Book → Mapping → Type 0
HasNoTrace b m = withdrawn b (identity_of m) ≡ None

-- a book that keeps its rules, after so many edits
pub record IsInOrder (limits : Limits) (edits : ℕ) (b : Book) : Type 0 where
  pub same_limits : b.limits ≡ limits
  pub identities_once : EachWithLater HasOtherIdentity b.mappings
  pub keys_once : EachWithLater HasOtherKey b.mappings
  pub within_limit : length b.mappings ≤ limits.mappings
  pub traces_once : EachWithLater IsOfOtherIdentity b.traces
  pub held_untraced : AllByRecursion (HasNoTrace b) b.mappings
  pub traces_within : length b.traces ≤ limits.traces
  pub counted : b.edits ≡ edits

-- the book of an accepted list has each identity and each key at most once, no more mappings than its limit, one trace at most of
-- an identity and none of one that is held, no more traces than their limit, and as its number the length of the list
abbrev pub AcceptedBookIsInOrder : Type 0
AcceptedBookIsInOrder = (limits : Limits) (es : List Edit) → IsTrue (is_accepted limits es) → IsInOrder limits (length es) (book_of limits es)

-- ---- what an edit leaves as it is

-- the identity of the mapping that an edit is of
abbrev pub edited : Edit → Identity
edited (Publish m) = identity_of m
edited (Replace m) = identity_of m
edited (Withdraw id stamp) = id

-- the mappings of all other identities, in list order
abbrev pub others : Identity → List Mapping → List Mapping
others id ms = filter (λ m. not (has_identity m id)) ms

-- the mappings of other identities than the edit's are the same before and after, in the same order, and so is what is held under each
pub record LeavesTheOthers (b : Book) (e : Edit) : Type 0 where
  pub others_stay : others (edited e) (after b e).mappings ≡ others (edited e) b.mappings
  pub held_stay : (id : Identity) → id ≢ edited e → held (after b e) id ≡ held b id

abbrev pub UntouchedStay : Type 0
UntouchedStay = (b : Book) (e : Edit) → LeavesTheOthers b e

-- a replacement leaves the list of identities as it was
abbrev pub ReplacementKeepsIdentities : Type 0
ReplacementKeepsIdentities = (b : Book) (m : Mapping) → map identity_of (after b (Replace m)).mappings ≡ map identity_of b.mappings
