-- Laws of the traces of withdrawn identities.
use Rattle.std.specs.Prelude.{◌≡◌, ◌≢◌, IsTrue, false, List, [], ◌∷◌, ◌++◌, Some, None, ⊤}
use Rattle.lost_spec.specs.Moment.{is_earlier, Stamp}
use Rattle.lost_spec.specs.Mapping.{Mapping}
use Rattle.lost_spec.specs.Book.{Limits, Book, Identity, Edit, Publish, Replace, Withdraw, identity_of, withdrawn, refusal, after, after_all, book_of, is_accepted}
use Rattle.lost_spec.specs.Laws.{EachWithLater}
use Rattle.lost_spec.specs.BookLaws.{IsOfOtherIdentity, edited}

-- an edit changes the trace of no other identity than its own, where each identity has one trace at most
abbrev pub OtherTracesStay : Type 0
OtherTracesStay = (b : Book) (e : Edit) → EachWithLater IsOfOtherIdentity b.traces → (id : Identity) → id ≢ edited e → withdrawn (after b e) id ≡ withdrawn b id

-- an accepted withdrawal adds its identity and stamp behind the traces of an accepted list
abbrev pub WithdrawalLeavesATrace : Type 0
WithdrawalLeavesATrace =
    (limits : Limits) (es : List Edit) (id : Identity) (stamp : Stamp) → IsTrue (is_accepted limits es) → refusal (book_of limits es) (Withdraw id stamp) ≡ None
    → (after (book_of limits es) (Withdraw id stamp)).traces ≡ (book_of limits es).traces ++ (id, stamp) ∷ []

-- ---- what was withdrawn stays withdrawn

-- the edit is a publish of this identity
abbrev pub IsPublishOf : Identity → Edit → Type 0
IsPublishOf id (Publish m) = identity_of m ≡ id
IsPublishOf id (Replace m) = ⊥
IsPublishOf id (Withdraw other stamp) = ⊥

-- no edit of the list is a publish of this identity that is accepted in its turn
abbrev pub IsNeverPublished : Identity → Book → List Edit → Type 0
IsNeverPublished id b [] = ⊤
IsNeverPublished id b (e ∷ es) = (IsPublishOf id e → refusal b e ≢ None) × IsNeverPublished id (after b e) es

-- the stamp of the withdrawal is remembered, and a publish of the identity that is not stamped later is refused
pub record StaysWithdrawn (id : Identity) (stamp : Stamp) (b : Book) : Type 0 where
  pub remembered : withdrawn b id ≡ Some stamp
  pub refused : (m : Mapping) → identity_of m ≡ id → is_earlier stamp.moment m.stamp.moment ≡ false → refusal b (Publish m) ≢ None

-- after an accepted withdrawal an identity stays withdrawn, whatever edits follow, until a publish of it is accepted
abbrev pub WithdrawnStaysWithdrawn : Type 0
WithdrawnStaysWithdrawn =
    (limits : Limits) (es : List Edit) (id : Identity) (stamp : Stamp) → IsTrue (is_accepted limits es) → refusal (book_of limits es) (Withdraw id stamp) ≡ None
    → (later : List Edit) → IsNeverPublished id (after (book_of limits es) (Withdraw id stamp)) later
    → StaysWithdrawn id stamp (after_all (after (book_of limits es) (Withdraw id stamp)) later)
