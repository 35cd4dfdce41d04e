-- Runs of what answers lines: from state to state, a reply for each line.
use Rattle.std.specs.Prelude.{◌≡◌, ℕ, Bool, true, false, List, [], ◌∷◌, flat_map, count_by}
use Rattle.lost_spec.specs.Text.{Text}
use Rattle.lost_lines.specs.Cutting.{is_long}

-- a line as it reaches what answers it: whole, over the limit, or not kept since memory was refused while it was read (own)
pub data Cut : Type 0 where
  Whole : (line : Text) → Cut
  TooLong : Cut
  Unread : Cut

-- a reply: its text, and whether it says that a growth was refused (own)
pub record Reply : Type 0 where
  pub text : Text
  pub is_internal_error : Bool

-- how a line may be cut: whole within the limit, over it, or not kept, however long it is
abbrev pub IsCut : Text → Cut → Type 0
IsCut line (Whole kept) = (kept ≡ line) × (is_long line ≡ false)
IsCut line TooLong = is_long line ≡ true
IsCut line Unread = Unit {0}

-- a line is answered, however it was cut
abbrev pub Answers : {State : Type 0} → (State → Cut → Reply → State → Type 0) → State → Text → Reply → State → Type 0
Answers step old line reply new = (cut : Cut) × IsCut line cut × step old cut reply new

-- a line was looked at as far as the limit goes: it is whole or over the limit
abbrev pub IsRead : Cut → Type 0
IsRead (Whole kept) = Unit {0}
IsRead TooLong = Unit {0}
IsRead Unread = ⊥

-- a line is answered, and no memory was refused while it was read
abbrev pub AnswersRead : {State : Type 0} → (State → Cut → Reply → State → Type 0) → State → Text → Reply → State → Type 0
AnswersRead step old line reply new = (cut : Cut) × IsCut line cut × IsRead cut × step old cut reply new

-- from a state to a state, by a reply to each line in turn; a step goes from a state, by a cut line and a reply, to a state
abbrev pub Run : {State : Type 0} → (State → Cut → Reply → State → Type 0) → State → List Text → List Reply → State → Type 0
Run step old [] [] new = new ≡ old
Run step old [] (reply ∷ replies) new = ⊥
Run step old (line ∷ lines) [] new = ⊥
Run {State} step old (line ∷ lines) (reply ∷ replies) new =
    (cut : Cut) × (next : State) × IsCut line cut × step old cut reply next × Run step next lines replies new

-- the text of replies, one after the other
abbrev pub text_of : List Reply → Text
text_of replies = flat_map (λ reply. reply.text) replies

-- how many lines are over the limit, and how many replies say that a growth was refused
abbrev pub long_count : List Text → ℕ
long_count lines = count_by is_long lines

abbrev pub memory_count : List Reply → ℕ
memory_count replies = count_by (λ reply. reply.is_internal_error) replies
