-- Books: the edits that a book refuses, and the book after an edit and after a list of edits.
use Rattle.std.specs.Prelude.{ℕ, ◌+◌, ◌-◌, Bool, true, false, not, ◌&&◌, if◌then◌else◌, List, [], ◌∷◌, ◌++◌, length, take, drop, Option, Some, None, is_none, nat_le, find, fold}
use Rattle.std.specs.List.{list_any}
use Rattle.std.specs.Map.{lookup}
use Rattle.lost_spec.specs.declared.faults.EditError.{EditError}
use Rattle.lost_spec.specs.declared.faults.EditError.TheVariants.{IdentityHeld, IdentityUnknown, NotNewer, KeyHeld, KeyUnchanged, Full, EditsSpent, Withdrawn, TracesFull}
use Rattle.lost_spec.specs.Text.{Text, same_text, is_between, first_fault}
use Rattle.lost_spec.specs.Place.{same_regions}
use Rattle.lost_spec.specs.Moment.{is_earlier, Stamp}
use Rattle.lost_spec.specs.Mapping.{Mapping}

-- how many mappings may be held, how many edits accepted, and how many traces remembered (own)
pub record Limits : Type 0 where
  pub mappings : ℕ
  pub edits : ℕ
  pub traces : ℕ

-- the limits that are allowed: 1 to 65,536 mappings, at least 1 edit; with 65,536 traces
abbrev pub limits_of : ℕ → ℕ → Option Limits
limits_of mappings edits = if is_between 1 65_536 mappings && nat_le 1 edits then Some (record { mappings = mappings; edits = edits; traces = 65_536 }) else None

-- limits with so many traces, of which 1 to 65,536 are allowed
abbrev pub with_traces : Limits → ℕ → Option Limits
with_traces limits traces = if is_between 1 65_536 traces then Some (record limits { traces = traces }) else None

-- a mapping's source and sourceId, which name it over the whole server (RFC 5222, section 5.1; own scope)
pub record Identity : Type 0 where
  pub source : Text
  pub source_id : Text

-- an identity that was withdrawn, and the stamp of its withdrawal (own)
abbrev pub Trace : Type 0
Trace = Identity × Stamp

-- a book: its limits, the mappings held, in order, the traces of the identities withdrawn, and how many edits were accepted (own)
pub record Book : Type 0 where
  pub limits : Limits
  pub mappings : List Mapping
  pub traces : List Trace
  pub edits : ℕ

-- an edit by the map desk (own)
pub data Edit : Type 0 where
  Publish : (mapping : Mapping) → Edit
  Replace : (mapping : Mapping) → Edit
  Withdraw : (identity : Identity) (stamp : Stamp) → Edit

-- ---- questions that a refusal asks

abbrev pub identity_of : Mapping → Identity
identity_of m = record { source = m.source; source_id = m.source_id }

abbrev pub has_identity : Mapping → Identity → Bool
has_identity m id = same_text m.source id.source && same_text m.source_id id.source_id

-- the mapping held with this identity
abbrev pub held : Book → Identity → Option Mapping
held b id = find (λ m. has_identity m id) b.mappings

abbrev pub is_held : Book → Identity → Bool
is_held b id = list_any (λ m. has_identity m id) b.mappings

-- the same source and sourceId, byte for byte (RFC 5222, section 5.1)
abbrev pub same_identity : Identity → Identity → Bool
same_identity a b = same_text a.source b.source && same_text a.source_id b.source_id

-- the stamp of the withdrawal that is remembered of this identity
abbrev pub stamp_of_trace : List Trace → Identity → Option Stamp
stamp_of_trace traces id = lookup (same_identity id) traces

abbrev pub withdrawn : Book → Identity → Option Stamp
withdrawn b id = stamp_of_trace b.traces id

-- there is a key, and it is this one
abbrev pub is_key : Option Text → Text → Bool
is_key None key = false
is_key (Some own) key = same_text own key

-- the mapping has this key; a default has none
abbrev pub has_key : Mapping → Text → Bool
has_key m key = is_key m.key key

-- another mapping held has the key
abbrev pub is_key_held : Book → Identity → Option Text → Bool
is_key_held b id None = false
is_key_held b id (Some key) = list_any (λ m. not (has_identity m id) && has_key m key) b.mappings

-- as many edits as the limit were accepted, as many mappings as the limit are held, and as many traces are remembered
abbrev pub is_spent : Book → Bool
is_spent b = nat_le b.limits.edits b.edits

abbrev pub is_full : Book → Bool
is_full b = nat_le b.limits.mappings (length b.mappings)

abbrev pub has_most_traces : Book → Bool
has_most_traces b = nat_le b.limits.traces (length b.traces)

-- a stamp is not after that of the mapping held
abbrev pub is_not_newer : Option Mapping → Stamp → Bool
is_not_newer None stamp = false
is_not_newer (Some old) stamp = not (is_earlier old.stamp.moment stamp.moment)

-- a stamp is not after that of a withdrawal
abbrev pub is_not_after : Option Stamp → Stamp → Bool
is_not_after None stamp = false
is_not_after (Some trace) stamp = not (is_earlier trace.moment stamp.moment)

-- keys are the same, or both absent
abbrev pub same_key : Option Text → Option Text → Bool
same_key None None = true
same_key None (Some key) = false
same_key (Some key) None = false
same_key (Some key) (Some other) = same_text key other

-- the regions changed, and the key did not (RFC 5222, section 5.6)
abbrev pub is_key_unchanged : Option Mapping → Mapping → Bool
is_key_unchanged None m = false
is_key_unchanged (Some old) m = not (same_regions old.regions m.regions) && same_key old.key m.key

-- ---- refusals, in the order of their checks (own)

abbrev pub publish_refusal : Book → Mapping → Option EditError
publish_refusal b m =
    first_fault (
    (is_spent b, EditsSpent)
    ∷ (is_held b (identity_of m), IdentityHeld)
    ∷ (is_not_after (withdrawn b (identity_of m)) m.stamp, Withdrawn)
    ∷ (is_full b, Full)
    ∷ (is_key_held b (identity_of m) m.key, KeyHeld) ∷ [])

abbrev pub replace_refusal : Book → Mapping → Option EditError
replace_refusal b m =
    first_fault (
    (is_spent b, EditsSpent)
    ∷ (not (is_held b (identity_of m)), IdentityUnknown)
    ∷ (is_not_newer (held b (identity_of m)) m.stamp, NotNewer)
    ∷ (is_key_held b (identity_of m) m.key, KeyHeld)
    ∷ (is_key_unchanged (held b (identity_of m)) m, KeyUnchanged) ∷ [])

abbrev pub withdraw_refusal : Book → Identity → Stamp → Option EditError
withdraw_refusal b id stamp =
    first_fault (
    (is_spent b, EditsSpent)
    ∷ (not (is_held b id), IdentityUnknown)
    ∷ (is_not_newer (held b id) stamp, NotNewer)
    ∷ (has_most_traces b, TracesFull) ∷ [])

-- the first refusal of an edit, or none; live or not, a mapping held counts
abbrev pub refusal : Book → Edit → Option EditError
refusal b (Publish m) = publish_refusal b m
refusal b (Replace m) = replace_refusal b m
refusal b (Withdraw id stamp) = withdraw_refusal b id stamp

-- ---- the book after an edit

-- m in the place of the first mapping with its identity
abbrev pub replaced : Mapping → List Mapping → List Mapping
replaced m [] = []
replaced m (old ∷ rest) = if has_identity old (identity_of m) then m ∷ rest else old ∷ replaced m rest

-- without the first mapping with this identity
abbrev pub without : Identity → List Mapping → List Mapping
without id [] = []
without id (old ∷ rest) = if has_identity old id then rest else old ∷ without id rest

-- a publish appends, a replacement keeps the place, a withdrawal closes up
abbrev pub mappings_after : List Mapping → Edit → List Mapping
mappings_after mappings (Publish m) = mappings ++ m ∷ []
mappings_after mappings (Replace m) = replaced m mappings
mappings_after mappings (Withdraw id stamp) = without id mappings

-- with the trace of a withdrawal, which takes the place of one of the same identity
abbrev pub with_trace : Identity → Stamp → List Trace → List Trace
with_trace id stamp [] = (id, stamp) ∷ []
with_trace id stamp (t ∷ ts) = if same_identity id t.0 then (t.0, stamp) ∷ ts else t ∷ with_trace id stamp ts

-- the last of the traces in front of the others
abbrev pub last_first : List Trace → List Trace
last_first ts = drop (length ts - 1) ts ++ take (length ts - 1) ts

-- without the trace of this identity, whose place the last one takes: the order of traces decides nothing
abbrev pub without_trace : Identity → List Trace → List Trace
without_trace id [] = []
without_trace id (t ∷ ts) = if same_identity id t.0 then last_first ts else t ∷ without_trace id ts

-- a withdrawal leaves a trace, a publish takes away that of its identity, and a replacement changes none (own)
abbrev pub traces_after : List Trace → Edit → List Trace
traces_after traces (Publish m) = without_trace (identity_of m) traces
traces_after traces (Replace m) = traces
traces_after traces (Withdraw id stamp) = with_trace id stamp traces

abbrev pub changed : Book → Edit → Book
changed b e = record { limits = b.limits; mappings = mappings_after b.mappings e; traces = traces_after b.traces e; edits = b.edits + 1 }

-- the book after an edit, which is the book as it was where the edit is refused (RFC 5222, section 5.1; order own)
abbrev pub after : Book → Edit → Book
after b e = if is_none (refusal b e) then changed b e else b

-- ---- the book of a list of edits

abbrev pub empty_book : Limits → Book
empty_book limits = record { limits = limits; mappings = []; traces = []; edits = 0 }

abbrev pub after_all : Book → List Edit → Book
after_all b es = fold after b es

-- the book of a list of edits, from the empty one
abbrev pub book_of : Limits → List Edit → Book
book_of limits es = after_all (empty_book limits) es

-- no edit of the list is refused in its turn
abbrev pub accepts : Book → List Edit → Bool
accepts b [] = true
accepts b (e ∷ es) = is_none (refusal b e) && accepts (after b e) es

abbrev pub is_accepted : Limits → List Edit → Bool
is_accepted limits es = accepts (empty_book limits) es
