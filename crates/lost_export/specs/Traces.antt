-- The lines that make a trace in a book that has none of its identity: a placeholder is published, and withdrawn. (Own.)
use Rattle.std.specs.Prelude.{◌≡◌, ◌≤◌, ◌+◌, false, true, List, [], ◌∷◌, ◌++◌, None, codes}
use Rattle.std.specs.List.{list_any}
use Rattle.lost_spec.specs.Text.{Text}
use Rattle.lost_spec.specs.Moment.{Stamp, is_earlier, moment_of, stamp_of}
use Rattle.lost_spec.specs.Place.{no_regions}
use Rattle.lost_spec.specs.Mapping.{Mapping, NoExpiration}
use Rattle.lost_spec.specs.Book.{Book, Identity, Trace, Publish, Withdraw, has_identity, is_full, has_most_traces, stamp_of_trace, mappings_after, traces_after, accepts}
use Rattle.lost_export.specs.Export.{publish_text, withdraw_text}

-- the text of the earliest stamp, which each withdrawal is after
abbrev pub earliest_text : Text
earliest_text = codes "0001-01-01T00:00:00Z"

abbrev pub earliest : Stamp
earliest = stamp_of earliest_text

-- a URI that leads nowhere (RFC 6694)
abbrev pub nowhere : Text
nowhere = codes "about:blank"

-- the mapping that is published so that its withdrawal leaves the trace of an identity: a default for emergencies, with no region, no
-- key and no end
unfoldable pub placeholder_of : Identity → Mapping
placeholder_of identity = record {
  source = identity.source;
  source_id = identity.source_id;
  stamp = earliest;
  expires = NoExpiration;
  service = codes "sos" ∷ [];
  uris = nowhere ∷ [];
  number = None;
  regions = no_regions;
  is_default = true;
  display_names = [];
  key = None;
}

-- the two lines of a trace
abbrev pub trace_text : Trace → Text
trace_text trace = publish_text (placeholder_of trace.0) ++ withdraw_text trace.0 trace.1

-- ---- what the two edits do

-- no mapping with this identity is held, and no trace of it is remembered
pub record IsUnknown (identity : Identity) (mappings : List Mapping) (traces : List Trace) : Type 0 where
  pub not_held : list_any (λ m. has_identity m identity) mappings ≡ false
  pub no_trace : stamp_of_trace traces identity ≡ None

-- the two edits leave the mappings as they were, and one more trace behind the others
pub record LeaveOnlyATrace (identity : Identity) (stamp : Stamp) (mappings : List Mapping) (traces : List Trace) : Type 0 where
  pub mappings_stay : mappings_after (mappings_after mappings (Publish (placeholder_of identity))) (Withdraw identity stamp) ≡ mappings
  pub one_more_trace : traces_after (traces_after traces (Publish (placeholder_of identity))) (Withdraw identity stamp) ≡ traces ++ (identity, stamp) ∷ []

-- where nothing is known of an identity, its two edits leave only its trace
abbrev pub TraceIsMade : Type 0
TraceIsMade = (identity : Identity) (stamp : Stamp) (mappings : List Mapping) (traces : List Trace) → IsUnknown identity mappings traces → LeaveOnlyATrace identity stamp mappings traces

-- ---- when they are accepted

-- no stamp is earlier than that of a placeholder
abbrev pub NoneIsEarlier : Type 0
NoneIsEarlier = (text : Text) → is_earlier (moment_of text) earliest.moment ≡ false

-- the book has room for two edits, one mapping and one trace
pub record HasRoom (b : Book) : Type 0 where
  pub edits_left : b.edits + 2 ≤ b.limits.edits
  pub not_full : is_full b ≡ false
  pub traces_left : has_most_traces b ≡ false

-- where nothing is known of an identity, a book with room accepts both its edits, if the stamp is after the earliest
abbrev pub TraceIsAccepted : Type 0
TraceIsAccepted =
    (identity : Identity) (stamp : Stamp) (b : Book) → IsUnknown identity b.mappings b.traces → HasRoom b → is_earlier earliest.moment stamp.moment ≡ true
    → accepts b (Publish (placeholder_of identity) ∷ Withdraw identity stamp ∷ []) ≡ true
