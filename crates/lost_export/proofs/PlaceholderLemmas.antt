-- The placeholder of an identity is built from its parts, and its withdrawal leaves only a trace.
use Rattle.std.proofs.Common.{◌≡◌, codes, Bool, true, false, ◌||◌, if◌then◌else◌, List, [], ◌∷◌, ◌++◌, Some, None, refl, sym, ap, ◌∙◌}
use Rattle.std.specs.List.{AllByRecursion, list_any}
use Rattle.std.proofs.lemmas.Option.{none-some}
use Rattle.lost_spec.specs.Text.{Text, lowered}
use Rattle.lost_spec.specs.Place.{Region}
use Rattle.lost_spec.specs.Service.{read_service}
use Rattle.lost_spec.specs.Moment.{is_stamp}
use Rattle.lost_spec.specs.Token.{is_id}
use Rattle.lost_spec.specs.Mapping.{Parts, DisplayName, Mapping, is_source, is_uri, no_expiration, parts_fault, mapping_of}
use Rattle.lost_spec.specs.Book.{Identity, Trace, identity_of, has_identity, same_identity, stamp_of_trace, without, with_trace, last_first, without_trace}
use Rattle.lost_spec.proofs.IdentityLemmas.{has_identity-Decides}
use Rattle.lost_spec.proofs.TraceLemmas.{with_trace-new}
use Rattle.lost_export.specs.ReadBack.{HasAscendingNames, IsBuilt}
use Rattle.lost_export.specs.Traces.{earliest_text, earliest, nowhere, placeholder_of, TraceIsMade}

-- ---- the mapping

-- the parts of a placeholder
abbrev pub placeholder_parts : Identity → Parts
placeholder_parts identity = record {
  source = identity.source;
  source_id = identity.source_id;
  last_updated = earliest_text;
  expires = no_expiration;
  service = codes "urn:service:sos";
  uris = nowhere ∷ [];
  number = None;
  regions = [];
  is_default = true;
  display_names = [];
  key = None;
}

-- parts of these texts and lists
pub parts_are : (identity : Identity) (source source_id updated expires service : Text) (uris : List Text) (regions : List Region) (names : List DisplayName)
    → source ≡ identity.source → source_id ≡ identity.source_id → updated ≡ earliest_text → expires ≡ no_expiration → service ≡ codes "urn:service:sos" → uris ≡ nowhere ∷ [] → regions ≡ [] → names ≡ []
    → record {
      source = source;
      source_id = source_id;
      last_updated = updated;
      expires = expires;
      service = service;
      uris = uris;
      number = None;
      regions = regions;
      is_default = true;
      display_names = names;
      key = None;
    }
    ≡ placeholder_parts identity
parts_are identity source source_id updated expires service uris regions names a b c d e f g h = rw (a, b, c, d, e, f, g, h) refl

-- they are not refused
pub placeholder_accepted : (identity : Identity) → is_source identity.source ≡ true → is_id identity.source_id ≡ true → parts_fault (placeholder_parts identity) ≡ None
unfolding parts_fault is_stamp is_uri read_service
placeholder_accepted identity source_is source_id_is = rw (source_is, source_id_is) refl

-- and make the placeholder
pub placeholder_made : (identity : Identity) → lowered identity.source ≡ identity.source → mapping_of (placeholder_parts identity) ≡ placeholder_of identity
unfolding mapping_of placeholder_of read_service
placeholder_made identity lower = rw lower refl

no_patterns : (identity : Identity) → AllByRecursion HasAscendingNames (placeholder_of identity).regions.patterns
unfolding placeholder_of
no_patterns identity = tt

pub placeholder_built : (identity : Identity) (parts : Parts) → parts_fault parts ≡ None → mapping_of parts ≡ placeholder_of identity → IsBuilt (placeholder_of identity)
placeholder_built identity parts accepted made = record {
  parts = parts;
  accepted = accepted;
  made = sym made;
  ascending = no_patterns identity;
}

pub identity_is : (identity : Identity) → identity_of (placeholder_of identity) ≡ identity
unfolding placeholder_of
identity_is identity = refl

pub key_is : (identity : Identity) → (placeholder_of identity).key ≡ None
unfolding placeholder_of
key_is identity = refl

pub stamp_is : (identity : Identity) → (placeholder_of identity).stamp ≡ earliest
unfolding placeholder_of
stamp_is identity = refl

-- ---- the edits

-- the last mapping is taken out, where no other has its identity
without_last : (identity : Identity) (m : Mapping) (ms : List Mapping) → list_any (λ n. has_identity n identity) ms ≡ false → has_identity m identity ≡ true → without identity (ms ++ m ∷ []) ≡ ms
without_last identity m [] none has = rw has refl
without_last identity m (old ∷ rest) none has = by (has_identity old identity) (λ others. without_last identity m rest others has) none
  where
    by : (b : Bool) → (list_any (λ n. has_identity n identity) rest ≡ false → without identity (rest ++ m ∷ []) ≡ rest) → (b || list_any (λ n. has_identity n identity) rest) ≡ false
        → (if b then rest ++ m ∷ [] else old ∷ without identity (rest ++ m ∷ [])) ≡ old ∷ rest
    by true others h = absurd (cc)
    by false others h = ap (λ all. old ∷ all) (others h)

-- no trace is taken away of an identity that has none
pub untraced : (identity : Identity) (ts : List Trace) → stamp_of_trace ts identity ≡ None → without_trace identity ts ≡ ts
untraced identity [] none = refl
untraced identity (t ∷ ts) none = by (same_identity identity t.0) (untraced identity ts) none
  where
    by : (b : Bool) → (stamp_of_trace ts identity ≡ None → without_trace identity ts ≡ ts) → (if b then Some t.1 else stamp_of_trace ts identity) ≡ None → (if b then last_first ts else t ∷ without_trace identity ts) ≡ t ∷ ts
    by true rest h = absurd (none-some t.1 (sym h))
    by false rest h = ap (λ all. t ∷ all) (rest h)

pub trace_is_made : TraceIsMade
trace_is_made identity stamp mappings traces unknown =
    let has = (has_identity-Decides (placeholder_of identity) identity).1 (identity_is identity) in
    record {
      mappings_stay = without_last identity (placeholder_of identity) mappings unknown.not_held has;
      one_more_trace =
          ap (λ left. with_trace identity stamp left) (ap (λ own. without_trace own traces) (identity_is identity) ∙ untraced identity traces unknown.no_trace)
          ∙ with_trace-new identity stamp traces unknown.no_trace;
    }
