-- The members of a mapping are found by their names.
use Rattle.std.proofs.Common.{◌≡◌, Option, None, Some, codes, Ordering, Less, Equal, Greater, nat_cmp, is_eq, false, refl, ◌∙◌}
use Rattle.std.specs.Cmp.Lexicographic.{slice_cmp}
use Rattle.std.specs.Ordering.{match_ordering}
use Rattle.serde_json.specs.Data.{Data, Members, no_members, member}
use Rattle.serde_json.specs.Find.{get_member}
use Rattle.lost_spec.specs.Text.{Text}
use Rattle.lost_export.specs.Export.{member_if}

apart : (order : Ordering) (rest there : Option Data) → is_eq order ≡ false → match_ordering order rest there rest ≡ rest
apart Less rest there h = refl
apart Equal rest there h = absurd (cc)
apart Greater rest there h = refl

-- a member of another name may stand before
skip : (name other : Text) (value : Option Data) (rest : Members) → is_eq (slice_cmp nat_cmp name other) ≡ false → get_member name (member_if other value rest) ≡ get_member name rest
skip name other None rest h = refl
skip name other (Some value) rest h = apart (slice_cmp nat_cmp name other) (get_member name rest) (Some value) h

-- a member that may be there
found_if : (name : Text) (value : Option Data) (rest : Members) → slice_cmp nat_cmp name name ≡ Equal → get_member name rest ≡ None → get_member name (member_if name value rest) ≡ value
found_if name None rest same none = none
found_if name (Some value) rest same none = rw same

module _ (mark names key boundary dialled : Option Data) (expires updated service source source_id uri : Data) where
  abbrev pub from_source : Members
  from_source = member (codes "source") source (member (codes "sourceId") source_id (member (codes "uri") uri no_members))

  abbrev pub from_dialled : Members
  from_dialled = member_if (codes "serviceNumber") dialled from_source

  abbrev pub from_boundary : Members
  from_boundary = member_if (codes "serviceBoundary") boundary from_dialled

  abbrev pub from_key : Members
  from_key = member_if (codes "key") key (member (codes "lastUpdated") updated (member (codes "service") service from_boundary))

  abbrev pub from_names : Members
  from_names = member_if (codes "displayName") names (member (codes "expires") expires from_key)

  abbrev pub all_of : Members
  all_of = member_if (codes "default") mark from_names

  to_expires : (name : Text) → is_eq (slice_cmp nat_cmp name (codes "default")) ≡ false → is_eq (slice_cmp nat_cmp name (codes "displayName")) ≡ false → get_member name all_of ≡ get_member name (member (codes "expires") expires from_key)
  to_expires name first second = skip name (codes "default") mark from_names first ∙ skip name (codes "displayName") names (member (codes "expires") expires from_key) second

  to_updated : (name : Text) → is_eq (slice_cmp nat_cmp name (codes "expires")) ≡ false → is_eq (slice_cmp nat_cmp name (codes "key")) ≡ false
      → get_member name (member (codes "expires") expires from_key) ≡ get_member name (member (codes "lastUpdated") updated (member (codes "service") service from_boundary))
  to_updated name first second =
      skip name (codes "expires") (Some expires) from_key first ∙ skip name (codes "key") key (member (codes "lastUpdated") updated (member (codes "service") service from_boundary)) second

  to_boundary : (name : Text) → is_eq (slice_cmp nat_cmp name (codes "lastUpdated")) ≡ false → is_eq (slice_cmp nat_cmp name (codes "service")) ≡ false
      → get_member name (member (codes "lastUpdated") updated (member (codes "service") service from_boundary)) ≡ get_member name from_boundary
  to_boundary name first second =
      skip name (codes "lastUpdated") (Some updated) (member (codes "service") service from_boundary) first ∙ skip name (codes "service") (Some service) from_boundary second

  to_source : (name : Text) → is_eq (slice_cmp nat_cmp name (codes "serviceBoundary")) ≡ false → is_eq (slice_cmp nat_cmp name (codes "serviceNumber")) ≡ false → get_member name from_boundary ≡ get_member name from_source
  to_source name first second = skip name (codes "serviceBoundary") boundary from_dialled first ∙ skip name (codes "serviceNumber") dialled from_source second

  -- ---- the members that are always there

  pub found_expires : get_member (codes "expires") all_of ≡ Some expires
  found_expires = to_expires (codes "expires") refl refl

  pub found_updated : get_member (codes "lastUpdated") all_of ≡ Some updated
  found_updated = to_expires (codes "lastUpdated") refl refl ∙ to_updated (codes "lastUpdated") refl refl

  pub found_service : get_member (codes "service") all_of ≡ Some service
  found_service = to_expires (codes "service") refl refl ∙ to_updated (codes "service") refl refl

  pub found_source : get_member (codes "source") all_of ≡ Some source
  found_source = to_expires (codes "source") refl refl ∙ (to_updated (codes "source") refl refl ∙ (to_boundary (codes "source") refl refl ∙ to_source (codes "source") refl refl))

  pub found_source_id : get_member (codes "sourceId") all_of ≡ Some source_id
  found_source_id = to_expires (codes "sourceId") refl refl ∙ (to_updated (codes "sourceId") refl refl ∙ (to_boundary (codes "sourceId") refl refl ∙ to_source (codes "sourceId") refl refl))

  pub found_uri : get_member (codes "uri") all_of ≡ Some uri
  found_uri = to_expires (codes "uri") refl refl ∙ (to_updated (codes "uri") refl refl ∙ (to_boundary (codes "uri") refl refl ∙ to_source (codes "uri") refl refl))

  -- ---- the members that may be there

  pub found_dialled : get_member (codes "serviceNumber") all_of ≡ dialled
  found_dialled =
      to_expires (codes "serviceNumber") refl refl
      ∙ (to_updated (codes "serviceNumber") refl refl
      ∙ (to_boundary (codes "serviceNumber") refl refl
      ∙ (skip (codes "serviceNumber") (codes "serviceBoundary") boundary from_dialled refl ∙ found_if (codes "serviceNumber") dialled from_source refl refl)))

  pub found_boundary : get_member (codes "serviceBoundary") all_of ≡ boundary
  found_boundary =
      to_expires (codes "serviceBoundary") refl refl
      ∙ (to_updated (codes "serviceBoundary") refl refl
      ∙ (to_boundary (codes "serviceBoundary") refl refl
      ∙ found_if (codes "serviceBoundary") boundary from_dialled refl (skip (codes "serviceBoundary") (codes "serviceNumber") dialled from_source refl)))

  pub found_key : get_member (codes "key") all_of ≡ key
  found_key =
      to_expires (codes "key") refl refl
      ∙ found_if (codes "key") key (member (codes "lastUpdated") updated (member (codes "service") service from_boundary)) refl (to_boundary (codes "key") refl refl ∙ to_source (codes "key") refl refl)

  pub found_names : get_member (codes "displayName") all_of ≡ names
  found_names =
      let none = to_updated (codes "displayName") refl refl ∙ (to_boundary (codes "displayName") refl refl ∙ to_source (codes "displayName") refl refl) in
      skip (codes "displayName") (codes "default") mark from_names refl ∙ found_if (codes "displayName") names (member (codes "expires") expires from_key) refl none

  pub found_mark : get_member (codes "default") all_of ≡ mark
  found_mark =
      let none = to_updated (codes "default") refl refl ∙ (to_boundary (codes "default") refl refl ∙ to_source (codes "default") refl refl) in
      found_if (codes "default") mark from_names refl (skip (codes "default") (codes "displayName") names (member (codes "expires") expires from_key) refl ∙ none)
