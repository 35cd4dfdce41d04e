-- The parts that a mapping's tree says: they make the same mapping.
use Rattle.std.proofs.Common.{◌≡◌, Bool, true, false, not, ◌||◌, [], ◌∷◌, length, nat_lt, Option, None, Some, Result, Ok, Err, is_err, refl, sym, ap, ◌∙◌}
use Rattle.std.specs.List.{list_all, list_any}
use Rattle.std.specs.Option.{option_or}
use Rattle.std.specs.Result.{result_unwrap_or}
use Rattle.std.proofs.lemmas.Str.Ascii.{lowercase-lowercase}
use Rattle.lost_spec.specs.declared.faults.MappingError.{MappingError}
use Rattle.lost_spec.specs.declared.faults.MappingError.TheVariants.{BadSource, BadSourceId, BadStamp, BadExpires, BadService, BadUri, BadNumber, BadRegion, RegionMissing, TooLarge, BadKey}
use Rattle.lost_spec.specs.declared.faults.UrnError.{UrnError}
use Rattle.lost_spec.specs.Text.{Text, same_text, lowered, first_fault}
use Rattle.lost_spec.specs.Token.{is_id}
use Rattle.lost_spec.specs.Service.{Service, read_service, service_text}
use Rattle.lost_spec.specs.Moment.{is_stamp, stamp_of}
use Rattle.lost_spec.specs.Place.{by_kind, is_region, are_too_many}
use Rattle.lost_spec.specs.Mapping.{Parts, Mapping, At, is_source, is_expires, expires_of, no_cache, no_expiration, are_uris, is_number, has_right_regions, is_too_large, has_right_key, parts_fault, mapping_of}
use Rattle.lost_location.specs.Refusals.{fault_if}
use Rattle.lost_mapping.specs.Identity.{identity_fault}
use Rattle.lost_mapping.proofs.PartsLemmas.{no_head_fault, no_regions_fault, mapping_of-is}
use Rattle.lost_urn.proofs.LabelLemmas.{length-lowered}
use Rattle.lost_urn.proofs.ReadLemmas.{read_ok, read_back}
use Rattle.lost_export.specs.Export.{expires_text}
use Rattle.lost_export.proofs.KindLemmas.{listed, by_kind-listed, good_listed, right_listed}

-- the parts that the tree of a mapping says
abbrev pub parts_back : Mapping → Parts
parts_back m = record {
  source = m.source;
  source_id = m.source_id;
  last_updated = m.stamp.text;
  expires = expires_text m.expires;
  service = service_text m.service;
  uris = m.uris;
  number = m.number;
  regions = listed m.regions;
  is_default = m.is_default;
  display_names = m.display_names;
  key = m.key;
}

-- ---- texts

lowered-lowered : (text : Text) → lowered (lowered text) ≡ lowered text
lowered-lowered [] = refl
lowered-lowered (b ∷ rest) = rw (lowercase-lowercase b, lowered-lowered rest)

is_source-lowered : (text : Text) → is_source (lowered text) ≡ is_source text
unfolding is_source
is_source-lowered text = rw (length-lowered text, lowered-lowered text)

at_stamp : (text : Text) → same_text text no_cache ≡ false → same_text text no_expiration ≡ false → expires_of text ≡ At (stamp_of text)
at_stamp text first second = rw (first, second) refl

by_words : (text : Text) (one other : Bool) → same_text text no_cache ≡ one → same_text text no_expiration ≡ other → is_expires (expires_text (expires_of text)) ≡ is_expires text
by_words text true other first second = rw first
by_words text false true first second = rw (first, second)
by_words text false false first second = ap (λ expires. is_expires (expires_text expires)) (at_stamp text first second)

is_expires-back : (text : Text) → is_expires (expires_text (expires_of text)) ≡ is_expires text
is_expires-back text = by_words text (same_text text no_cache) (same_text text no_expiration) refl refl

same_by_words : (text : Text) (one other : Bool) → same_text text no_cache ≡ one → same_text text no_expiration ≡ other → expires_of (expires_text (expires_of text)) ≡ expires_of text
same_by_words text true other first second = rw first
same_by_words text false true first second = rw (first, second)
same_by_words text false false first second = ap (λ expires. expires_of (expires_text expires)) (at_stamp text first second)

expires_of-back : (text : Text) → expires_of (expires_text (expires_of text)) ≡ expires_of text
expires_of-back text = same_by_words text (same_text text no_cache) (same_text text no_expiration) refl refl

-- ---- services

read_again : (text : Text) (read : Result Service UrnError) → read_service text ≡ read → is_err read ≡ false → read_service (service_text (result_unwrap_or read [])) ≡ read
read_again text (Ok s) is h = read_back s (read_ok text s is).1
read_again text (Err e) is h = absurd (cc)

service_back : (text : Text) → is_err (read_service text) ≡ false → read_service (service_text (result_unwrap_or (read_service text) [])) ≡ read_service text
service_back text h = read_again text (read_service text) refl h

ok_or_empty : (read : Result Service UrnError) → is_err read ≡ false → read ≡ Ok (result_unwrap_or read [])
ok_or_empty (Ok s) h = refl
ok_or_empty (Err e) h = absurd (cc)

-- ---- what is known of parts that are not refused

all_good : (good : Bool) → first_fault ((not good, BadRegion) ∷ []) ≡ None → good ≡ true
all_good true h = refl
all_good false h = absurd (cc)

pub good_regions : (p : Parts) → parts_fault p ≡ None → list_all is_region p.regions ≡ true
good_regions p h = all_good (list_all is_region p.regions) (no_regions_fault p (sym h))

no_service_fault : (identity : Option MappingError) (stamp expires service : Bool) → option_or identity (option_or (fault_if stamp BadStamp) (option_or (fault_if expires BadExpires) (fault_if service BadService))) ≡ None → service ≡ false
no_service_fault (Some fault) stamp expires service h = absurd (cc)
no_service_fault None true expires service h = absurd (cc)
no_service_fault None false true service h = absurd (cc)
no_service_fault None false false true h = absurd (cc)
no_service_fault None false false false h = refl

good_service : (p : Parts) → parts_fault p ≡ None → is_err (read_service p.service) ≡ false
good_service p h = no_service_fault (identity_fault p.source p.source_id) (not (is_stamp p.last_updated)) (not (is_expires p.expires)) (is_err (read_service p.service)) (no_head_fault p (sym h))

-- ---- refusals

abbrev checks : (a b c d e f g h i j k : Bool) → Option MappingError
checks a b c d e f g h i j k =
    first_fault ((not a, BadSource) ∷ (not b, BadSourceId) ∷ (not c, BadStamp) ∷ (not d, BadExpires) ∷ (e, BadService) ∷ (not f, BadUri) ∷ (not g, BadNumber) ∷ (not h, BadRegion) ∷ (not i, RegionMissing) ∷ (j, TooLarge) ∷ (not k, BadKey) ∷ [])

same_checks : (a aa d dd e ee h hh i ii j jj b c f g k : Bool) → a ≡ aa → d ≡ dd → e ≡ ee → h ≡ hh → i ≡ ii → j ≡ jj → checks a b c d e f g h i j k ≡ checks aa b c dd ee f g hh ii jj k
same_checks a aa d dd e ee h hh i ii j jj b c f g k a-is d-is e-is h-is i-is j-is = rw (a-is, d-is, e-is, h-is, i-is, j-is) refl

large_back : (p : Parts) → is_too_large (parts_back (mapping_of p)) ≡ is_too_large p
unfolding mapping_of
large_back p =
    ap (λ r. are_too_many r || nat_lt 16 (length p.display_names) || list_any (λ name. nat_lt 1024 (length name.lang) || nat_lt 1024 (length name.text)) p.display_names) (by_kind-listed (by_kind p.regions))

-- the parts that the tree says are not refused
pub accepted_back : (p : Parts) → parts_fault p ≡ None → parts_fault (parts_back (mapping_of p)) ≡ None
unfolding parts_fault mapping_of
accepted_back p h =
    let good = good_regions p h in
    let back = parts_back (mapping_of p) in
    same_checks (is_source back.source) (is_source p.source) (is_expires back.expires) (is_expires p.expires) (is_err (read_service back.service)) (is_err (read_service p.service)) (list_all is_region back.regions) (list_all is_region p.regions)
    (has_right_regions p.is_default back.regions) (has_right_regions p.is_default p.regions) (is_too_large back) (is_too_large p) (is_id p.source_id) (is_stamp p.last_updated) (are_uris p.uris) (is_number p.number) (has_right_key p.is_default p.key)
    (is_source-lowered p.source) (is_expires-back p.expires) (ap is_err (service_back p.service (good_service p h))) (good_listed p.regions good ∙ sym good) (right_listed p.is_default p.regions good) (large_back p)
    ∙ h

-- they make the mapping
pub mapping_back : (p : Parts) → parts_fault p ≡ None → mapping_of (parts_back (mapping_of p)) ≡ mapping_of p
unfolding mapping_of
mapping_back p h =
    let m = mapping_of p in
    let read = good_service p h in
    sym (mapping_of-is (parts_back m) m.source m.source_id m.stamp m.expires m.service m.regions (sym (lowered-lowered p.source)) refl refl (sym (expires_of-back p.expires)) (service_back p.service read ∙ ok_or_empty (read_service p.service) read) (sym (by_kind-listed m.regions)))
