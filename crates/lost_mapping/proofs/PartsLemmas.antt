-- The refusal of parts, group by group in the order of the checks, and the mapping of parts that are not refused.
use Rattle.std.proofs.Common.{◌≡◌, ◌≢◌, Bool, true, false, not, List, [], ◌∷◌, ◌++◌, length, Option, Some, None, Result, Ok, Err, OnOk, arith, eqb-true, is_err, refl, sym, ap, ◌∙◌}
use Rattle.std.specs.List.{list_all}
use Rattle.std.specs.Option.{option_or}
use Rattle.lost_spec.specs.declared.faults.MappingError.{MappingError}
use Rattle.lost_spec.specs.declared.faults.MappingError.TheVariants.{BadSource, BadSourceId, BadStamp, BadExpires, BadService, BadUri, BadNumber, BadRegion, RegionMissing, TooLarge, BadKey, Memory}
use Rattle.lost_spec.specs.Token.{is_id}
use Rattle.lost_spec.specs.Place.{Region, Regions, no_regions, by_kind, is_region}
use Rattle.lost_spec.specs.Text.{Text, lowered, first_fault}
use Rattle.lost_spec.specs.Service.{Service, read_service}
use Rattle.lost_spec.specs.Moment.{Stamp, is_stamp, stamp_of}
use Rattle.lost_spec.specs.Mapping.{Parts, Mapping, Expires, expires_of, is_source, is_expires, are_uris, is_number, has_right_regions, has_right_key, is_too_large, parts_fault, mapping_of}
use Rattle.lost_location.specs.Counted.{counts_of}
use Rattle.lost_location.specs.Refusals.{regions_fault}
use Rattle.lost_mapping.specs.Faults.{head_fault, contact_fault, areas_fault, has_right_count, is_oversized, shape_fault}
use Rattle.lost_mapping.specs.Shape.{IsShaped}

-- ---- groups

-- the first fault of two groups is that of the first group, or else that of the second
first_of_two : {Fault : Type 0} (checks rest : List (Bool × Fault)) → first_fault (checks ++ rest) ≡ option_or (first_fault checks) (first_fault rest)
first_of_two [] rest = refl
first_of_two ((true, fault) ∷ checks) rest = refl
first_of_two ((false, fault) ∷ checks) rest = first_of_two checks rest

groups : (a b c d e f g h i j k : Bool)
    → first_fault ((a, BadSource) ∷ (b, BadSourceId) ∷ (c, BadStamp) ∷ (d, BadExpires) ∷ (e, BadService) ∷ (f, BadUri) ∷ (g, BadNumber) ∷ (h, BadRegion) ∷ (i, RegionMissing) ∷ (j, TooLarge) ∷ (k, BadKey) ∷ [])
    ≡ option_or
    (option_or (first_fault ((a, BadSource) ∷ (b, BadSourceId) ∷ []))
    (option_or (first_fault ((c, BadStamp) ∷ [])) (option_or (first_fault ((d, BadExpires) ∷ [])) (first_fault ((e, BadService) ∷ [])))))
    (option_or (first_fault ((f, BadUri) ∷ (g, BadNumber) ∷ []))
    (option_or (first_fault ((h, BadRegion) ∷ [])) (first_fault ((i, RegionMissing) ∷ (j, TooLarge) ∷ (k, BadKey) ∷ []))))
groups a b c d e f g h i j k =
    first_of_two ((a, BadSource) ∷ (b, BadSourceId) ∷ (c, BadStamp) ∷ (d, BadExpires) ∷ (e, BadService) ∷ []) ((f, BadUri) ∷ (g, BadNumber) ∷ (h, BadRegion) ∷ (i, RegionMissing) ∷ (j, TooLarge) ∷ (k, BadKey) ∷ [])
    ∙ rw (
      first_of_two ((a, BadSource) ∷ (b, BadSourceId) ∷ []) ((c, BadStamp) ∷ (d, BadExpires) ∷ (e, BadService) ∷ []),
      first_of_two ((c, BadStamp) ∷ []) ((d, BadExpires) ∷ (e, BadService) ∷ []),
      first_of_two ((d, BadExpires) ∷ []) ((e, BadService) ∷ []),
      first_of_two ((f, BadUri) ∷ (g, BadNumber) ∷ []) ((h, BadRegion) ∷ (i, RegionMissing) ∷ (j, TooLarge) ∷ (k, BadKey) ∷ []),
      first_of_two ((h, BadRegion) ∷ []) ((i, RegionMissing) ∷ (j, TooLarge) ∷ (k, BadKey) ∷ []),
    ) refl

-- by the number of regions, a default has none, and another mapping has one
right_count : (is_default : Bool) (regions : List Region) → has_right_regions is_default regions ≡ has_right_count is_default (length regions)
right_count true regions = refl
right_count false regions = refl

parts_fault-groups : (p : Parts) → parts_fault p ≡ option_or (head_fault p) (option_or (contact_fault p) (areas_fault p))
unfolding parts_fault
parts_fault-groups p =
    groups (not (is_source p.source)) (not (is_id p.source_id)) (not (is_stamp p.last_updated)) (not (is_expires p.expires)) (is_err (read_service p.service)) (not (are_uris p.uris)) (not (is_number p.number)) (not (list_all is_region p.regions)) (not (has_right_regions p.is_default p.regions)) (is_too_large p) (not (has_right_key p.is_default p.key))
    ∙ ap (λ right. option_or (head_fault p) (option_or (contact_fault p) (option_or (regions_fault p.regions) (first_fault ((not right, RegionMissing) ∷ (is_too_large p, TooLarge) ∷ (not (has_right_key p.is_default p.key), BadKey) ∷ []))))) (right_count p.is_default p.regions)

-- ---- the first group that refuses

pub fault_of_head : (p : Parts) (e : MappingError) → Some e ≡ head_fault p → Some e ≡ parts_fault p
fault_of_head p e head = sym (parts_fault-groups p ∙ ap (λ first. option_or first (option_or (contact_fault p) (areas_fault p))) (sym head))

after_head : (p : Parts) → None ≡ head_fault p → parts_fault p ≡ option_or (contact_fault p) (areas_fault p)
after_head p head = parts_fault-groups p ∙ ap (λ first. option_or first (option_or (contact_fault p) (areas_fault p))) (sym head)

pub fault_of_contact : (p : Parts) (e : MappingError) → None ≡ head_fault p → Some e ≡ contact_fault p → Some e ≡ parts_fault p
fault_of_contact p e head contact = sym (after_head p head ∙ ap (λ first. option_or first (areas_fault p)) (sym contact))

pub fault_of_areas : (p : Parts) (fault : Option MappingError) → None ≡ head_fault p → None ≡ contact_fault p → fault ≡ areas_fault p → fault ≡ parts_fault p
fault_of_areas p fault head contact areas = areas ∙ sym (after_head p head ∙ ap (λ first. option_or first (areas_fault p)) (sym contact))

-- ---- parts that are not refused

both_none : {E : Type 0} (a b : Option E) → option_or a b ≡ None → (a ≡ None) × (b ≡ None)
both_none None b h = (refl, h)
both_none (Some e) b h = absurd (cc)

none_of_parts : (p : Parts) → None ≡ parts_fault p → option_or (head_fault p) (option_or (contact_fault p) (areas_fault p)) ≡ None
none_of_parts p none = sym (none ∙ parts_fault-groups p)

pub no_head_fault : (p : Parts) → None ≡ parts_fault p → head_fault p ≡ None
no_head_fault p none = (both_none (head_fault p) _ (none_of_parts p none)).0

no_areas_fault : (p : Parts) → None ≡ parts_fault p → areas_fault p ≡ None
no_areas_fault p none = (both_none (contact_fault p) (areas_fault p) (both_none (head_fault p) (option_or (contact_fault p) (areas_fault p)) (none_of_parts p none)).1).1

pub no_regions_fault : (p : Parts) → None ≡ parts_fault p → regions_fault p.regions ≡ None
no_regions_fault p none = (both_none (regions_fault p.regions) _ (no_areas_fault p none)).0

no_shape_fault : (p : Parts) → None ≡ parts_fault p → shape_fault p.is_default (length p.regions) (counts_of (by_kind p.regions)) p.display_names p.key ≡ None
no_shape_fault p none = (both_none (regions_fault p.regions) (shape_fault p.is_default (length p.regions) (counts_of (by_kind p.regions)) p.display_names p.key) (no_areas_fault p none)).1

-- a part that is not refused gives no other refusal
pub refused_by_none : (fault whole : Option MappingError) (e : MappingError) → fault ≡ None → (e ≢ Memory → fault ≡ Some e) → e ≢ Memory → whole ≡ Some e
refused_by_none fault whole e none refused other = let some : fault ≡ Some e = refused other in absurd (cc)

-- ---- a mapping that is not refused

pub mapping_of-is : (p : Parts) (source source_id : Text) (stamp : Stamp) (expires : Expires) (service : Service) (regions : Regions) → source ≡ lowered p.source → source_id ≡ p.source_id → stamp ≡ stamp_of p.last_updated → expires ≡ expires_of p.expires → read_service p.service ≡ Ok service → regions ≡ by_kind p.regions
    → record { source = source; source_id = source_id; stamp = stamp; expires = expires; service = service; uris = p.uris; number = p.number; regions = regions; is_default = p.is_default; display_names = p.display_names; key = p.key } ≡ mapping_of p
unfolding mapping_of
mapping_of-is p source source_id stamp expires service regions source_is source_id_is stamp_is expires_is service_is regions_are =
    rw (source_is, source_id_is, stamp_is, expires_is, service_is, regions_are) refl

none_of_three : (a b c : Bool) → first_fault ((not a, RegionMissing) ∷ (b, TooLarge) ∷ (not c, BadKey) ∷ []) ≡ None → (a ≡ true) × (c ≡ true)
none_of_three true false true e = (refl, refl)
none_of_three false b c e = (cc, cc)
none_of_three true true c e = (refl, cc)
none_of_three true false false e = (refl, cc)

none_by_kind : (regions : List Region) → has_right_count true (length regions) ≡ true → by_kind regions ≡ no_regions
none_by_kind [] e = refl
none_by_kind (region ∷ rest) e = let zero : length (region ∷ rest) ≡ 0 = eqb-true (length (region ∷ rest)) 0 e in absurd (omega arith)

bare_default : (is_default : Bool) (regions : List Region) → has_right_count is_default (length regions) ≡ true → is_default ≡ true → by_kind regions ≡ no_regions
bare_default true regions right default = none_by_kind regions right
bare_default false regions right default = absurd (cc)

pub shaped_where_accepted : (m : Mapping) (p : Parts) → None ≡ parts_fault p → m.is_default ≡ p.is_default → m.key ≡ p.key → m.regions ≡ by_kind p.regions → IsShaped m
shaped_where_accepted m p accepted default_is key_is regions_are =
    let right = none_of_three (has_right_count p.is_default (length p.regions)) (is_oversized (counts_of (by_kind p.regions)) p.display_names) (has_right_key p.is_default p.key) (no_shape_fault p accepted) in
    record {
      key = rw (default_is, key_is) right.1;
      regions = λ default. regions_are ∙ bare_default p.is_default p.regions right.0 (sym default_is ∙ default);
    }

-- what holds at any rate holds of an `Ok`
pub on_ok_always : {Made Fault P : Type 0} (r : Result Made Fault) → P → OnOk r P
on_ok_always (Ok made) holds = holds
on_ok_always (Err fault) holds = tt
