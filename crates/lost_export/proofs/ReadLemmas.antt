-- The line of a mapping says to publish it.
use Rattle.std.proofs.Common.{◌≡◌, ◌≤◌, false, Option, Some, None, Result, Ok, Err, IfOk, refl, sym, ap, ◌∙◌, subst}
use Rattle.std.specs.List.{AllByRecursion}
use Rattle.std.specs.Str.{IsUtf8}
use Rattle.std.proofs.lemmas.Str.{is_utf8-from_IsUtf8}
use Rattle.serde_json.specs.Data.{Data, depth}
use Rattle.serde_json.specs.Read.{read, max_depth}
use Rattle.serde_json.specs.Written.{has_float, compact_text}
use Rattle.lost_spec.specs.Text.{Text}
use Rattle.lost_spec.specs.Mapping.{Parts, Mapping, parts_fault, mapping_of}
use Rattle.lost_spec.specs.Book.{Publish}
use Rattle.lost_reading.specs.Members.{tree_of}
use Rattle.lost_reading.specs.Desk.{Stage, parts_of_members, mapping_order, order_in, desk_line}
use Rattle.lost_mapping.proofs.PartsLemmas.{shaped_where_accepted}
use Rattle.lost_export.specs.Export.{publish_members, publish_data, publish_json}
use Rattle.lost_export.specs.ReadBack.{HasAscendingNames, IsBuilt, ReadsBack}
use Rattle.lost_export.proofs.DepthLemmas.{not_deep}
use Rattle.lost_export.proofs.LineLemmas.{json_printed}
use Rattle.lost_export.proofs.PartsLemmas.{parts_back, good_regions, accepted_back, mapping_back}
use Rattle.lost_export.proofs.KindLemmas.{good_listed}
use Rattle.lost_export.proofs.TreeLemmas.{parts_of-publish}

-- ---- what the tree orders

order_of-publish : (m : Mapping) → order_in (publish_data m) ≡ Some (mapping_order Publish (parts_of_members (publish_members m)))
order_of-publish m = refl

-- the order of parts that are not refused
order_of-parts : (read : Option Parts) (p : Parts) (m : Mapping) → read ≡ Some p → parts_fault p ≡ None → mapping_of p ≡ m → mapping_order Publish read ≡ Ok (Stage (Publish m))
order_of-parts read p m is accepted makes = rw (is, accepted, makes) refl

of_parts : (p : Parts) → parts_fault p ≡ None → AllByRecursion HasAscendingNames (mapping_of p).regions.patterns → order_in (publish_data (mapping_of p)) ≡ Some (Ok (Stage (Publish (mapping_of p))))
unfolding mapping_of
of_parts p accepted ascending =
    let m = mapping_of p in
    let shaped = shaped_where_accepted m p (sym accepted) refl refl refl in
    let read = parts_of-publish m shaped.regions (good_listed p.regions (good_regions p accepted)) ascending in
    order_of-publish m ∙ ap Some (order_of-parts (parts_of_members (publish_members m)) (parts_back m) m read (accepted_back p accepted) (mapping_back p accepted))

of_built : (m : Mapping) → IsBuilt m → order_in (publish_data m) ≡ Some (Ok (Stage (Publish m)))
of_built m built =
    let ascending = subst (λ n. AllByRecursion HasAscendingNames n.regions.patterns) built.made built.ascending in
    subst (λ n. order_in (publish_data n) ≡ Some (Ok (Stage (Publish n)))) (sym built.made) (of_parts built.parts built.accepted ascending)

-- ---- what the line orders

of_line : (m : Mapping) → IsUtf8 (publish_json m) → read (publish_json m) ≡ Some (publish_data m) → IsBuilt m → ReadsBack m
unfolding desk_line tree_of
of_line m utf8 reads built = rw (is_utf8-from_IsUtf8 (publish_json m) utf8, reads) (of_built m built)

-- what is known of the bytes of the tree
pub reads_back : {Bytes Fault : Type 0} (m : Mapping) (tree : Data) (items : Bytes → Text) (result : Result Bytes Fault) → tree ≡ publish_data m
    → IfOk result (λ bytes. has_float tree ≡ false → items bytes ≡ compact_text tree) → IfOk result (λ bytes. IsUtf8 (items bytes)) → IfOk result (λ bytes. depth tree ≤ max_depth → read (items bytes) ≡ Some tree)
    → IfOk result (λ bytes. IsBuilt m → ReadsBack m)
reads_back m tree items (Ok bytes) is printed utf8 reads =
    let same = json_printed m tree (items bytes) is printed in
    let shallow = subst (λ value. depth value ≤ max_depth) (sym is) (not_deep m) in
    of_line m (subst IsUtf8 same utf8) (ap read (sym same) ∙ (reads shallow ∙ ap Some is))
reads_back m tree items (Err fault) is printed utf8 reads = tt
