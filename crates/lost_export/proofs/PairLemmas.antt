-- Pairs whose names ascend stand in an object as they are.
use Rattle.std.proofs.Common.{◌≡◌, [], ◌∷◌, ◌++◌, Some, option_map, Less, Greater, nat_cmp, refl, sym, ap, ◌∙◌, subst, append_assoc, append-nil}
use Rattle.std.proofs.lemmas.Cmp.{nat_list_cmp_total}
use Rattle.std.specs.Cmp.Lexicographic.{slice_cmp}
use Rattle.std.specs.List.{AllByRecursion}
use Rattle.std.specs.List.Sorted.{IsStrictlySortedBy}
use Rattle.std.specs.Ordering.{ordering_reverse}
use Rattle.serde_json.specs.Data.{Members, no_members, member, string, put}
use Rattle.lost_spec.specs.Text.{Text}
use Rattle.lost_spec.specs.Civic.{Pairs, names_of}
use Rattle.lost_reading.specs.Members.{pairs_of}
use Rattle.lost_export.specs.Export.{put_pairs}
use Rattle.lost_export.specs.ReadBack.{HasAscendingNames}

-- the members of pairs, in their order
abbrev in_order : Pairs → Members
in_order [] = no_members
in_order (pair ∷ pairs) = member pair.0 (string pair.1) (in_order pairs)

below_middle : (name : Text) (done : Pairs) (pair : Text × Text) (more : Pairs) → AllByRecursion (λ y. slice_cmp nat_cmp name y ≡ Less) (names_of (done ++ pair ∷ more)) → slice_cmp nat_cmp name pair.0 ≡ Less
below_middle name [] pair more h = h.0
below_middle name (first ∷ done) pair more h = below_middle name done pair more h.1

-- a name that is above those before it goes last
put_last : (done : Pairs) (pair : Text × Text) (more : Pairs) → HasAscendingNames (done ++ pair ∷ more) → put pair.0 (string pair.1) (in_order done) ≡ in_order (done ++ pair ∷ [])
unfolding IsStrictlySortedBy
put_last [] pair more h = refl
put_last (first ∷ done) pair more h =
    let above : slice_cmp nat_cmp pair.0 first.0 ≡ Greater = nat_list_cmp_total.antisymm pair.0 first.0 ∙ ap ordering_reverse (below_middle first.0 done pair more h.0) in
    rw above (ap (member first.0 (string first.1)) (put_last done pair more h.1))

put_rest : (done more : Pairs) → HasAscendingNames (done ++ more) → put_pairs (in_order done) more ≡ in_order (done ++ more)
put_rest done [] h = ap in_order (sym (append-nil done))
put_rest done (pair ∷ more) h =
    let joined : (done ++ pair ∷ []) ++ more ≡ done ++ pair ∷ more = append_assoc done (pair ∷ []) more in
    ap (λ members. put_pairs members more) (put_last done pair more h) ∙ (put_rest (done ++ pair ∷ []) more (subst HasAscendingNames (sym joined) h) ∙ ap in_order joined)

read_in_order : (pairs : Pairs) → pairs_of (in_order pairs) ≡ Some pairs
read_in_order [] = refl
read_in_order (pair ∷ pairs) = ap (option_map (λ rest. pair ∷ rest)) (read_in_order pairs)

-- they are read as they were
pub pairs_back : (pairs : Pairs) → HasAscendingNames pairs → pairs_of (put_pairs no_members pairs) ≡ Some pairs
pairs_back pairs h = ap pairs_of (put_rest [] pairs h) ∙ read_in_order pairs
