-- What is found is what is there.
use Rattle.std.proofs.Common.{◌≡◌, true, not, ◌&&◌, List, [], length, Option, Some, None, Decides, sym, refl, subst, arith}
use Rattle.std.specs.List.{list_any}
use Rattle.std.proofs.lemmas.Bool.{and_parts, and_from, not-true, not_from_false}
use Rattle.lost_spec.proofs.ListLemmas.{AllByRecursion-weaker}
use Rattle.lost_spec.specs.Place.{Place}
use Rattle.lost_spec.specs.Service.{Service, same_service, chain}
use Rattle.lost_spec.specs.Moment.{Instant}
use Rattle.lost_spec.specs.Mapping.{Mapping, is_live}
use Rattle.lost_spec.specs.Book.{Book}
use Rattle.lost_spec.specs.Find.{holds, serves, at, defaults, first_with, finding, Finding, FoundHolders, FoundDefaults, FoundNothing, found, is_implemented}
use Rattle.lost_spec.specs.Laws.{Picks}
use Rattle.lost_spec.specs.FindLaws.{IsOfChain, HoldsHere, StandsBy, NoHolder, NoDefault, IsNowhere, IsWhatIsThere, FoundIsThere, NothingWhereNothingIs, NothingUnlessImplemented, IsHere, ImplementedMeansHere, HereMeansImplemented}
use Rattle.lost_spec.proofs.FilterLemmas.{nil_from_Picks, Picks-filter, none_from_filter, none_from_list_any, list_any_from_none}
use Rattle.lost_spec.proofs.ChainLemmas.{same_service-Decides, length-IsOfChain, chain-Decides, IsFirstOrNone, first_with_cuts}

-- ---- tests that decide facts

pub HoldsHere-Decides : (t : Instant) (l : Place) (u : Service) (m : Mapping) → Decides (serves m t u && (not m.is_default && holds m l)) (HoldsHere t l u m)
HoldsHere-Decides t l u m = (to, from)
  where
    to : (serves m t u && (not m.is_default && holds m l)) ≡ true → HoldsHere t l u m
    to e =
        let both = and_parts (serves m t u) (not m.is_default && holds m l) e in
        let first = and_parts (is_live m t) (same_service m.service u) both.0 in
        let second = and_parts (not m.is_default) (holds m l) both.1 in
        record { live = first.0; not_default = not-true m.is_default second.0; service = (same_service-Decides m.service u).0 first.1; place = second.1 }

    from : HoldsHere t l u m → (serves m t u && (not m.is_default && holds m l)) ≡ true
    from h =
        and_from (serves m t u) (not m.is_default && holds m l)
        (and_from (is_live m t) (same_service m.service u) h.live ((same_service-Decides m.service u).1 h.service))
        (and_from (not m.is_default) (holds m l) (not_from_false m.is_default h.not_default) h.place)

pub StandsBy-Decides : (t : Instant) (u : Service) (m : Mapping) → Decides (serves m t u && m.is_default) (StandsBy t u m)
StandsBy-Decides t u m = (to, from)
  where
    to : (serves m t u && m.is_default) ≡ true → StandsBy t u m
    to e =
        let both = and_parts (serves m t u) m.is_default e in
        let first = and_parts (is_live m t) (same_service m.service u) both.0 in
        record { live = first.0; is_default = both.1; service = (same_service-Decides m.service u).0 first.1 }

    from : StandsBy t u m → (serves m t u && m.is_default) ≡ true
    from h = and_from (serves m t u) m.is_default (and_from (is_live m t) (same_service m.service u) h.live ((same_service-Decides m.service u).1 h.service)) h.is_default

pub IsHere-Decides : (t : Instant) (s : Service) (m : Mapping) → Decides (is_live m t && list_any (λ u. same_service m.service u) (chain s)) (IsHere t s m)
IsHere-Decides t s m = (to, from)
  where
    to : (is_live m t && list_any (λ u. same_service m.service u) (chain s)) ≡ true → IsHere t s m
    to e =
        let both = and_parts (is_live m t) (list_any (λ u. same_service m.service u) (chain s)) e in
        record { live = both.0; of_chain = (chain-Decides m.service s).0 both.1 }

    from : IsHere t s m → (is_live m t && list_any (λ u. same_service m.service u) (chain s)) ≡ true
    from h = and_from (is_live m t) (list_any (λ u. same_service m.service u) (chain s)) h.live ((chain-Decides m.service s).1 h.of_chain)

-- ---- what is found

-- where nothing is found for v alone, no mapping holds the place for v, and no default stands by for v
NoHolder-from_at : (b : Book) (t : Instant) (l : Place) (v : Service) → at b t l v ≡ [] → NoHolder b t l v
NoHolder-from_at b t l v = none_from_filter (λ m. serves m t v && (not m.is_default && holds m l)) (HoldsHere-Decides t l v) b.mappings

NoDefault-from_defaults : (b : Book) (t : Instant) (v : Service) → defaults b t v ≡ [] → NoDefault b t v
NoDefault-from_defaults b t v = none_from_filter (λ m. serves m t v && m.is_default) (StandsBy-Decides t v) b.mappings

-- what a search of the chain gives, in the words of the law
finding_is_there : (b : Book) (t : Instant) (l : Place) (s : Service) (o p : Option (Service × List Mapping))
    → IsFirstOrNone (at b t l) s (length s) o → IsFirstOrNone (defaults b t) s (length s) p → IsWhatIsThere b t l s (finding o p)
finding_is_there b t l s (Some o) p first other = record {
  of_chain = first.of_chain;
  all_holders = subst (Picks (HoldsHere t l o.0) b.mappings) first.has (Picks-filter (λ m. serves m t o.0 && (not m.is_default && holds m l)) (HoldsHere-Decides t l o.0) b.mappings);
  some_holder = first.some;
  none_before = λ v c h. NoHolder-from_at b t l v (first.none_before v c h (length-IsOfChain v s c));
}
finding_is_there b t l s None (Some p) none first = record {
  of_chain = first.of_chain;
  all_defaults = subst (Picks (StandsBy t p.0) b.mappings) first.has (Picks-filter (λ m. serves m t p.0 && m.is_default) (StandsBy-Decides t p.0) b.mappings);
  some_default = first.some;
  none_before = λ v c h. NoDefault-from_defaults b t v (first.none_before v c h (length-IsOfChain v s c));
  no_holder = λ v c. NoHolder-from_at b t l v (none v c (length-IsOfChain v s c));
}
finding_is_there b t l s None None none none_either = record {
  no_holder = λ v c. NoHolder-from_at b t l v (none v c (length-IsOfChain v s c));
  no_default = λ v c. NoDefault-from_defaults b t v (none_either v c (length-IsOfChain v s c));
}

-- the law `FoundIsThere`
pub found_is_there_lem : FoundIsThere
unfolding found
found_is_there_lem b t l s =
    finding_is_there b t l s (first_with (at b t l) (chain s)) (first_with (defaults b t) (chain s))
    (first_with_cuts (at b t l) s (length s) (omega arith)) (first_with_cuts (defaults b t) s (length s) (omega arith))

-- ---- where nothing is found

-- a finding of what is there is nothing, where nothing is there
nothing_from_nowhere : (b : Book) (t : Instant) (l : Place) (s : Service) (f : Finding) → IsWhatIsThere b t l s f → IsNowhere b t l s → f ≡ FoundNothing
nothing_from_nowhere b t l s (FoundHolders u ms) there nowhere = absurd (there.some_holder (nil_from_Picks there.all_holders (nowhere.no_holder u there.of_chain)))
nothing_from_nowhere b t l s (FoundDefaults u ms) there nowhere = absurd (there.some_default (nil_from_Picks there.all_defaults (nowhere.no_default u there.of_chain)))
nothing_from_nowhere b t l s FoundNothing there nowhere = refl

-- the law `NothingWhereNothingIs`
pub nothing_where_nothing_is_lem : NothingWhereNothingIs
nothing_where_nothing_is_lem b t l s nowhere = nothing_from_nowhere b t l s (found b t l s) (found_is_there_lem b t l s) nowhere

-- ---- what is implemented

-- the law `HereMeansImplemented`
pub here_means_implemented_lem : HereMeansImplemented
unfolding is_implemented
here_means_implemented_lem b t s = none_from_list_any (λ m. is_live m t && list_any (λ u. same_service m.service u) (chain s)) (IsHere-Decides t s) b.mappings

-- the law `ImplementedMeansHere`
pub implemented_means_here_lem : ImplementedMeansHere
unfolding is_implemented
implemented_means_here_lem b t s = list_any_from_none (λ m. is_live m t && list_any (λ u. same_service m.service u) (chain s)) (IsHere-Decides t s) b.mappings

-- a holder, and a default, of a service of the chain is here
IsHere-from_HoldsHere : (t : Instant) (l : Place) (s v : Service) → IsOfChain v s → (m : Mapping) → HoldsHere t l v m → IsHere t s m
IsHere-from_HoldsHere t l s v c m h = record { live = h.live; of_chain = subst (λ u. IsOfChain u s) (sym h.service) c }

IsHere-from_StandsBy : (t : Instant) (s v : Service) → IsOfChain v s → (m : Mapping) → StandsBy t v m → IsHere t s m
IsHere-from_StandsBy t s v c m h = record { live = h.live; of_chain = subst (λ u. IsOfChain u s) (sym h.service) c }

-- the law `NothingUnlessImplemented`
pub nothing_unless_implemented_lem : NothingUnlessImplemented
nothing_unless_implemented_lem b t l s not_implemented = nothing_where_nothing_is_lem b t l s (record {
  no_holder = λ v c. AllByRecursion-weaker (λ m. ¬ IsHere t s m) (λ m. ¬ HoldsHere t l v m) (λ m none h. none (IsHere-from_HoldsHere t l s v c m h)) b.mappings (here_means_implemented_lem b t s not_implemented);
  no_default = λ v c. AllByRecursion-weaker (λ m. ¬ IsHere t s m) (λ m. ¬ StandsBy t v m) (λ m none h. none (IsHere-from_StandsBy t s v c m h)) b.mappings (here_means_implemented_lem b t s not_implemented);
})
