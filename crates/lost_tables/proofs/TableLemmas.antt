-- What four maps of lists keep is what the tables keep.
use Rattle.std.proofs.Common.{◌≡◌, ℕ, Bool, true, false, Option, None, Some, List, refl, subst}
use Rattle.std.specs.HashMap.{get, get_by_text}
use Rattle.std.specs.Prelude.{if◌then◌else◌, IfSome}
use Rattle.std.proofs.lemmas.Bool.{false≢true}
use Rattle.lost_spec.specs.Text.{Text}
use Rattle.lost_spec.specs.Service.{service_text}
use Rattle.lost_spec.specs.Mapping.{Mapping}
use Rattle.lost_spec.specs.Book.{Identity, identity_of, is_key, same_identity}
use Rattle.lost_tables.specs.declared.tables.Tables.{Tables}
use Rattle.lost_tables.specs.Lists.{Stands, IsUnlisted, KeepsOtherNumbers, KeepsUnder, under_text, under_identity}
use Rattle.lost_tables.specs.Lookup.{ByIdentity, ByKey, ByService, ByDefault, Keeps, KeepsOthers, IsFullyListed, IsNowhereListed, IsListedAtMostAs, default_text}

-- what stands where a test passes
there_if : {X : Type 0} (b : Bool) (x : X) (P : X → Type 0) → IfSome (if b then Some x else None) P → b ≡ true → P x
there_if true x P h passes = h
there_if false x P h passes = absurd (false≢true passes)

kept_if : {X : Type 0} (o : Option X) (f g : X → List ℕ) (n : ℕ) → IfSome o (λ x. KeepsUnder x f g)
    → IfSome o (λ x. Stands n (f x)) → IfSome o (λ x. Stands n (g x))
kept_if None f g n keeps h = h
kept_if (Some x) f g n keeps h = keeps n h

kept_all : {X : Type 0} (o : Option X) (f g : X → List ℕ) (n : ℕ) → ((x : X) → Stands n (f x) → Stands n (g x))
    → IfSome o (λ x. Stands n (f x)) → IfSome o (λ x. Stands n (g x))
kept_all None f g n keeps h = h
kept_all (Some x) f g n keeps h = keeps x h

module _ (old new : Tables) where
  pub keeps_others : (gone : ℕ) → KeepsOtherNumbers gone (under_identity old.identities) (under_identity new.identities)
      → KeepsOtherNumbers gone (under_text old.keys) (under_text new.keys)
      → KeepsOtherNumbers gone (under_text old.services) (under_text new.services)
      → KeepsOtherNumbers gone (under_text old.defaults) (under_text new.defaults) → KeepsOthers gone old new
  keeps_others gone identities keys services defaults (ByIdentity identity) number other h = identities identity number other h
  keeps_others gone identities keys services defaults (ByKey key) number other h = keys key number other h
  keeps_others gone identities keys services defaults (ByService service) number other h = services (service_text service) number other h
  keeps_others gone identities keys services defaults (ByDefault service) number other h = defaults (service_text service) number other h

  -- what is noted of a mapping stays where nothing is taken away from what it is known by
  pub still_noted : (m : Mapping) (number : ℕ) (identity : Identity) (key : Option Text) (service : Text) (standing : Option Text)
      → identity ≡ identity_of m → key ≡ m.key → service ≡ service_text m.service → standing ≡ default_text m
      → KeepsUnder identity (under_identity old.identities) (under_identity new.identities)
      → IfSome key (λ key. KeepsUnder key (under_text old.keys) (under_text new.keys))
      → KeepsUnder service (under_text old.services) (under_text new.services)
      → IfSome standing (λ text. KeepsUnder text (under_text old.defaults) (under_text new.defaults))
      → IsFullyListed old m number → IsFullyListed new m number
  still_noted m number identity key service standing is_identity is_key is_service is_standing identities keys services defaults noted = record {
    by_identity = subst (λ i. KeepsUnder i (under_identity old.identities) (under_identity new.identities)) is_identity identities number noted.by_identity;
    by_key = kept_if m.key (under_text old.keys) (under_text new.keys) number
        (subst (λ o. IfSome o (λ key. KeepsUnder key (under_text old.keys) (under_text new.keys))) is_key keys) noted.by_key;
    by_service = subst (λ text. KeepsUnder text (under_text old.services) (under_text new.services)) is_service services number noted.by_service;
    by_default = λ is_default. there_if m.is_default (service_text m.service)
        (λ text. KeepsUnder text (under_text old.defaults) (under_text new.defaults))
        (subst (λ o. IfSome o (λ text. KeepsUnder text (under_text old.defaults) (under_text new.defaults))) is_standing defaults)
        is_default number (noted.by_default is_default);
    well_formed = noted.well_formed;
  }

  -- and where all stays
  pub noted_kept : Keeps old new → (m : Mapping) (number : ℕ) → IsFullyListed old m number → IsFullyListed new m number
  noted_kept keeps m number noted = record {
    by_identity = keeps (ByIdentity (identity_of m)) number noted.by_identity;
    by_key = kept_all m.key (under_text old.keys) (under_text new.keys) number (λ key. keeps (ByKey key) number) noted.by_key;
    by_service = keeps (ByService m.service) number noted.by_service;
    by_default = λ is_default. keeps (ByDefault m.service) number (noted.by_default is_default);
    well_formed = noted.well_formed;
  }

if_beside_none : {X : Type 0} (o : Option X) (P : X → Type 0) → IfSome o (λ x. false ≡ false → P x) → IfSome o P
if_beside_none None P h = h
if_beside_none (Some x) P h = h refl

at_its_own : {X : Type 0} (b : Bool) (x : X) (P : X → Type 0) → IfSome (if b then Some x else None) P → IfSome (if b then Some x else None) (λ y. P x)
at_its_own true x P h = h
at_its_own false x P h = h

beside_its_own : {X : Type 0} (b : Bool) (x : X) (P Q : X → Type 0) → IfSome (if b then Some x else None) (λ y. Q y → P y)
    → IfSome (if b then Some x else None) (λ y. Q y → P x)
beside_its_own true x P Q h = h
beside_its_own false x P Q h = h

module _ (new : Tables) where
  -- a number that was taken away from all that a mapping is known by
  pub nowhere : (m : Mapping) (number : ℕ) (identity : Identity) (key : Option Text) (service : Text) (standing : Option Text)
      → identity ≡ identity_of m → key ≡ m.key → service ≡ service_text m.service → standing ≡ default_text m
      → IsUnlisted number (get same_identity new.identities identity)
      → IfSome key (λ text. is_key None text ≡ false → IsUnlisted number (get_by_text new.keys text))
      → (is_key None service ≡ false → IsUnlisted number (get_by_text new.services service))
      → IfSome standing (λ text. is_key None text ≡ false → IsUnlisted number (get_by_text new.defaults text))
      → IsNowhereListed new m number
  nowhere m number identity key service standing is_identity is_key is_service is_standing identities keys services defaults = record {
    by_identity = subst (λ i. IsUnlisted number (get same_identity new.identities i)) is_identity identities;
    by_key = subst (λ o. IfSome o (λ text. IsUnlisted number (get_by_text new.keys text))) is_key
        (if_beside_none key (λ text. IsUnlisted number (get_by_text new.keys text)) keys);
    by_service = subst (λ text. IsUnlisted number (get_by_text new.services text)) is_service (services refl);
    by_default = at_its_own m.is_default (service_text m.service) (λ text. IsUnlisted number (get_by_text new.defaults text))
        (subst (λ o. IfSome o (λ text. IsUnlisted number (get_by_text new.defaults text))) is_standing
        (if_beside_none standing (λ text. IsUnlisted number (get_by_text new.defaults text)) defaults));
  }

  -- and one that was taken away from what another mapping is not known by
  pub at_most_as : (remaining gone : Mapping) (number : ℕ) (identity same : Identity) (key kept : Option Text) (service other : Text) (standing staying : Option Text)
      → identity ≡ identity_of gone → same ≡ identity_of remaining → key ≡ gone.key → kept ≡ remaining.key
      → service ≡ service_text gone.service → other ≡ service_text remaining.service → standing ≡ default_text gone → staying ≡ default_text remaining
      → (same_identity identity same ≡ false → IsUnlisted number (get same_identity new.identities identity))
      → IfSome key (λ text. is_key kept text ≡ false → IsUnlisted number (get_by_text new.keys text))
      → (is_key (Some other) service ≡ false → IsUnlisted number (get_by_text new.services service))
      → IfSome standing (λ text. is_key staying text ≡ false → IsUnlisted number (get_by_text new.defaults text))
      → IsListedAtMostAs new remaining gone number
  at_most_as remaining gone number identity same key kept service other standing staying is_identity is_same is_keyed is_kept is_service is_other is_standing is_staying identities keys services defaults = record {
    by_identity = subst (λ i. same_identity i (identity_of remaining) ≡ false → IsUnlisted number (get same_identity new.identities i)) is_identity
        (subst (λ s. same_identity identity s ≡ false → IsUnlisted number (get same_identity new.identities identity)) is_same identities);
    by_key = subst (λ o. IfSome o (λ text. is_key remaining.key text ≡ false → IsUnlisted number (get_by_text new.keys text))) is_keyed
        (subst (λ s. IfSome key (λ text. is_key s text ≡ false → IsUnlisted number (get_by_text new.keys text))) is_kept keys);
    by_service = subst (λ text. is_key (Some (service_text remaining.service)) text ≡ false → IsUnlisted number (get_by_text new.services text)) is_service
        (subst (λ s. is_key (Some s) service ≡ false → IsUnlisted number (get_by_text new.services service)) is_other services);
    by_default = beside_its_own gone.is_default (service_text gone.service) (λ text. IsUnlisted number (get_by_text new.defaults text))
        (λ text. is_key (default_text remaining) text ≡ false)
        (subst (λ o. IfSome o (λ text. is_key (default_text remaining) text ≡ false → IsUnlisted number (get_by_text new.defaults text))) is_standing
        (subst (λ s. IfSome standing (λ text. is_key s text ≡ false → IsUnlisted number (get_by_text new.defaults text))) is_staying defaults));
  }
