-- By what a mapping is known, and which numbers are listed under it.
use Rattle.std.specs.Prelude.{◌≡◌, ℕ, Bool, true, false, ◌&&◌, if◌then◌else◌, Option, None, Some, List, IfSome, IsTrue, nat_eq, map, string_bytes}
use Rattle.std.specs.List.{list_any}
use Rattle.lost_spec.specs.Text.{Text, same_text}
use Rattle.lost_spec.specs.Service.{Service, service_text, is_service}
use Rattle.lost_spec.specs.Mapping.{Mapping}
use Rattle.std.specs.HashMap.{get, get_by_text}
use Rattle.lost_spec.specs.Book.{Identity, identity_of, is_key, same_identity}
use Rattle.lost_tables.specs.Lists.{Stands, IsUnlisted, KeepsLists, KeepsOtherNumbers, under_text, under_identity}
use Rattle.lost_tables.specs.declared.tables.Tables.{Tables}

-- by what a mapping is known: its identity, its key, its service, and its service where it is a default (own)
pub data LookupKey : Type 0 where
  ByIdentity : (identity : Identity) → LookupKey
  ByKey : (key : Text) → LookupKey
  ByService : (service : Service) → LookupKey
  ByDefault : (service : Service) → LookupKey

-- the numbers that are listed under a note; none where there is no list
abbrev pub numbers_of : Tables → LookupKey → List ℕ
numbers_of tables (ByIdentity identity) = under_identity tables.identities identity
numbers_of tables (ByKey key) = under_text tables.keys key
numbers_of tables (ByService service) = under_text tables.services (service_text service)
numbers_of tables (ByDefault service) = under_text tables.defaults (service_text service)

-- the list under a note, where there is one
abbrev pub list_of : Tables → LookupKey → Option (List ℕ)
list_of tables (ByIdentity identity) = get same_identity tables.identities identity
list_of tables (ByKey key) = get_by_text tables.keys key
list_of tables (ByService service) = get_by_text tables.services (service_text service)
list_of tables (ByDefault service) = get_by_text tables.defaults (service_text service)

-- the texts of the services that have a list, each beside its list, one after another
abbrev pub service_rows : Tables → List (Text × List ℕ)
service_rows tables = map (λ row. (string_bytes row.0, row.1)) tables.services.entries

-- the number is listed under the note
abbrev pub IsListed : Tables → LookupKey → ℕ → Type 0
IsListed tables note number = Stands number (numbers_of tables note)

-- all that was listed is
abbrev pub Keeps : Tables → Tables → Type 0
Keeps old new = KeepsLists (numbers_of old) (numbers_of new)

-- all that was listed of other numbers is
abbrev pub KeepsOthers : ℕ → Tables → Tables → Type 0
KeepsOthers gone old new = KeepsOtherNumbers gone (numbers_of old) (numbers_of new)

-- the number is listed under each note of the mapping, whose service is one (RFC 5031, section 3)
pub record IsFullyListed (tables : Tables) (mapping : Mapping) (number : ℕ) : Type 0 where
  pub by_identity : IsListed tables (ByIdentity (identity_of mapping)) number
  pub by_key : IfSome mapping.key (λ key. IsListed tables (ByKey key) number)
  pub by_service : IsListed tables (ByService mapping.service) number
  pub by_default : mapping.is_default ≡ true → IsListed tables (ByDefault mapping.service) number
  pub well_formed : IsTrue (is_service mapping.service)

-- the text of a mapping's service, where the mapping is a default
abbrev pub default_text : Mapping → Option Text
default_text mapping = if mapping.is_default then Some (service_text mapping.service) else None

-- the number is listed under no note of the mapping
pub record IsNowhereListed (tables : Tables) (mapping : Mapping) (number : ℕ) : Type 0 where
  pub by_identity : IsUnlisted number (list_of tables (ByIdentity (identity_of mapping)))
  pub by_key : IfSome mapping.key (λ key. IsUnlisted number (list_of tables (ByKey key)))
  pub by_service : IsUnlisted number (list_of tables (ByService mapping.service))
  pub by_default : IfSome (default_text mapping) (λ text. IsUnlisted number (list_of tables (ByDefault mapping.service)))

-- the number is listed under no note of the mapping that another mapping does not have
pub record IsListedAtMostAs (tables : Tables) (remaining gone : Mapping) (number : ℕ) : Type 0 where
  pub by_identity : same_identity (identity_of gone) (identity_of remaining) ≡ false → IsUnlisted number (list_of tables (ByIdentity (identity_of gone)))
  pub by_key : IfSome gone.key (λ key. is_key remaining.key key ≡ false → IsUnlisted number (list_of tables (ByKey key)))
  pub by_service : same_text (service_text remaining.service) (service_text gone.service) ≡ false → IsUnlisted number (list_of tables (ByService gone.service))
  pub by_default : IfSome (default_text gone) (λ text. is_key (default_text remaining) text ≡ false → IsUnlisted number (list_of tables (ByDefault gone.service)))

-- a row is that of a service, and the number is in its list
abbrev pub is_row_with : Service → ℕ → Text × List ℕ → Bool
is_row_with service number row = same_text (service_text service) row.0 && list_any (nat_eq number) row.1

-- each number that is listed under a service is in the list of a row of that service
abbrev pub ServicesAreWalked : Type 0
ServicesAreWalked = (tables : Tables) (service : Service) (number : ℕ) → IsListed tables (ByService service) number
    → list_any (is_row_with service number) (service_rows tables) ≡ true
