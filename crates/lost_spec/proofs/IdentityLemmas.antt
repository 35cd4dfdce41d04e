-- The tests of identities decide whether they are the same.
use Rattle.std.specs.Prelude.{◌≡◌, ◌≢◌, false}
use Rattle.std.specs.Bool.{Decides}
use Rattle.std.specs.Cmp.Lexicographic.{bytes_decides}
use Rattle.std.proofs.Common.{ap}
use Rattle.std.proofs.lemmas.Bool.Decides.{Decides-like, Decides-and, not_from_Decides}
use Rattle.lost_spec.specs.Text.{same_text}
use Rattle.lost_spec.specs.Mapping.{Mapping}
use Rattle.lost_spec.specs.Book.{Identity, identity_of, has_identity, same_identity}

-- the test of two identities decides whether they are one
pub same_identity-Decides : (a b : Identity) → Decides (same_identity a b) (a ≡ b)
same_identity-Decides a b =
    Decides-like (same_identity a b)
    (λ same i. record { source = same.0 i; source_id = same.1 i })
    (λ same. (ap (λ (id : Identity). id.source) same, ap (λ (id : Identity). id.source_id) same))
    (Decides-and (same_text a.source b.source) (same_text a.source_id b.source_id) (bytes_decides a.source b.source) (bytes_decides a.source_id b.source_id))

-- identities that fail the test are two
pub two_identities : (a b : Identity) → same_identity a b ≡ false → a ≢ b
two_identities a b = not_from_Decides (same_identity a b) (same_identity-Decides a b)

-- the test of a mapping's identity decides whether it has that identity
pub has_identity-Decides : (m : Mapping) (id : Identity) → Decides (has_identity m id) (identity_of m ≡ id)
has_identity-Decides m id = same_identity-Decides (identity_of m) id

-- a mapping that fails that test has another identity
pub other_identity : (m : Mapping) (id : Identity) → has_identity m id ≡ false → identity_of m ≢ id
other_identity m id = two_identities (identity_of m) id
