-- What is known of an identity and a stamp. (Own.)
use Rattle.std.specs.Prelude.{◌≡◌, IsTrue, Some}
use Rattle.lost_spec.specs.Text.{lowered}
use Rattle.lost_spec.specs.Token.{is_id}
use Rattle.lost_spec.specs.Moment.{Stamp, read_stamp}
use Rattle.lost_spec.specs.Mapping.{is_source}
use Rattle.lost_spec.specs.Book.{Identity}

-- the identity is a source in lower case and a sourceId, and the stamp is that of its text
pub record IsWithdrawal (identity : Identity) (stamp : Stamp) : Type 0 where
  pub source_is : IsTrue (is_source identity.source)
  pub lower : lowered identity.source ≡ identity.source
  pub source_id_is : IsTrue (is_id identity.source_id)
  pub stamp_is : read_stamp stamp.text ≡ Some stamp
