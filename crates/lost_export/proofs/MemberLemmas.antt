-- What members that are put in from the last to the first make.
use Rattle.std.proofs.Common.{◌≡◌, Option, None, Some, codes, refl}
use Rattle.serde_json.specs.Data.{Data, Members, no_members, member, put}
use Rattle.lost_spec.specs.Text.{Text}
use Rattle.lost_export.specs.Export.{member_if}
use Rattle.lost_export.specs.Put.{put_if}

module _ (uri source_id source service : Data) where
  abbrev pub put_last : Members
  put_last = put (codes "source") source (put (codes "sourceId") source_id (put (codes "uri") uri no_members))

  abbrev pub last : Members
  last = member (codes "source") source (member (codes "sourceId") source_id (member (codes "uri") uri no_members))

  -- the members from `service` on
  pub from_service : (dialled boundary : Option Data)
      → put (codes "service") service (put_if (codes "serviceBoundary") boundary (put_if (codes "serviceNumber") dialled put_last))
      ≡ member (codes "service") service (member_if (codes "serviceBoundary") boundary (member_if (codes "serviceNumber") dialled last))
  from_service None None = refl
  from_service None (Some boundary) = refl
  from_service (Some dialled) None = refl
  from_service (Some dialled) (Some boundary) = refl

-- the members before `service`
pub before_service : (service updated expires : Data) (rest : Members) (key names mark : Option Data)
    → put_if (codes "default") mark (put_if (codes "displayName") names (put (codes "expires") expires (put_if (codes "key") key (put (codes "lastUpdated") updated (member (codes "service") service rest)))))
    ≡ member_if (codes "default") mark (member_if (codes "displayName") names (member (codes "expires") expires (member_if (codes "key") key (member (codes "lastUpdated") updated (member (codes "service") service rest)))))
before_service service updated expires rest None None None = refl
before_service service updated expires rest None None (Some mark) = refl
before_service service updated expires rest None (Some names) None = refl
before_service service updated expires rest None (Some names) (Some mark) = refl
before_service service updated expires rest (Some key) None None = refl
before_service service updated expires rest (Some key) None (Some mark) = refl
before_service service updated expires rest (Some key) (Some names) None = refl
before_service service updated expires rest (Some key) (Some names) (Some mark) = refl

-- a member whose value is there
pub put_there : (name : Text) (value : Option Data) (there : Data) (before after : Members) → value ≡ Some there → after ≡ put name there before → after ≡ put_if name value before
put_there name None there before after is put = cc
put_there name (Some value) there before after is was = cc
