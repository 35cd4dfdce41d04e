-- The desk's replies. (Own format.)
use Rattle.std.specs.Prelude.{ℕ, ◌-◌, ◌≤◌, List, [], ◌∷◌, length, codes}
use Rattle.std.specs.List.{slice_index_or}
use Rattle.serde_json.specs.Data.{Data, number, string, object, unsigned, no_members, member}
use Rattle.lost_spec.specs.Text.{Text}
use Rattle.lost_writing.specs.declared.desk_reply.DeskReply.{DeskReply}
use Rattle.lost_writing.specs.declared.desk_reply.DeskReply.TheVariants.{Staged, Committed, Refused}
use Rattle.lost_writing.specs.Replies.{one_member, line_of}

-- the names of the refusals, from code 1 on
abbrev pub refusal_names : List Text
refusal_names =
    codes "BadLine" ∷ codes "BadSource" ∷ codes "BadSourceId" ∷ codes "BadStamp" ∷ codes "BadExpires"
    ∷ codes "BadService" ∷ codes "BadUri" ∷ codes "BadNumber" ∷ codes "BadRegion" ∷ codes "RegionMissing"
    ∷ codes "TooLarge" ∷ codes "BadKey" ∷ codes "IdentityHeld" ∷ codes "IdentityUnknown" ∷ codes "NotNewer"
    ∷ codes "KeyHeld" ∷ codes "KeyUnchanged" ∷ codes "Full" ∷ codes "EditsSpent" ∷ codes "Memory"
    ∷ codes "Withdrawn" ∷ codes "TracesFull" ∷ codes "NotKept" ∷ []

-- a number of the table of refusals: each name there has one
pub record IsCode (code : ℕ) : Type 0 where
  pub least : 1 ≤ code
  pub most : code ≤ length refusal_names

-- the name of a refusal
abbrev pub refusal_name : ℕ → Text
refusal_name code = slice_index_or refusal_names (code - 1) []

-- a refusal is one of the table
abbrev pub IsInTable : DeskReply → Type 0
IsInTable (Staged pending) = Unit {0}
IsInTable (Committed edition) = Unit {0}
IsInTable (Refused code) = IsCode code

abbrev pub desk_reply_data : DeskReply → Data
desk_reply_data (Staged pending) = one_member (codes "staged") (one_member (codes "pending") (number (unsigned pending)))
desk_reply_data (Committed edition) = one_member (codes "committed") (one_member (codes "edition") (number (unsigned edition)))
desk_reply_data (Refused code) =
    one_member (codes "refused") (object (member (codes "code") (number (unsigned code)) (member (codes "name") (string (refusal_name code)) no_members)))

-- the line of a desk's reply
unfoldable pub desk_text : DeskReply → Text
desk_text reply = line_of (desk_reply_data reply)
