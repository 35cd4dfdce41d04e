-- The line of a withdrawal says to withdraw.
use Rattle.std.proofs.Common.{◌≡◌, ◌≤◌, Bool, true, false, if◌then◌else◌, Some, None, Result, Ok, Err, IfOk, arith, refl, sym, ap, ◌∙◌, subst}
use Rattle.std.specs.Str.{IsUtf8}
use Rattle.std.proofs.lemmas.Str.{is_utf8-from_IsUtf8}
use Rattle.serde_json.specs.Data.{Data, depth}
use Rattle.serde_json.specs.Read.{read, max_depth}
use Rattle.serde_json.specs.Written.{has_float, compact_text}
use Rattle.lost_spec.specs.Text.{Text}
use Rattle.lost_spec.specs.Moment.{Stamp, is_stamp, stamp_of}
use Rattle.lost_spec.specs.Book.{Identity, Withdraw}
use Rattle.lost_reading.specs.Members.{tree_of}
use Rattle.lost_reading.specs.Desk.{Stage, withdrawal, order_in, desk_line}
use Rattle.lost_export.specs.Export.{withdraw_data, withdraw_json}
use Rattle.lost_export.specs.ReadBack.{WithdrawalReadsBack}
use Rattle.lost_export.specs.Withdrawn.{IsWithdrawal}

-- ---- the text

no_float : (identity : Identity) (stamp : Stamp) → has_float (withdraw_data identity stamp) ≡ false
no_float identity stamp = refl

-- what is printed of its tree
pub withdrawal_printed : (identity : Identity) (stamp : Stamp) (tree : Data) (json : Text) → tree ≡ withdraw_data identity stamp → (has_float tree ≡ false → json ≡ compact_text tree) → json ≡ withdraw_json identity stamp
unfolding withdraw_json
withdrawal_printed identity stamp tree json is printed = printed (ap has_float is ∙ no_float identity stamp) ∙ ap compact_text is

few : 2 ≤ 127
few = omega arith

not_deep : (identity : Identity) (stamp : Stamp) → depth (withdraw_data identity stamp) ≤ 127
not_deep identity stamp = few

-- ---- what the tree orders

order_of-withdraw : (identity : Identity) (stamp : Stamp) → order_in (withdraw_data identity stamp) ≡ Some (withdrawal identity.source identity.source_id stamp.text)
order_of-withdraw identity stamp = refl

-- a stamp that its text spells
spelled : (text : Text) (stamp : Stamp) (good : Bool) → is_stamp text ≡ good → (if good then Some (stamp_of text) else None) ≡ Some stamp → (is_stamp text ≡ true) × (stamp_of text ≡ stamp)
spelled text stamp true is read = (is, cc)
spelled text stamp false is read = absurd (cc)

accepted : (identity : Identity) (stamp : Stamp) → IsWithdrawal identity stamp → withdrawal identity.source identity.source_id stamp.text ≡ Ok (Stage (Withdraw identity stamp))
accepted identity stamp known =
    let good = spelled stamp.text stamp (is_stamp stamp.text) refl known.stamp_is in
    rw (known.source_is, known.source_id_is, good.0, known.lower) (ap (λ (at : Stamp). Ok (Stage (Withdraw identity at))) good.1)

-- ---- what the line orders

of_line : (identity : Identity) (stamp : Stamp) → IsWithdrawal identity stamp → IsUtf8 (withdraw_json identity stamp) → read (withdraw_json identity stamp) ≡ Some (withdraw_data identity stamp) → WithdrawalReadsBack identity stamp
unfolding desk_line tree_of
of_line identity stamp known utf8 reads =
    rw (is_utf8-from_IsUtf8 (withdraw_json identity stamp) utf8, reads) (order_of-withdraw identity stamp ∙ ap Some (accepted identity stamp known))

-- what is known of the bytes of the tree
pub withdrawal_reads_back : {Bytes Fault : Type 0} (identity : Identity) (stamp : Stamp) (tree : Data) (items : Bytes → Text) (result : Result Bytes Fault) → IsWithdrawal identity stamp → tree ≡ withdraw_data identity stamp
    → IfOk result (λ bytes. has_float tree ≡ false → items bytes ≡ compact_text tree) → IfOk result (λ bytes. IsUtf8 (items bytes)) → IfOk result (λ bytes. depth tree ≤ max_depth → read (items bytes) ≡ Some tree)
    → IfOk result (λ bytes. WithdrawalReadsBack identity stamp)
withdrawal_reads_back identity stamp tree items (Ok bytes) known is printed utf8 reads =
    let same = withdrawal_printed identity stamp tree (items bytes) is printed in
    let shallow = subst (λ value. depth value ≤ max_depth) (sym is) (not_deep identity stamp) in
    of_line identity stamp known (subst IsUtf8 same utf8) (ap read (sym same) ∙ (reads shallow ∙ ap Some is))
withdrawal_reads_back identity stamp tree items (Err fault) known is printed utf8 reads = tt
