-- What an `Edit` of the code stands for.
use Rattle.lost_mapping.specs.declared.edit.Edit.{Edit as CodeEdit}
use Rattle.lost_mapping.specs.declared.edit.Edit.TheVariants.{Publish as KeptPublish, Replace as KeptReplace, Withdraw as KeptWithdraw}
use Rattle.lost_spec.specs.Book.{Edit, Publish, Replace, Withdraw}

-- an edit by the map desk (own)
abbrev pub edit_of : CodeEdit → Edit
edit_of (KeptPublish mapping) = Publish mapping
edit_of (KeptReplace mapping) = Replace mapping
edit_of (KeptWithdraw identity stamp) = Withdraw identity stamp
