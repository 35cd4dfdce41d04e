use Rattle.lost_writing.proofs.writing.replies.write_tree.Goals as goal

pub returns-in-BadRequest : goal.returns-in-BadRequest
returns-in-BadRequest c = rw c.in-BadRequest.is c.write_error.ensures
