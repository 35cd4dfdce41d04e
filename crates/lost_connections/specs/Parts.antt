-- What a clause reads of the replies of a connection.
use Rattle.lost_connections.specs.declared.replies.Replies.{Replies}
use Rattle.lost_connections.specs.Replies.{Replied}

abbrev pub replied_of : Replies → Replied
replied_of r = record { unsent = r.unsent; counts = r.counts; most = r.most_lines }
