use Rattle.lost_desk.specs.States.{all_edits}
use Rattle.lost_desk.proofs.desk.Desk.commit.Given as goal

-- the history becomes all edits
abbrev pub ghosts-announce : goal.ghosts-announce
ghosts-announce g a = record { list = all_edits a._proof_copies.now a._proof_queue.now.items }
