use Rattle.lost_tape.proofs.reading.read_line.Goals as goal

pub returns-in-Some : goal.returns-in-Some
returns-in-Some c = (c.in-Some.ensures.no_desk_line, c.in-Some.ensures.request)
