-- A reader that enters a copy and answers from it keeps its promises: by hand, since the search takes five times as long.
use Rattle.std.proofs.Common.{◌≡◌, IfOk, sym, subst, ◌∙◌}
use Rattle.std.proofs.lemmas.Result.{IfOk-weaker}
use Rattle.left_right.specs.Sides.{view}
use Rattle.lost_spec.specs.Laws.{BeginsWith}
use Rattle.lost_history.proofs.Beginnings.{begins_itself}
use Rattle.lost_json.specs.Line.{line_reply}
use Rattle.lost_desk.specs.Seen.{seen_book}
use Rattle.lost_desk.specs.Sets.{AreRightFor}
use Rattle.lost_desk.specs.States.{reader_seen}
use Rattle.lost_desk.proofs.EnterLemmas.{HasEntered, copy_is_of, has_entered, stays_reader, begins_then, seen_book_is, is_one_list, right_then, with_book, has_come_back}
use Rattle.lost_desk.proofs.StepLemmas.{enters}
use Rattle.lost_desk.proofs.reader.Reader.reply_line_over.Given as given
use Rattle.lost_desk.proofs.reader.Reader.reply_line_over.Goals as goal

pub enter_as-requires : goal.enter_as-requires
enter_as-requires g c = enters c.take_out-seat.result.place.id (view c.take_out-seat.result.place)

pub reply_from_over-reply-requires-clause-opening : goal.reply_from_over-reply-requires-clause-opening
reply_from_over-reply-requires-clause-opening g c = rw c.get.ensures
    (copy_is_of (λ s. view s.place) c.self.inside.seat c.take_out-seat.result c.self.inside.latest c.in-Ok.reading.part.value (view c.in-Ok.reading.place) c.take_out-seat.ensures.taken c.self.invariant c.in-Ok.ensures.1).0

pub reply_from_over-reply-requires-clause-copy : goal.reply_from_over-reply-requires-clause-copy
reply_from_over-reply-requires-clause-copy g c = rw c.get.ensures c.in-Ok.ensures.1.copy

-- what the steps to the answer tell
entered : (g : given.Over) (c : goal.After-put_back g)
    → HasEntered c.in-Ok.reading.part.value c.self.inside.latest c.reply_from_over-reply.new.latest c.args.self.now (reader_seen (λ s. view s.place) c.put_back.new.kept c.reply_from_over-reply.new.latest)
entered g c = has_entered (λ s. view s.place) c.self.inside.seat c.put_back.new.kept c.take_out-seat.result c.leave.result (view c.in-Ok.reading.place)
    c.self.inside.latest c.reply_from_over-reply.new.latest c.in-Ok.reading.part.value c.args.self.now
    c.self.view_is c.take_out-seat.ensures.taken c.put_back.ensures c.leave.ensures.1 c.self.invariant c.in-Ok.ensures.1 c.reply_from_over-reply.ensures.opening

pub invariant_of-self : goal.invariant_of-self
invariant_of-self g c = stays_reader (λ s. view s.place) c.self.inside.seat c.put_back.new.kept c.take_out-seat.result c.leave.result (view c.in-Ok.reading.place)
    c.self.inside.latest c.reply_from_over-reply.new.latest c.in-Ok.reading.part.value
    c.take_out-seat.ensures.taken c.put_back.ensures c.leave.ensures.1 c.self.invariant c.in-Ok.ensures.1 c.reply_from_over-reply.ensures.opening
    (subst (λ v. BeginsWith c.reply_from_over-reply.new.latest.list v.front.list) c.get.ensures c.reply_from_over-reply.ensures.copy)

pub returns-in-Ok-clause-reply : goal.returns-in-Ok-clause-reply
returns-in-Ok-clause-reply g c =
    let new = reader_seen (λ s. view s.place) c.put_back.new.kept c.reply_from_over-reply.new.latest in
    let copy = c.in-Ok.reading.part.value in
    with_book c.reply_from_over-reply.result (λ book reply. reply.items ≡ line_reply book c.args.name.now c.args.moment.now c.args.line.now) copy.book (seen_book new)
    (IfOk-weaker c.reply_from_over-reply.result (λ _. c.reply_from_over-reply.new.latest.list ≡ c.get.result.now.front.list) (λ _. seen_book new ≡ copy.book)
    (λ _ list. seen_book_is copy c.self.inside.latest c.reply_from_over-reply.new.latest c.args.self.now new (entered g c) (subst (λ v. c.reply_from_over-reply.new.latest.list ≡ v.front.list) c.get.ensures list)) c.reply_from_over-reply.ensures.list)
    (subst (λ v. IfOk c.reply_from_over-reply.result (λ reply. reply.items ≡ line_reply v.book c.args.name.now c.args.moment.now c.args.line.now)) c.get.ensures c.reply_from_over-reply.ensures.reply)

pub returns-in-Ok-clause-begins : goal.returns-in-Ok-clause-begins
returns-in-Ok-clause-begins g c = begins_then c.in-Ok.reading.part.value c.self.inside.latest c.reply_from_over-reply.new.latest c.args.self.now
    (reader_seen (λ s. view s.place) c.put_back.new.kept c.reply_from_over-reply.new.latest) (entered g c) c.reply_from_over-reply.ensures.begins

pub returns-in-Ok-clause-entered : goal.returns-in-Ok-clause-entered
returns-in-Ok-clause-entered g c = IfOk-weaker c.reply_from_over-reply.result _ _ (λ _ _. (entered g c).entries) c.reply_from_over-reply.ensures.list

pub returns-in-Ok-clause-entered_list : goal.returns-in-Ok-clause-entered_list
returns-in-Ok-clause-entered_list g c = IfOk-weaker c.reply_from_over-reply.result _ _
    (λ _ list. (entered g c).seen ∙ (subst (λ v. c.reply_from_over-reply.new.latest.list ≡ v.front.list) c.get.ensures list ∙ sym (entered g c).list)) c.reply_from_over-reply.ensures.list

pub returns-in-Ok-clause-one_list : goal.returns-in-Ok-clause-one_list
returns-in-Ok-clause-one_list g c = IfOk-weaker c.reply_from_over-reply.result _ _
    (λ _ list. is_one_list c.in-Ok.reading.part.value c.self.inside.latest c.reply_from_over-reply.new.latest c.args.self.now (reader_seen (λ s. view s.place) c.put_back.new.kept c.reply_from_over-reply.new.latest) (entered g c)
    (subst (λ v. c.reply_from_over-reply.new.latest.list ≡ v.front.list) c.get.ensures list)) c.reply_from_over-reply.ensures.list

pub returns-in-Ok-clause-same : goal.returns-in-Ok-clause-same
returns-in-Ok-clause-same g c = (entered g c).same

pub returns-in-Ok-clause-right : goal.returns-in-Ok-clause-right
returns-in-Ok-clause-right g c =
    let copy = c.in-Ok.reading.part.value in
    let longer = c.reply_from_over-reply.new.latest in
    let keeps = g.S.PlaceSets.keeps c.reply_from_over-reply.new.sets in
    right_then keeps copy c.self.inside.latest longer c.args.self.now (reader_seen (λ s. view s.place) c.put_back.new.kept longer) (entered g c)
    (subst (λ v. AreRightFor keeps v.book.limits longer.list) c.get.ensures c.reply_from_over-reply.ensures.right)

-- what the steps back tell
stayed : (g : given.Over) (c : goal.After-put_back-in-Err g) → reader_seen (λ s. view s.place) c.put_back-in-Err.new.kept c.self.inside.latest ≡ c.args.self.now
stayed g c = has_come_back (λ s. view s.place) c.self.inside.seat c.put_back-in-Err.new.kept c.take_out-seat.result c.in-Err.seat c.self.inside.latest c.args.self.now
    c.self.view_is c.take_out-seat.ensures.taken c.put_back-in-Err.ensures c.in-Err.ensures.1

pub returns-in-Err-clause-begins : goal.returns-in-Err-clause-begins
returns-in-Err-clause-begins g c = subst (λ s. BeginsWith s.seen c.args.self.now.seen) (sym (stayed g c)) (begins_itself c.args.self.now.seen)

pub returns-in-Err-clause-right : goal.returns-in-Err-clause-right
returns-in-Err-clause-right g c = subst (λ s. AreRightFor (g.S.PlaceSets.keeps c.args.sets.now) s.limits s.seen) (sym (stayed g c)) c.requires
