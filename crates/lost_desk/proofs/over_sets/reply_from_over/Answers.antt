-- What is kept stays right for the longer list, and what is then kept is right for it.
use Rattle.std.proofs.Common.{rules, ◌≡◌, ◌≤◌, length, sym, subst}
use Rattle.lost_spec.specs.Laws.{BeginsWith}
use Rattle.lost_desk.specs.Sets.{AreRightFor}
use Rattle.lost_desk.proofs.ListLemmas.{begins_whole}
use Rattle.lost_desk.proofs.SetLemmas.{all_stay_right, right_in_book, all_right_then}
use Rattle.lost_desk.proofs.over_sets.reply_from_over.Goals as goal

pub reply_over_sets-requires : goal.reply_over_sets-requires
reply_over_sets-requires g c =
    let front = c.args.version.now.front.list in
    let limits = c.args.version.now.book.limits in
    let keeps = g.S.PlaceSets.keeps c.args.sets.now in
    let fits : length c.learn.new.self.list ≤ length front = search rules in
    let whole : c.learn.new.self.list ≡ front = begins_whole front c.learn.new.self.list c.learn.ensures.that fits in
    right_in_book keeps limits front c.args.version.now.book c.requires.copy.book c.requires.copy.accepted
    (all_stay_right keeps limits c.args.latest.now.list front (subst (λ l. BeginsWith l c.args.latest.now.list) whole c.learn.ensures.this) c.requires.right)

pub returns-clause-right : goal.returns-clause-right
returns-clause-right g c =
    let front = c.args.version.now.front.list in
    let limits = c.args.version.now.book.limits in
    let before = g.S.PlaceSets.keeps c.args.sets.now in
    let after = g.S.PlaceSets.keeps c.reply_over_sets.new.sets in
    let fits : length c.learn.new.self.list ≤ length front = search rules in
    let whole : c.learn.new.self.list ≡ front = begins_whole front c.learn.new.self.list c.learn.ensures.that fits in
    subst (λ l. AreRightFor after limits l) (sym whole)
    (all_right_then before after limits front c.args.version.now.book c.requires.copy.book c.requires.copy.accepted
    (all_stay_right before limits c.args.latest.now.list front (subst (λ l. BeginsWith l c.args.latest.now.list) whole c.learn.ensures.this) c.requires.right)
    c.reply_over_sets.ensures.kept)
