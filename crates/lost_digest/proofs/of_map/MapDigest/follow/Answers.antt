-- What an edit does to the digest: it exchanges the mapping held for the new one, or takes it away, or changes nothing where none is held.
use Rattle.std.proofs.Common.{◌≡◌, Some, None, rules, sym, ◌∙◌, ap}
use Rattle.lost_spec.specs.Book.{held, identity_of, replaced, without}
use Rattle.lost_digest.specs.Digest.{map_digest, with_mapping, without_mapping}
use Rattle.lost_digest.proofs.Summing.{digest_replaced, digest_withdrawn, nothing_replaced, nothing_without}
use Rattle.lost_digest.proofs.of_map.MapDigest.follow.Goals as goal

pub returns-in-Some : goal.returns-in-Some
returns-in-Some g c =
    let book = g.R.Register.book c.args.book.now in
    let new = c.in-Replace.mapping in
    let old = c.in-Some.old.now in
    let there : held book (identity_of new) ≡ Some old = search rules in
    let digest : c.add-in-Some.new.self ≡ with_mapping (without_mapping (map_digest book.mappings) old) new = search rules in
    let whole : c.add-in-Some.new.self ≡ map_digest (replaced new book.mappings) = digest ∙ digest_replaced book.mappings new old there in
    rw c.in-Replace.is whole

pub returns-in_default : goal.returns-in_default
returns-in_default g c =
    let book = g.R.Register.book c.args.book.now in
    let new = c.in-Replace.mapping in
    let none : held book (identity_of new) ≡ None = search rules in
    let whole : c.args.self.now ≡ map_digest (replaced new book.mappings) = c.requires ∙ ap map_digest (sym (nothing_replaced new book.mappings none)) in
    rw c.in-Replace.is whole

pub returns-in-Some-held : goal.returns-in-Some-held
returns-in-Some-held g c =
    let book = g.R.Register.book c.args.book.now in
    let id = c.in-Withdraw.identity in
    let old = c.in-Some-held.old.now in
    let there : held book id ≡ Some old = search rules in
    let digest : c.remove-in-Some-held.new.self ≡ without_mapping (map_digest book.mappings) old = search rules in
    let whole : c.remove-in-Some-held.new.self ≡ map_digest (without id book.mappings) = digest ∙ digest_withdrawn book.mappings id old there in
    rw c.in-Withdraw.is whole

pub returns-in_default-held : goal.returns-in_default-held
returns-in_default-held g c =
    let book = g.R.Register.book c.args.book.now in
    let id = c.in-Withdraw.identity in
    let none : held book id ≡ None = search rules in
    let whole : c.args.self.now ≡ map_digest (without id book.mappings) = c.requires ∙ ap map_digest (sym (nothing_without id book.mappings none)) in
    rw c.in-Withdraw.is whole
