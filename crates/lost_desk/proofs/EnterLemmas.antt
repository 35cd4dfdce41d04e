-- What a reader has seen once it has entered a copy and answered from it; and that it has seen nothing new if it could not enter.
use Rattle.std.proofs.Common.{◌≡◌, ◌+◌, IsTrue, IfOk, OnOk, Option, Some, Result, Ok, Err, refl, ap, sym, subst, ◌∙◌}
use Rattle.lost_spec.specs.Laws.{BeginsWith}
use Rattle.lost_spec.specs.Book.{Book, is_accepted}
use Rattle.lost_spec.specs.Holders.{Entry}
use Rattle.lost_history.specs.History.{Beginning}
use Rattle.lost_desk.specs.declared.version.Version.{Version}
use Rattle.lost_desk.specs.declared.view.View.{View}
use Rattle.lost_desk.specs.Copies.{IsBookOfItsList}
use Rattle.lost_desk.specs.Rule.{IsOf, Enters}
use Rattle.lost_desk.specs.Seen.{ReaderSeen, seen_book}
use Rattle.lost_desk.specs.Sets.{AreRightFor}
use Rattle.lost_desk.specs.States.{IsSeated, IsReader, reader_seen}

-- the copy that a reader enters is of the reader's opening, and has its limits
pub copy_is_of : {Seat : Type 0} (at : Seat → View) (place : Option Seat) (seat : Seat) (latest : Beginning) (v : Version) (w : View)
    → place ≡ Some seat → IsReader at place latest → Enters (at seat) v v w → (v.front.opening ≡ latest.opening) × (v.book.limits ≡ (at seat).limits)
copy_is_of at place seat latest v w taken is entered =
    let seated : IsSeated (at seat) latest = subst (λ p. IsReader at p latest) taken is in
    let of : IsOf v (at seat) = entered.known seated.known in
    (sym of.opening ∙ seated.opening, sym of.limits)

-- a reader that was `old`, whose list was `latest`, has entered the copy `v`; its list is now `longer`
pub record HasEntered (v : Version) (latest longer : Beginning) (old new : ReaderSeen) : Type 0 where
  pub copy : IsBookOfItsList v
  pub before : old.seen ≡ latest.list
  pub seen : new.seen ≡ longer.list
  pub limits : new.limits ≡ v.book.limits
  pub same : (new.opening ≡ old.opening) × (new.limits ≡ old.limits)
  pub list : new.entered ≡ v.front.list
  pub entries : new.entries ≡ old.entries + 1

pub has_entered : {Seat : Type 0} (at : Seat → View) (place next : Option Seat) (seat after : Seat) (w : View) (latest longer : Beginning) (v : Version) (old : ReaderSeen)
    → reader_seen at place latest ≡ old → place ≡ Some seat → next ≡ Some after → at after ≡ w
    → IsReader at place latest → Enters (at seat) v v w → longer.opening ≡ latest.opening
    → HasEntered v latest longer old (reader_seen at next longer)
has_entered at place next seat after w latest longer v old seen taken put here is entered opening =
    let limits : (at after).limits ≡ (at seat).limits = ap (λ x. x.limits) here ∙ entered.kept.1 in
    subst (λ p. HasEntered v latest longer old (reader_seen at p longer)) (sym put)
    (subst (λ s. HasEntered v latest longer s (reader_seen at (Some after) longer)) (subst (λ p. reader_seen at p latest ≡ old) taken seen) (record {
      copy = entered.copy;
      before = refl;
      seen = refl;
      limits = limits ∙ sym (copy_is_of at place seat latest v w taken is entered).1;
      same = (opening, limits);
      list = ap (λ x. x.front.list) here ∙ ap (λ f. f.list) entered.seen;
      entries = ap (λ x. x.entries) here ∙ entered.entries;
    }))

-- it is still a reader
pub stays_reader : {Seat : Type 0} (at : Seat → View) (place next : Option Seat) (seat after : Seat) (w : View) (latest longer : Beginning) (v : Version)
    → place ≡ Some seat → next ≡ Some after → at after ≡ w → IsReader at place latest → Enters (at seat) v v w
    → longer.opening ≡ latest.opening → BeginsWith longer.list v.front.list → IsReader at next longer
stays_reader at place next seat after w latest longer v taken put here is entered opening begins =
    let seated : IsSeated (at seat) latest = subst (λ p. IsReader at p latest) taken is in
    subst (λ p. IsReader at p longer) (sym put) (subst (λ x. IsSeated x longer) (sym here) (record {
      known = entered.kept.0 ∙ seated.known;
      opening = ap (λ f. f.opening) entered.seen ∙ ((copy_is_of at place seat latest v w taken is entered).0 ∙ sym opening);
      begins = subst (λ f. BeginsWith longer.list f.list) (sym entered.seen) begins;
    }))

pub begins_then : (v : Version) (latest longer : Beginning) (old new : ReaderSeen) → HasEntered v latest longer old new
    → BeginsWith longer.list latest.list → BeginsWith new.seen old.seen
begins_then v latest longer old new entered begins = rw (entered.seen, entered.before) begins

-- where its list is that of the copy, its book is the copy's, and its list is accepted
pub seen_book_is : (v : Version) (latest longer : Beginning) (old new : ReaderSeen) → HasEntered v latest longer old new
    → longer.list ≡ v.front.list → seen_book new ≡ v.book
seen_book_is v latest longer old new entered list = rw (entered.limits, entered.seen, list) (sym entered.copy.book)

pub is_one_list : (v : Version) (latest longer : Beginning) (old new : ReaderSeen) → HasEntered v latest longer old new
    → longer.list ≡ v.front.list → IsTrue (is_accepted new.limits new.seen)
is_one_list v latest longer old new entered list = rw (entered.limits, entered.seen, list) entered.copy.accepted

-- what is right for the copy's limits and the list is right for the reader
pub right_then : (keeps : Entry → Type 0) (v : Version) (latest longer : Beginning) (old new : ReaderSeen) → HasEntered v latest longer old new
    → AreRightFor keeps v.book.limits longer.list → AreRightFor keeps new.limits new.seen
right_then keeps v latest longer old new entered right = rw (entered.limits, entered.seen) right

-- a reply over the copy's book is one over the reader's
pub with_book : {T E : Type 0} (r : Result T E) (P : Book → T → Type 0) (book next : Book) → OnOk r (next ≡ book) → IfOk r (P book) → IfOk r (P next)
with_book (Ok x) P book next same is = subst (λ b. P b x) (sym same) is
with_book (Err e) P book next same is = is

-- a reader that could not enter
abbrev seen_at : View → Beginning → ReaderSeen
seen_at w latest = record { opening = latest.opening; limits = w.limits; seen = latest.list; entered = w.front.list; entries = w.entries }

pub has_come_back : {Seat : Type 0} (at : Seat → View) (place next : Option Seat) (seat back : Seat) (latest : Beginning) (old : ReaderSeen)
    → reader_seen at place latest ≡ old → place ≡ Some seat → next ≡ Some back → at back ≡ at seat → reader_seen at next latest ≡ old
has_come_back at place next seat back latest old seen taken put here =
    subst (λ p. reader_seen at p latest ≡ old) (sym put) (ap (λ w. seen_at w latest) here ∙ subst (λ p. reader_seen at p latest ≡ old) taken seen)
