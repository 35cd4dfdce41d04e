-- How the two books go with the lists of edits that they are of.
use Rattle.std.proofs.Common.{◌≡◌, ◌≢◌, ◌+◌, ◌-◌, ⊎_elim, false, List, [], ◌∷◌, ◌++◌, Option, None, Some, Result, Ok, Err, IfErr, OnOk, OnErr, refl, ap, sym, ◌∙◌, length-append}
use Rattle.std.specs.Result.{result_err}
use Rattle.std.proofs.lemmas.List.Sums.{fold-append}
use Rattle.lost_spec.specs.declared.faults.EditError.{EditError}
use Rattle.lost_spec.specs.declared.faults.EditError.TheVariants.{Memory}
use Rattle.lost_spec.specs.Text.{Text}
use Rattle.lost_spec.specs.Moment.{Instant}
use Rattle.lost_spec.specs.Book.{Book, Edit, refusal, after, changed, book_of}
use Rattle.lost_book.specs.Bounds.{widest}
use Rattle.lost_reading.specs.Desk.{Stage, Commit, desk_line}
use Rattle.lost_writing.specs.declared.desk_reply.DeskReply.TheVariants.{Committed}
use Rattle.lost_writing.specs.DeskReplies.{desk_text}
use Rattle.lost_lines.specs.Run.{Whole, Reply}
use Rattle.lost_json.specs.Stream.{Lists, Unmarked, RefusedMemory, edit_text}
use Rattle.lost_json.specs.Step.{IsAnswered}
use Rattle.lost_json.proofs.FaultLemmas.{memory_or_other}
use Rattle.lost_replay.specs.Books.{Books, AreBooksOf, BooksStep}
use Rattle.lost_replay.specs.Pair.{with_staged, with_committed}
use Rattle.lost_replay.specs.Replay.{replay_terms}

-- ---- the lists after an edit

-- the book behind one more edit
book_push : (es : List Edit) (e : Edit) → book_of widest (es ++ e ∷ []) ≡ after (book_of widest es) e
book_push es e = fold-append after _ es (e ∷ [])

-- an accepted edit is counted
after_counted : (b : Book) (e : Edit) → refusal b e ≡ None → (after b e).edits ≡ b.edits + 1
after_counted b e accepted = rw accepted refl

-- the lists behind one more edit
abbrev one_more : Lists → Edit → Lists
one_more lists edit = record { accepted = lists.accepted ++ edit ∷ []; published = lists.published }

staged_are : (lists : Lists) (b : Books) (e : Edit) → AreBooksOf lists b → refusal b.staged e ≡ None → AreBooksOf (one_more lists e) (with_staged b e)
staged_are lists b e are accepted = record {
  published = are.published;
  staged = ap (λ x. after x e) are.staged ∙ sym (book_push lists.accepted e);
  published_edits = are.published_edits;
  staged_edits = after_counted b.staged e accepted ∙ ap (λ n. n + 1) are.staged_edits ∙ sym (length-append lists.accepted (e ∷ []));
}

-- the lists of what is published
abbrev all_shown : Lists → Lists
all_shown lists = record { accepted = lists.accepted; published = lists.accepted }

committed_are : (lists : Lists) (b : Books) → AreBooksOf lists b → AreBooksOf (all_shown lists) (with_committed b)
committed_are lists b are = record { published = are.staged; staged = are.staged; published_edits = are.staged_edits; staged_edits = are.staged_edits }

-- ---- the steps

module _ (name : Text) (t : Instant) (line : Text) (old new : Books) (reply : Reply) where
  abbrev pub StepTo : Type 0
  StepTo = BooksStep (replay_terms name t) old (Whole line) reply new

  module _ (edit : Edit) (is : desk_line line ≡ Some (Ok (Stage edit))) where
    abbrev pub Tells : Option EditError → Type 0
    Tells fault = reply ≡ record { text = edit_text fault (new.staged.edits - new.published.edits); is_internal_error = false }

    -- the edit is staged
    taken : refusal old.staged edit ≡ None → new ≡ with_staged old edit → Tells None → StepTo
    taken accepted changed told = record {
      by_lists = λ lists are.
          let now_are : AreBooksOf (one_more lists edit) new = rw changed (staged_are lists old edit are accepted) in
          let unrefused : refusal (book_of widest lists.accepted) edit ≡ None = rw are.staged at accepted in
          let answered : IsAnswered (replay_terms name t) lists line (Some (Ok (Stage edit))) reply (one_more lists edit) = record {
            mark = Unmarked;
            may_have = tt;
            text_is = rw (told, now_are.staged_edits, now_are.published_edits, unrefused) refl;
            memory_is = rw told refl;
            lists_are = rw unrefused refl;
          } in
          record { later = one_more lists edit; are = now_are; step = rw is answered };
    }

    -- the edit is refused, and the books stay
    refused_edit : (e : EditError) → refusal old.staged edit ≡ Some e → new ≡ old → Tells (Some e) → StepTo
    refused_edit e refused unchanged told = record {
      by_lists = λ lists are.
          let is_refused : refusal (book_of widest lists.accepted) edit ≡ Some e = rw are.staged at refused in
          let answered : IsAnswered (replay_terms name t) lists line (Some (Ok (Stage edit))) reply lists = record {
            mark = Unmarked;
            may_have = tt;
            text_is = rw (told, is_refused) refl;
            memory_is = rw told refl;
            lists_are = rw is_refused refl;
          } in
          record { later = lists; are = rw unchanged are; step = rw is answered };
    }

    -- the edit is not refused, and there is no memory for it
    short : refusal old.staged edit ≡ None → new ≡ old → Tells (Some Memory) → StepTo
    short accepted unchanged told = record {
      by_lists = λ lists are.
          let answered : IsAnswered (replay_terms name t) lists line (Some (Ok (Stage edit))) reply lists = record {
            mark = RefusedMemory;
            may_have = rw are.staged at accepted;
            text_is = rw told refl;
            memory_is = rw told refl;
            lists_are = refl;
          } in
          record { later = lists; are = rw unchanged are; step = rw is answered };
    }

    pub staged_step : {Done : Type 0} (result : Result Done EditError) → OnOk result (refusal old.staged edit ≡ None) → OnOk result (new ≡ with_staged old edit)
        → IfErr result (λ e. e ≢ Memory → refusal old.staged edit ≡ Some e) → (result ≡ Err Memory → refusal old.staged edit ≡ None) → OnErr result (new ≡ old)
        → Tells (result_err result) → StepTo
    staged_step (Ok done) accepted changed refused memory unchanged told = taken accepted changed told
    staged_step (Err e) accepted changed refused memory unchanged told =
        ⊎_elim
        (λ is. short (memory (ap Err is)) unchanged (rw is at told))
        (λ other. refused_edit e (refused other) unchanged told)
        (memory_or_other e)

  -- all that is staged is published
  pub committed_step : desk_line line ≡ Some (Ok Commit) → new ≡ with_committed old → reply ≡ record { text = desk_text (Committed new.published.edits); is_internal_error = false } → StepTo
  committed_step is changed told = record {
    by_lists = λ lists are.
        let now_are : AreBooksOf (all_shown lists) new = rw changed (committed_are lists old are) in
        let answered : IsAnswered (replay_terms name t) lists line (Some (Ok Commit)) reply (all_shown lists) = record {
          mark = Unmarked;
          may_have = tt;
          text_is = rw (told, now_are.published_edits) refl;
          memory_is = rw told refl;
          lists_are = refl;
        } in
        record { later = all_shown lists; are = now_are; step = rw is answered };
  }
