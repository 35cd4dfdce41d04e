-- The lists that a run keeps are those of the edits that were accepted and published, counted afresh after each line.
use Rattle.std.proofs.Common.{◌≡◌, ◌+◌, ◌-◌, Bool, true, false, cond, List, [], ◌∷◌, ◌++◌, map, filter_map, Option, Some, None, Result, Ok, Err, refl, sym, ap, ◌∙◌, append_assoc}
use Rattle.std.specs.List.{count_by}
use Rattle.std.proofs.lemmas.List.{append-nil}
use Rattle.std.proofs.lemmas.List.Elements.{filter_map-append}
use Rattle.lost_spec.specs.Text.{Text}
use Rattle.lost_spec.specs.Book.{Edit}
use Rattle.lost_reading.specs.declared.desk.DeskFault.{DeskFault}
use Rattle.lost_reading.specs.Desk.{Order, Stage, Commit, desk_line}
use Rattle.lost_lines.specs.Cutting.{is_long}
use Rattle.lost_lines.specs.Run.{Cut, Whole, TooLong, Unread, Reply, IsCut, Run, text_of, memory_count}
use Rattle.lost_json.specs.Stream.{Terms, Lists, Mark, Unmarked, ShortOfMemory, RefusedMemory, Line, is_good, staged_edit, is_commit_order, edit_of_line, is_commit, keep, kept_of, accepted, published_from, published, lists_at, order_text, text_after, texts_after, is_short, IsMark, AreMarksAfter}
use Rattle.lost_json.specs.Step.{lists_after, text_with, after_with, MayHave, IsAnswered, Step}
use Rattle.lost_json.proofs.ListLemmas.{count_by_alike}

abbrev pub marked_line : Text → Mark → Line
marked_line text mark = record { text = text; mark = mark }

-- the good line of a text that is not over the limit
edit_of_good : (text : Text) → is_long text ≡ false → edit_of_line (marked_line text Unmarked) ≡ staged_edit (desk_line text)
edit_of_good text short = rw short refl

commit_of_good : (text : Text) → is_long text ≡ false → is_commit (marked_line text Unmarked) ≡ is_commit_order (desk_line text)
commit_of_good text short = rw short refl

module _ (terms : Terms) where
  kept_of-append : (kept : List Edit) (es fs : List Edit) → kept_of terms kept (es ++ fs) ≡ kept_of terms (kept_of terms kept es) fs
  kept_of-append kept [] fs = refl
  kept_of-append kept (e ∷ es) fs = kept_of-append (keep terms kept e) es fs

  -- what is accepted behind one more line, by the edit of the line
  abbrev keep_some : List Edit → Option Edit → List Edit
  keep_some kept None = kept
  keep_some kept (Some edit) = keep terms kept edit

  one_kept : (kept : List Edit) (line : Line) (edit : Option Edit) → edit_of_line line ≡ edit → kept_of terms kept (filter_map edit_of_line (line ∷ [])) ≡ keep_some kept edit
  one_kept kept line None is = rw is refl
  one_kept kept line (Some edit) is = rw is refl

module _ (terms : Terms) (start : Lists) where
  accepted_push : (before : List Line) (line : Line) → accepted terms start (before ++ line ∷ []) ≡ keep_some terms (accepted terms start before) (edit_of_line line)
  accepted_push before line =
      ap (kept_of terms start.accepted) (filter_map-append edit_of_line before (line ∷ []))
      ∙ kept_of-append terms start.accepted (filter_map edit_of_line before) (filter_map edit_of_line (line ∷ []))
      ∙ one_kept terms (accepted terms start before) line (edit_of_line line) refl

  published_from_push : (seen : List Line) (current : List Edit) (lines : List Line) (line : Line) →
      published_from terms start seen current (lines ++ line ∷ []) ≡ cond (is_commit line) (accepted terms start (seen ++ (lines ++ line ∷ []))) (published_from terms start seen current lines)
  published_from_push seen current [] line = refl
  published_from_push seen current (first ∷ lines) line =
      published_from_push (seen ++ first ∷ []) (cond (is_commit first) (accepted terms start (seen ++ first ∷ [])) current) lines line
      ∙ ap (λ all. cond (is_commit line) (accepted terms start all) (published_from terms start (seen ++ first ∷ []) (cond (is_commit first) (accepted terms start (seen ++ first ∷ [])) current) lines)) (append_assoc seen (first ∷ []) (lines ++ line ∷ []))

  published_push : (before : List Line) (line : Line) → published terms start (before ++ line ∷ []) ≡ cond (is_commit line) (accepted terms start (before ++ line ∷ [])) (published terms start before)
  published_push before line = published_from_push [] start.published before line

  -- the lists behind one more line, by its edit and whether it is a commit
  abbrev lists_by : List Line → Option Edit → Bool → Lists
  lists_by before edit commits =
      record {
        accepted = keep_some terms (accepted terms start before) edit;
        published = cond commits (keep_some terms (accepted terms start before) edit) (published terms start before);
      }

  lists_push : (before : List Line) (line : Line) (edit : Option Edit) (commits : Bool) → edit_of_line line ≡ edit → is_commit line ≡ commits → lists_at terms start (before ++ line ∷ []) ≡ lists_by before edit commits
  lists_push before line edit commits edit_is commit_is =
      let staged : accepted terms start (before ++ line ∷ []) ≡ keep_some terms (accepted terms start before) edit = accepted_push before line ∙ ap (keep_some terms (accepted terms start before)) edit_is in
      let shown : published terms start (before ++ line ∷ []) ≡ cond commits (keep_some terms (accepted terms start before) edit) (published terms start before) =
      published_push before line ∙ ap (λ b. cond b (accepted terms start (before ++ line ∷ [])) (published terms start before)) commit_is ∙ ap (λ es. cond commits es (published terms start before)) staged in
      ap (λ es. record { accepted = accepted terms start (before ++ line ∷ []); published = es }) shown
      ∙ ap (λ es. record { accepted = es; published = cond commits (keep_some terms (accepted terms start before) edit) (published terms start before) }) staged

  -- a line that is not good changes nothing
  not_good : (before : List Line) (line : Line) → is_good line ≡ false → lists_at terms start (before ++ line ∷ []) ≡ lists_at terms start before
  not_good before line bad = lists_push before line None false (rw bad refl) (rw bad refl)

  -- ---- one step

  -- a step that gave this mark: it may stand there, the reply is the one by counting, and so are the lists
  pub record IsCountedStep (before : List Line) (text : Text) (reply : Reply) (next : Lists) : Type 0 where
    pub mark : Mark
    pub is_mark : IsMark terms start before (marked_line text mark) mark
    pub text_is : reply.text ≡ text_after terms start before (marked_line text mark)
    pub memory_is : reply.is_internal_error ≡ is_short terms mark
    pub lists_are : next ≡ lists_at terms start (before ++ marked_line text mark ∷ [])

  -- the lists after a good line with this order are those by counting
  good_lists : (before : List Line) (text : Text) (order : Option (Result Order DeskFault)) → is_long text ≡ false → desk_line text ≡ order →
      lists_at terms start (before ++ marked_line text Unmarked ∷ []) ≡ lists_after terms (lists_at terms start before) order
  good_lists before text None short is =
      lists_push before (marked_line text Unmarked) None false (edit_of_good text short ∙ ap staged_edit is) (commit_of_good text short ∙ ap is_commit_order is)
  good_lists before text (Some (Err fault)) short is =
      lists_push before (marked_line text Unmarked) None false (edit_of_good text short ∙ ap staged_edit is) (commit_of_good text short ∙ ap is_commit_order is)
  good_lists before text (Some (Ok (Stage edit))) short is =
      lists_push before (marked_line text Unmarked) (Some edit) false (edit_of_good text short ∙ ap staged_edit is) (commit_of_good text short ∙ ap is_commit_order is)
  good_lists before text (Some (Ok Commit)) short is =
      lists_push before (marked_line text Unmarked) None true (edit_of_good text short ∙ ap staged_edit is) (commit_of_good text short ∙ ap is_commit_order is)

  -- a line that was kept whole
  whole_step : (before : List Line) (text : Text) (reply : Reply) (next : Lists) → is_long text ≡ false → (mark : Mark) → MayHave terms (lists_at terms start before) (desk_line text) mark →
      reply.text ≡ text_with terms (lists_at terms start before) text (desk_line text) mark → reply.is_internal_error ≡ is_short terms mark → next ≡ after_with terms (lists_at terms start before) (desk_line text) mark → IsCountedStep before text reply next
  whole_step before text reply next short Unmarked may text_is memory_is lists_are =
      let lists = good_lists before text (desk_line text) short refl in
      record {
        mark = Unmarked;
        is_mark = tt;
        text_is = text_is ∙ ap (λ l. order_text terms (lists_at terms start before) l text (desk_line text)) (sym lists) ∙ rw short refl;
        memory_is = memory_is;
        lists_are = lists_are ∙ sym lists;
      }
  whole_step before text reply next short ShortOfMemory may text_is memory_is lists_are =
      record {
        mark = ShortOfMemory;
        is_mark = tt;
        text_is = text_is;
        memory_is = memory_is;
        lists_are = lists_are ∙ sym (not_good before (marked_line text ShortOfMemory) refl);
      }
  whole_step before text reply next short RefusedMemory may text_is memory_is lists_are =
      record {
        mark = RefusedMemory;
        is_mark = (short, may);
        text_is = text_is;
        memory_is = memory_is;
        lists_are = lists_are ∙ sym (not_good before (marked_line text RefusedMemory) refl);
      }

  -- a line as it was cut
  cut_step : (before : List Line) (text : Text) (cut : Cut) (reply : Reply) (next : Lists) → IsCut text cut → Step terms (lists_at terms start before) cut reply next → IsCountedStep before text reply next
  cut_step before text (Whole kept) reply next is_cut step =
      let same : kept ≡ text = is_cut.0 in
      let there : IsAnswered terms (lists_at terms start before) text (desk_line text) reply next = rw same at step in
      whole_step before text reply next is_cut.1 there.mark there.may_have there.text_is there.memory_is there.lists_are
  cut_step before text TooLong reply next is_cut step =
      record {
        mark = Unmarked;
        is_mark = tt;
        text_is = step.text_is ∙ rw is_cut refl;
        memory_is = step.memory_is;
        lists_are = step.lists_are ∙ sym (not_good before (marked_line text Unmarked) (rw is_cut refl));
      }
  cut_step before text Unread reply next is_cut step =
      record {
        mark = ShortOfMemory;
        is_mark = tt;
        text_is = step.text_is;
        memory_is = step.memory_is;
        lists_are = step.lists_are ∙ sym (not_good before (marked_line text ShortOfMemory) refl);
      }

  -- ---- a run

  -- a run is counted: marks that may stand there, the replies by counting, and the lists by counting at its end
  pub record IsCountedRun (before : List Line) (lines : List Text) (replies : List Reply) (new : Lists) : Type 0 where
    pub marked : List Line
    pub texts_are : map (λ (line : Line). line.text) marked ≡ lines
    pub are_marks : AreMarksAfter terms start before marked
    pub text_is : text_of replies ≡ texts_after terms start before marked
    pub memory_is : memory_count replies ≡ count_by (λ (line : Line). is_short terms line.mark) marked
    pub lists_are : new ≡ lists_at terms start (before ++ marked)

  -- a run from the lists by counting is counted
  pub counted_run : (before : List Line) (lines : List Text) (replies : List Reply) (old new : Lists) → old ≡ lists_at terms start before → Run (Step terms) old lines replies new → IsCountedRun before lines replies new
  counted_run before [] [] old new from run =
      record {
        marked = [];
        texts_are = refl;
        are_marks = tt;
        text_is = refl;
        memory_is = refl;
        lists_are = run ∙ from ∙ ap (lists_at terms start) (sym (append-nil before));
      }
  counted_run before [] (reply ∷ replies) old new from run = absurd run
  counted_run before (text ∷ lines) [] old new from run = absurd run
  counted_run before (text ∷ lines) (reply ∷ replies) old new from (cut, next, is_cut, step, rest) =
      let one = cut_step before text cut reply next is_cut (rw from at step) in
      let line = marked_line text one.mark in
      let more = counted_run (before ++ line ∷ []) lines replies next new one.lists_are rest in
      record {
        marked = line ∷ more.marked;
        texts_are = ap (λ texts. text ∷ texts) more.texts_are;
        are_marks = (one.is_mark, more.are_marks);
        text_is = ap (λ said. said ++ text_of replies) one.text_is ∙ ap (λ said. text_after terms start before line ++ said) more.text_is;
        memory_is = count_by_alike (λ (r : Reply). r.is_internal_error) (λ (l : Line). is_short terms l.mark) reply line replies more.marked one.memory_is more.memory_is;
        lists_are = more.lists_are ∙ ap (lists_at terms start) (append_assoc before (line ∷ []) more.marked);
      }
