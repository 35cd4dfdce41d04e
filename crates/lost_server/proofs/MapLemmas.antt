-- What a run over the lines of a map comes to: its counts, and the lists if no line is refused.
use Rattle.std.proofs.Common.{◌≡◌, ◌≢◌, ℕ, ◌+◌, Bool, true, false, if◌then◌else◌, cond, List, [], ◌∷◌, ◌++◌, map, length, Option, None, Some, IfSome, ◌==◌, get_or, refl, ap, sym, ◌∙◌, append_assoc, append-nil, add_assoc, arith}
use Rattle.std.specs.List.{count_by}
use Rattle.std.proofs.lemmas.Bool.{eqb-false}
use Rattle.std.proofs.lemmas.List.Sums.{sum_by-cons}
use Rattle.serde_json.proofs.OnLiterals.{serde_json_on_literals}
use Rattle.lost_spec.specs.Text.{Text}
use Rattle.lost_spec.specs.Book.{Limits, Edit}
use Rattle.lost_writing.specs.declared.desk_reply.DeskReply.{DeskReply}
use Rattle.lost_writing.specs.declared.desk_reply.DeskReply.TheVariants.{Staged, Committed, Refused}
use Rattle.lost_writing.specs.DeskReplies.{desk_text}
use Rattle.lost_lines.specs.Run.{Cut, Reply, IsCut, Run, text_of}
use Rattle.lost_lines.specs.declared.counts.Counts.{Counts as StreamCounts}
use Rattle.lost_lines.specs.Cutting.{lines_of}
use Rattle.lost_lines.specs.Stream.{IsServed}
use Rattle.lost_json.specs.Stream.{Lists, Line, Mark, Unmarked, ShortOfMemory, RefusedMemory, lists_at, marked_text, texts_after, refused_text}
use Rattle.lost_json.specs.Step.{Step}
use Rattle.lost_json.proofs.StreamLemmas.{IsCountedRun, counted_run as counted_lists}
use Rattle.lost_json.proofs.ListLemmas.{count_by_front}
use Rattle.lost_server.specs.declared.map.MapFound.{MapFound}
use Rattle.lost_desk.specs.Seen.{DeskSeen, with_none_pending}
use Rattle.lost_worker.specs.Desking.{Observed, Watches, desk_terms, lists_of, said}
use Rattle.lost_worker.specs.Sum.{capped}
use Rattle.lost_worker.proofs.CarryLemmas.{carried_run}
use Rattle.lost_server.specs.Map.{IsMapRead, IsWhole, is_refusal, counted, unmarked}

-- ---- a reply that is no refusal

-- two lines differ in a byte
in_byte : (place : ℕ) (x y : Text) → (get_or x place 0 == get_or y place 0) ≡ false → x ≢ y
in_byte place x y apart same = eqb-false _ _ apart (ap (λ line. get_or line place 0) same)

staged_differs : (pending : ℕ) → desk_text (Staged pending) ≢ refused_text 20
unfolding desk_text serde_json_on_literals
staged_differs pending = in_byte 2 _ _ refl

committed_differs : (edition : ℕ) → desk_text (Committed edition) ≢ refused_text 20
unfolding desk_text serde_json_on_literals
committed_differs edition = in_byte 2 _ _ refl

-- it does not say that memory was refused
other_text : (given : DeskReply) → is_refusal given ≡ false → desk_text given ≢ refused_text 20
other_text (Staged pending) other = staged_differs pending
other_text (Committed edition) other = committed_differs edition
other_text (Refused code) other = absurd (cc)

-- ---- the lists by lines none of which is refused

module _ (limits : Limits) (start : Lists) where
  abbrev lists_behind : List Line → Lists
  lists_behind lines = lists_at (desk_terms limits) start lines

  module _ (before : List Line) (text : Text) (given : DeskReply) (other : is_refusal given ≡ false) (next : Lists) where
    -- the mark of the line is known by the reply
    by_mark : (line : Line) (mark : Mark) → line.mark ≡ mark → line.text ≡ text → desk_text given ++ [] ≡ marked_text (desk_terms limits) start before line mark ++ [] → next ≡ lists_behind (before ++ line ∷ [])
        → next ≡ lists_behind (before ++ unmarked text ∷ [])
    by_mark line Unmarked is same text_is lists_are =
        lists_are
        ∙ ap (λ m. lists_behind (before ++ record { text = line.text; mark = m } ∷ [])) is
        ∙ ap (λ t. lists_behind (before ++ unmarked t ∷ [])) same
    by_mark line ShortOfMemory is same text_is lists_are = absurd (other_text given other (sym (append-nil _) ∙ text_is ∙ append-nil _))
    by_mark line RefusedMemory is same text_is lists_are = absurd (other_text given other (sym (append-nil _) ∙ text_is ∙ append-nil _))

    by_marked : (marked : List Line) → map (λ (line : Line). line.text) marked ≡ text ∷ [] → text_of (said given ∷ []) ≡ texts_after (desk_terms limits) start before marked → next ≡ lists_behind (before ++ marked)
        → next ≡ lists_behind (before ++ unmarked text ∷ [])
    by_marked [] texts_are text_is lists_are = absurd (cc)
    by_marked (line ∷ []) texts_are text_is lists_are = by_mark line line.mark refl (cc) text_is lists_are
    by_marked (line ∷ more ∷ others) texts_are text_is lists_are = absurd (cc)

    unrefused_line : (old : Lists) (cut : Cut) → old ≡ lists_behind before → IsCut text cut → Step (desk_terms limits) old cut (said given) next → next ≡ lists_behind (before ++ unmarked text ∷ [])
    unrefused_line old cut from is_cut step =
        let run : IsCountedRun (desk_terms limits) start before (text ∷ []) (said given ∷ []) next = counted_lists (desk_terms limits) start before (text ∷ []) (said given ∷ []) old next from (cut, next, is_cut, step, refl) in
        by_marked run.marked run.texts_are run.text_is run.lists_are

  -- how many of the replies are refusals, by the first of them
  none_first : (given : DeskReply) (more : List DeskReply) → count_by is_refusal (given ∷ more) ≡ 0 → is_refusal given ≡ false
  none_first (Staged pending) more none = refl
  none_first (Committed edition) more none = refl
  none_first (Refused code) more none = absurd (omega (arith, sum_by-cons (λ reply. cond (is_refusal reply) 1 0) (Refused code) more, none))

  none_later : (given : DeskReply) (more : List DeskReply) → count_by is_refusal (given ∷ more) ≡ 0 → count_by is_refusal more ≡ 0
  none_later given more none = omega (arith, sum_by-cons (λ reply. cond (is_refusal reply) 1 0) given more, none)

  pub unrefused_run : (before : List Line) (lines : List Text) (given : List DeskReply) (old new : Lists) → count_by is_refusal given ≡ 0 → old ≡ lists_behind before
      → Run (Step (desk_terms limits)) old lines (map said given) new → new ≡ lists_behind (before ++ map unmarked lines)
  unrefused_run before [] [] old new none from run = run ∙ from ∙ ap lists_behind (sym (append-nil before))
  unrefused_run before [] (first ∷ given) old new none from run = absurd run
  unrefused_run before (text ∷ lines) [] old new none from run = absurd run
  unrefused_run before (text ∷ lines) (first ∷ given) old new none from (cut, next, is_cut, step, rest) =
      unrefused_run (before ++ unmarked text ∷ []) lines given next new (none_later first given none)
      (unrefused_line before text first (none_first first given none) next old cut from is_cut step) rest
      ∙ ap lists_behind (append_assoc before (unmarked text ∷ []) (map unmarked lines))

-- ---- the counts

-- one more, to a number that stays at its greatest value
counts_on : (n from : ℕ) → n ≡ capped from → capped (n + 1) ≡ capped (from + 1)
counts_on n from is = omega arith

refused_on : (given : DeskReply) (n from : ℕ) → n ≡ capped from → (if is_refusal given then capped (n + 1) else n) ≡ capped (from + count_by is_refusal (given ∷ []))
refused_on (Staged pending) n from is = is ∙ ap capped (omega arith)
refused_on (Committed edition) n from is = is ∙ ap capped (omega arith)
refused_on (Refused code) n from is = omega arith

module _ {V : Type 0} (found_of : V → MapFound) where
  -- the step of a witness that counts
  abbrev pub Counts : V → DeskReply → V → Type 0
  Counts old given new = found_of new ≡ counted (found_of old) given

  -- the replies to lines, and what they are counted as behind others
  pub record AreCounted (lines : List Text) (replies : List Reply) (line_count refused_count : ℕ) (new : V) : Type 0 where
    pub given : List DeskReply
    pub are_said : replies ≡ map said given
    pub lines_are : (found_of new).lines ≡ capped (line_count + length lines)
    pub refused_are : (found_of new).refused ≡ capped (refused_count + count_by is_refusal given)

  module _ (limits : Limits) where
    pub counted_run : (old new : Observed V) (lines : List Text) (replies : List Reply) (line_count refused_count : ℕ)
        → (found_of old.witness).lines ≡ capped line_count → (found_of old.witness).refused ≡ capped refused_count
        → Run (Watches Counts (desk_terms limits)) old lines replies new → AreCounted lines replies line_count refused_count new.witness
    counted_run old new [] [] line_count refused_count lines_are refused_are run = record {
      given = [];
      are_said = refl;
      lines_are = ap (λ (o : Observed V). (found_of o.witness).lines) run ∙ lines_are ∙ ap capped (omega arith);
      refused_are = ap (λ (o : Observed V). (found_of o.witness).refused) run ∙ refused_are ∙ ap capped (omega arith);
    }
    counted_run old new [] (reply ∷ replies) line_count refused_count lines_are refused_are run = absurd run
    counted_run old new (line ∷ lines) [] line_count refused_count lines_are refused_are run = absurd run
    counted_run old new (line ∷ lines) (reply ∷ replies) line_count refused_count lines_are refused_are (cut, next, is_cut, one, rest) =
        let more = counted_run next new lines replies (line_count + 1) (refused_count + count_by is_refusal (one.given ∷ []))
        (ap (λ (f : MapFound). f.lines) one.saw ∙ counts_on _ _ lines_are)
        (ap (λ (f : MapFound). f.refused) one.saw ∙ refused_on one.given _ _ refused_are)
        rest in
        record {
          given = one.given ∷ more.given;
          are_said = ap (λ r. r ∷ replies) one.is_said ∙ ap (λ rs. said one.given ∷ rs) more.are_said;
          lines_are = more.lines_are ∙ ap capped (omega arith);
          refused_are = more.refused_are ∙ ap capped (add_assoc refused_count _ _ ∙ ap (λ n. refused_count + n) (sym (count_by_front is_refusal one.given more.given)));
        }

    -- a map that was served to its end, from counts of nothing
    pub map_read : (says : ℕ → Bool → Type 0) (start end : Observed V) → found_of start.witness ≡ record { lines = 0; refused = 0 } → (unread before after : Option Text) (counts : StreamCounts)
        → IsServed says (Watches Counts (desk_terms limits)) start end unread before after counts → (old : DeskSeen) → old.limits ≡ limits → start.lists ≡ lists_of old → IsMapRead unread old end.lists (found_of end.witness)
    map_read says start end none unread before after counts s old limits_are from =
        let c = counted_run start end s.lines s.replies 0 0 (ap (λ (f : MapFound). f.lines) none) (ap (λ (f : MapFound). f.refused) none) s.run in
        let run : Run (Step (desk_terms limits)) start.lists s.lines s.replies end.lists =
        carried_run (Watches Counts (desk_terms limits)) (λ state. Unit {0}) (λ a b cut reply kept one. tt) (Step (desk_terms limits)) (λ (o : Observed V). o.lists) (λ a b cut reply kept one. one.goes) start end s.lines s.replies tt s.run in
        let told : Run (Step (desk_terms limits)) start.lists s.lines (map said c.given) end.lists = rw c.are_said at run in
        record {
          lines = s.lines;
          read = s.read;
          given = c.given;
          run = rw (limits_are, ← from) told;
          lines_are = c.lines_are ∙ ap capped (omega arith);
          refused_are = c.refused_are ∙ ap capped (omega arith);
        }

-- ---- a map that is loaded whole

all_read : (unread : Option Text) (lines : List Text) (limits : Limits) (start lists : Lists) → IfSome unread (λ bytes. lines ≡ lines_of bytes) → lists ≡ lists_at (desk_terms limits) start (map unmarked lines)
    → IfSome unread (λ bytes. lists_at (desk_terms limits) start (map unmarked (lines_of bytes)) ≡ lists)
all_read None lines limits start lists read are = tt
all_read (Some bytes) lines limits start lists read are = ap (λ ls. lists_at (desk_terms limits) start (map unmarked ls)) (sym read) ∙ sym are

none_left : (es : List Edit) → length es ≡ 0 → es ≡ []
none_left [] none = refl
none_left (e ∷ es) none = absurd (omega arith)

-- what is published by all lines, where none is refused and nothing is pending behind them
pub whole_map : (unread : Option Text) (old mid new : DeskSeen) (found : MapFound) → IsMapRead unread old (lists_of mid) found → found.refused ≡ 0 → (pending : ℕ) → pending ≡ length mid.pending → pending ≡ 0 → new ≡ with_none_pending mid → IsWhole unread old new
whole_map unread old mid new found m none pending pending_are zero dropped =
    let nothing : mid.pending ≡ [] = none_left mid.pending (sym pending_are ∙ zero) in
    let unrefused : count_by is_refusal m.given ≡ 0 = omega (arith, m.refused_are, none) in
    let are : lists_of mid ≡ lists_at (desk_terms old.limits) (lists_of old) (map unmarked m.lines) = unrefused_run old.limits (lists_of old) [] m.lines m.given (lists_of old) (lists_of mid) unrefused refl m.run in
    let ends : lists_of mid ≡ record { accepted = new.published; published = new.published } =
    ap (λ es. record { accepted = mid.published ++ es; published = mid.published }) nothing
    ∙ ap (λ es. record { accepted = es; published = mid.published }) (append-nil mid.published)
    ∙ ap (λ (d : DeskSeen). record { accepted = d.published; published = d.published }) (sym dropped) in
    all_read unread m.lines old.limits (lists_of old) _ m.read (sym ends ∙ are)
