-- What a run over lists gives, counted afresh.
use Rattle.std.proofs.Common.{◌≡◌, ◌⊎◌, inl, inr, ℕ, Bool, false, List, [], ◌++◌, map, length, take, Option, Some, None, IfSome, refl, sym, ap, ◌∙◌}
use Rattle.std.proofs.lemmas.List.{length-map}
use Rattle.std.specs.Io.KnownBytes.{Appends, Consumes}
use Rattle.lost_spec.specs.Text.{Text}
use Rattle.lost_lines.specs.declared.counts.Counts.{Counts}
use Rattle.lost_lines.specs.declared.turns.Turns.{Turns}
use Rattle.lost_lines.specs.Cutting.{lines_of, ended_lines}
use Rattle.lost_lines.specs.Run.{Reply, Run, text_of, long_count}
use Rattle.lost_lines.specs.Stream.{AreCounts, AppendsFront, StandsPast}
use Rattle.lost_json.specs.Stream.{Terms, Lists, Line}
use Rattle.lost_json.specs.Step.{Step}
use Rattle.lost_json.specs.Outcome.{texts_of_lines, AreCountsOf, IsStreamed, IsStreamedInPart, IsStreamedSoFar, IsStreamSpent}
use Rattle.lost_json.proofs.StreamLemmas.{IsCountedRun, counted_run}

-- what was appended, by an equal text
appends_as : (old new : Option Text) (a b : Text) → a ≡ b → Appends old new a → Appends old new b
appends_as old new a b same appended = rw same at appended

-- what was read, by the lines with their marks
all_read : (unread : Option Text) (lines : List Text) (marked : List Line) → texts_of_lines marked ≡ lines → IfSome unread (λ bytes. lines ≡ lines_of bytes) → IfSome unread (λ bytes. texts_of_lines marked ≡ lines_of bytes)
all_read None lines marked same read = tt
all_read (Some bytes) lines marked same read = same ∙ read

front_read : (unread : Option Text) (lines : List Text) (marked : List Line) → texts_of_lines marked ≡ lines → IfSome unread (λ bytes. (rest : List Text) × (lines_of bytes ≡ lines ++ rest)) → IfSome unread (λ bytes. (rest : List Text) × (lines_of bytes ≡ texts_of_lines marked ++ rest))
front_read None lines marked same read = tt
front_read (Some bytes) lines marked same (rest, are) = (rest, are ∙ ap (λ texts. texts ++ rest) (sym same))

spent_marked : (turns : Turns) (lines same : List Text) (consumed : Text) (reads : ℕ) (has_ended : Bool) → same ≡ lines
    → StandsPast turns.lines lines consumed ⊎ ((reads ≡ turns.reads) × (has_ended ≡ false)) → StandsPast turns.lines same consumed ⊎ ((reads ≡ turns.reads) × (has_ended ≡ false))
spent_marked turns lines same consumed reads has_ended is (inl past) = inl (rw is past)
spent_marked turns lines same consumed reads has_ended is (inr made) = inr made

module _ (terms : Terms) (start end : Lists) (lines : List Text) (replies : List Reply) (run : Run (Step terms) start lines replies end) where
  counted : IsCountedRun terms start [] lines replies end
  counted = counted_run terms start [] lines replies start end refl run

  counts_of_lines : (counts : Counts) → AreCounts counts lines replies → AreCountsOf terms counts counted.marked
  unfolding counted
  counts_of_lines counts are =
      record {
        lines_answered = are.lines_answered ∙ ap length (sym counted.texts_are) ∙ length-map counted.marked (λ (line : Line). line.text);
        long_lines = are.long_lines ∙ ap long_count (sym counted.texts_are);
        memory = are.memory ∙ counted.memory_is;
        faults = are.faults;
      }

  pub streamed : (unread before after : Option Text) (counts : Counts) → IfSome unread (λ bytes. lines ≡ lines_of bytes) → Appends before after (text_of replies) → AreCounts counts lines replies → IsStreamed terms start end unread before after counts
  streamed unread before after counts read written are =
      record {
        lines = counted.marked;
        are_marks = counted.are_marks;
        lists_are = counted.lists_are;
        read = all_read unread lines counted.marked counted.texts_are read;
        written = appends_as before after _ _ counted.text_is written;
        counted = counts_of_lines counts are;
      }

  pub streamed_in_part : (unread before after : Option Text) → IfSome unread (λ bytes. (rest : List Text) × (lines_of bytes ≡ lines ++ rest)) → AppendsFront before after (text_of replies) → IsStreamedInPart terms start end unread before after
  streamed_in_part unread before after read (front, rest, is, appended) =
      record {
        lines = counted.marked;
        are_marks = counted.are_marks;
        lists_are = counted.lists_are;
        read = front_read unread lines counted.marked counted.texts_are read;
        written = (front, rest, sym counted.text_is ∙ is, appended);
      }

  pub streamed_so_far : (most : ℕ) (unread left before after : Option Text) (consumed : Text) → Consumes unread left consumed → lines ≡ take most (ended_lines consumed) → Appends before after (text_of replies) → IsStreamedSoFar terms start end most unread left before after
  streamed_so_far most unread left before after consumed read ended written =
      record {
        lines = counted.marked;
        are_marks = counted.are_marks;
        lists_are = counted.lists_are;
        consumed = consumed;
        read = read;
        ended = counted.texts_are ∙ ended;
        written = appends_as before after _ _ counted.text_is written;
      }

  pub stream_spent : (turns : Turns) (unread left before after : Option Text) (consumed : Text) (reads : ℕ) (has_ended : Bool) → Consumes unread left consumed → lines ≡ take turns.lines (ended_lines consumed) → Appends before after (text_of replies)
      → StandsPast turns.lines lines consumed ⊎ ((reads ≡ turns.reads) × (has_ended ≡ false)) → IsStreamSpent terms start end turns unread left before after reads has_ended
  unfolding streamed_so_far counted
  stream_spent turns unread left before after consumed reads has_ended read ended written spent =
      record {
        so_far = streamed_so_far turns.lines unread left before after consumed read ended written;
        spent = spent_marked turns lines (texts_of_lines counted.marked) consumed reads has_ended counted.texts_are spent;
      }
