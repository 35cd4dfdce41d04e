-- What contracts see of a journal. (Own.)
use Rattle.std.specs.Prelude.{◌≡◌, ◌⊎◌, ◌≤◌, ℕ, ◌+◌, ◌++◌, length, Bool, IsTrue}
use Rattle.lost_spec.specs.Text.{Text}
use Rattle.sqlite_disk.specs.declared.Disk.{Ghosts}
use Rattle.lost_journal.specs.declared.gate.Gate.{Gate}
use Rattle.lost_journal.specs.declared.gate.Gate.TheVariants.{Closed, Unsure}
use Rattle.lost_journal.specs.declared.journal.Journal.{Journal}
use Rattle.lost_journal.specs.Format.{Keeps, IsTornAfter}
use Rattle.lost_journal.specs.State.{body_in, behind_in, pending_in, doubtful_in}

module _ {D : Type 0} {g : Ghosts D} where
  -- its disk
  abbrev pub disk_of : Journal D g → D
  disk_of j = j.disk

  -- whether its disk has told the truth so far
  abbrev pub is_clean : Journal D g → Bool
  is_clean j = g.is_clean j.disk

  abbrev pub IsClean : Journal D g → Type 0
  IsClean j = IsTrue (g.is_clean j.disk)

  -- the bytes of its file, and what a crash may leave of it
  abbrev pub bytes_of : Journal D g → Text
  bytes_of j = g.seen j.disk

  abbrev pub MayLeave : Journal D g → Text → Type 0
  MayLeave j c = g.may_leave j.disk c

  -- what it keeps, up to the last gate
  abbrev pub body_of : Journal D g → Text
  body_of j = body_in (g.seen j.disk) j.kept

  -- all that stands behind that
  abbrev pub behind_of : Journal D g → Text
  behind_of j = behind_in (g.seen j.disk) j.kept

  -- how many bytes of the file it keeps, and where its edits end
  abbrev pub kept_of : Journal D g → ℕ
  kept_of j = j.kept

  abbrev pub end_of : Journal D g → ℕ
  end_of j = j.end

  -- the edits that wait for a commit, and those without the last one
  abbrev pub pending_of : Journal D g → Text
  pending_of j = pending_in (g.seen j.disk) j.kept j.end

  abbrev pub earlier_of : Journal D g → Text
  earlier_of j = pending_in (g.seen j.disk) j.kept j.before

  -- what is known of the last gate
  abbrev pub gate_of : Journal D g → Gate
  gate_of j = j.gate

  -- what it keeps if that gate is open
  abbrev pub doubtful_of : Journal D g → Text
  doubtful_of j = doubtful_in (g.seen j.disk) j.kept

  -- of a file that a crash leaves: it keeps what the journal keeps or, where the last gate is unsure, also the commit behind that, unless the crash left another byte as the gate
  abbrev pub MayKeep : Journal D g → Text → Type 0
  MayKeep j c = Keeps c (body_of j) ⊎ ((j.gate ≡ Unsure) × (Keeps c (doubtful_of j) ⊎ IsTornAfter c (body_of j)))

  -- its places and its gate are the same
  pub record SamePlaces (old new : Journal D g) : Type 0 where
    pub kept : new.kept ≡ old.kept
    pub before : new.before ≡ old.before
    pub end : new.end ≡ old.end
    pub gate : new.gate ≡ old.gate

  -- what is kept and what waits are the same
  pub record StaysBelow (old new : Journal D g) : Type 0 where
    pub body : body_of new ≡ body_of old
    pub pending : pending_of new ≡ pending_of old
    pub earlier : earlier_of new ≡ earlier_of old

  -- what is kept, up to the last gate, and all that stands behind it are the same
  pub record StaysBeside (old new : Journal D g) : Type 0 where
    pub body : body_of new ≡ body_of old
    pub behind : behind_of new ≡ behind_of old

  -- these bytes stand behind the edits that wait
  pub record IsPut (old new : Journal D g) (bytes : Text) : Type 0 where
    pub within : new.end + length bytes ≤ length (g.seen new.disk)
    pub written : pending_in (g.seen new.disk) new.kept (new.end + length bytes) ≡ pending_of old ++ bytes
