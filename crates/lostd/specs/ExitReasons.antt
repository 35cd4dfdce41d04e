-- What ends the program where a server ended in a fault. (Own.)
use Rattle.lost_lines.specs.declared.fault.ServeError.TheVariants.{Memory as NoMemory, Write as NotWritten}
use Rattle.lost_server.specs.declared.run_fault.RunFault.{RunFault}
use Rattle.lost_server.specs.declared.run_fault.RunFault.TheVariants.{Workers, Accept, Memory}
use Rattle.lost_server.specs.declared.server_fault.MapFault.{MapFault}
use Rattle.lost_server.specs.declared.server_fault.MapFault.TheVariants.{Unopened, Unread, Refused, Memory as NoMapMemory}
use Rattle.lost_server.specs.declared.server_fault.JournalFault.{JournalFault}
use Rattle.lost_server.specs.declared.server_fault.JournalFault.TheVariants.{NoPath, Unopened as JournalUnopened, NotRecovered, Holds, NotKept, Memory as NoJournalMemory}
use Rattle.lost_keeping.specs.declared.recovery.RecoveryFault.{RecoveryFault}
use Rattle.lost_keeping.specs.declared.recovery.RecoveryFault.TheVariants.{Damaged as IsDamaged, Unread as NotRead, Uncut, Memory as NoRecoveryMemory}
use Rattle.lost_journal.specs.declared.faults.ReadFault.TheVariants.{Line, Memory as NoReadMemory, Disk}
use Rattle.lost_answer_log.specs.declared.log_thread.LogFault.{LogFault}
use Rattle.lost_answer_log.specs.declared.log_thread.LogFault.TheVariants.{Unopened as LogUnopened, Memory as NoLogMemory}
use Rattle.lost_offline.specs.declared.fault.JournalFault.{JournalFault as OfflineFault}
use Rattle.lost_offline.specs.declared.fault.JournalFault.TheVariants.{Missing, Unopened as OfflineUnopened, NotRead as OfflineNotRead, Memory as NoOfflineMemory}
use Rattle.lost_offline.specs.declared.fault.CompactFault.{CompactFault}
use Rattle.lost_offline.specs.declared.fault.CompactFault.TheVariants.{NotRead as NotCompacted, TooLong, Refused as CompactRefused, OtherMap, Write, Memory as NoCompactMemory}
use Rattle.lost_audit.specs.declared.fault.AuditFault.{AuditFault}
use Rattle.lost_audit.specs.declared.fault.AuditFault.TheVariants.{Missing as NoAuditJournal, Unopened as AuditUnopened, NotRead as AuditNotRead, NoEdition, TooEarly, Stream, Memory as NoAuditMemory}
use Rattle.lost_command.specs.declared.exit_reason.ExitReason.{ExitReason}
use Rattle.lost_command.specs.declared.exit_reason.ExitReason.TheVariants.{CommandLine, Run, Workers as WrongWorkers, Accept as NotAccepted, File as BadFile, MapRefused, Damaged}

abbrev pub serve_reason : RunFault → ExitReason
serve_reason Workers = WrongWorkers
serve_reason Accept = NotAccepted
serve_reason Memory = Run NoMemory

-- what ends the program where a map was not loaded
abbrev pub map_reason : MapFault → ExitReason
map_reason (Unopened kind) = BadFile
map_reason Unread = BadFile
map_reason (Refused refused pending) = MapRefused
map_reason NoMapMemory = Run NoMemory

-- what ends the program where a journal's reading stopped
abbrev pub recovery_reason : RecoveryFault → ExitReason
recovery_reason (IsDamaged damage) = Damaged
recovery_reason (NotRead Line) = Damaged
recovery_reason (NotRead NoReadMemory) = BadFile
recovery_reason (NotRead (Disk error)) = BadFile
recovery_reason (Uncut fault) = BadFile
recovery_reason NoRecoveryMemory = BadFile

-- what ends the program where a journal is not used
abbrev pub journal_reason : JournalFault → ExitReason
journal_reason NoPath = CommandLine
journal_reason (JournalUnopened fault) = BadFile
journal_reason (NotRecovered stopped) = recovery_reason stopped.fault
journal_reason (Holds edits) = CommandLine
journal_reason (NotKept fault) = BadFile
journal_reason NoJournalMemory = Run NoMemory

-- what ends the program where a log of answers is not begun
abbrev pub log_reason : LogFault → ExitReason
log_reason (LogUnopened error) = BadFile
log_reason NoLogMemory = Run NoMemory

-- what ends the program where a journal is not read without a server
abbrev pub offline_reason : OfflineFault → ExitReason
offline_reason Missing = BadFile
offline_reason (OfflineUnopened fault) = BadFile
offline_reason (OfflineNotRead stopped) = recovery_reason stopped.fault
offline_reason NoOfflineMemory = Run NoMemory

-- what ends the program where a journal is not written anew
abbrev pub compact_reason : CompactFault → ExitReason
compact_reason (NotCompacted fault) = offline_reason fault
compact_reason (TooLong line) = BadFile
compact_reason (CompactRefused line fault) = BadFile
compact_reason OtherMap = BadFile
compact_reason Write = Run NotWritten
compact_reason NoCompactMemory = Run NoMemory

-- what ends the program where an audit or an explanation ends early
abbrev pub audit_reason : AuditFault → ExitReason
audit_reason NoAuditJournal = BadFile
audit_reason (AuditUnopened fault) = BadFile
audit_reason (AuditNotRead stopped) = recovery_reason stopped.fault
audit_reason (NoEdition edition) = BadFile
audit_reason TooEarly = BadFile
audit_reason (Stream fault) = Run fault
audit_reason NoAuditMemory = Run NoMemory
