-- The page of a server's numbers for Prometheus: each number under its own name. (Own names.)
use Rattle.std.specs.Prelude.{ℕ, ◌-◌, List, ◌∷◌, ◌++◌, Bool, codes, decimal, slice_index, if◌then◌else◌}
use Rattle.lost_spec.specs.Text.{Text}
use Rattle.lost_status.specs.declared.exposition.MetricType.TheVariants.{Counter, Gauge}
use Rattle.lost_status.specs.declared.connection_event.ConnectionFigures.{ConnectionFigures}
use Rattle.lost_status.specs.declared.desk_event.DeskFigures.{DeskFigures}
use Rattle.lost_status.specs.declared.log_counts.LogFigures.{LogFigures}
use Rattle.lost_status.specs.declared.snapshot.Snapshot.{Snapshot}
use Rattle.lost_status.specs.declared.reply_kind.ReplyKind.{ReplyKind}
use Rattle.lost_writing.specs.DeskReplies.{refusal_name}
use Rattle.lost_status.specs.ReplyKind.{kind_name, kind_place}
use Rattle.lost_status.specs.Exposition.{counted, label, labelled, metric}

-- yes or no as a number
abbrev pub flag : Bool → ℕ
flag is_so = if is_so then 1 else 0

-- whether the server is ready, and for how long it has run
abbrev pub state_metrics : Snapshot → Text
state_metrics now =
    metric Gauge (codes "lostd_ready") (codes "Whether the server answers from its map: 1 once it does, 0 before.") (flag now.is_ready)
    ++ metric Gauge (codes "lostd_uptime_seconds") (codes "For how long the server has run, in seconds.") now.uptime

-- how many replies of the kind with this name were given
unfoldable pub kind_sample : (name : Text) (count : ℕ) → Text
kind_sample name count = labelled (codes "lostd_replies_total") (label (codes "kind") name (counted count))

-- how many replies of a kind were given
abbrev pub kind_metric : List ℕ → ReplyKind → Text
kind_metric replies kind = kind_sample (kind_name kind) (slice_index replies (kind_place kind))

-- how many lines were refused with a code
abbrev pub code_metric : List ℕ → ℕ → Text
code_metric refusals code =
    labelled (codes "lostd_refusals_total") (label (codes "code") (decimal code) (44 ∷ label (codes "name") (refusal_name code) (counted (slice_index refusals (code - 1)))))

-- what the desk holds, when it last committed, whether one is connected, and whether the journal can keep nothing more
abbrev pub desk_metrics : DeskFigures → Text
desk_metrics desk =
    metric Gauge (codes "lostd_edition") (codes "The edition that is published: how many edits were accepted in all.") desk.edition
    ++ metric Gauge (codes "lostd_mappings") (codes "How many mappings are held.") desk.mappings
    ++ metric Gauge (codes "lostd_pending") (codes "How many edits are staged and not committed.") desk.pending
    ++ metric Gauge (codes "lostd_last_commit_timestamp_seconds") (codes "When the desk last committed, in seconds since 1970; 0 before its first commit.") desk.last_commit
    ++ metric Gauge (codes "lostd_desk_connected") (codes "Whether a desk is connected: 1 or 0.") (flag desk.is_open)
    ++ metric Gauge (codes "lostd_journal_failed") (codes "Whether the journal can keep nothing more until a restart: 1 or 0.") (flag desk.journal_failed)

-- the counts of query connections, of which so many are open, and so many wait
unfoldable pub connection_counts : ConnectionFigures → (opened waiting : ℕ) → Text
connection_counts f opened waiting =
    metric Counter (codes "lostd_connections_total") (codes "Query connections that were accepted.") f.accepted
    ++ metric Gauge (codes "lostd_connections_open") (codes "Query connections that have not ended, those that wait included.") opened
    ++ metric Gauge (codes "lostd_connections_waiting") (codes "Query connections that wait for a worker.") waiting
    ++ metric Counter (codes "lostd_faults_total") (codes "Query connections that ended in a fault.") f.faults
    ++ metric Counter (codes "lostd_connections_refused_total") (codes "Query connections that were closed at once, past a limit.") f.turned_away

-- the same: those are open that have not ended, and those wait that were not taken
abbrev pub connection_metrics : ConnectionFigures → Text
connection_metrics f = connection_counts f (f.accepted - f.ended) (f.accepted - f.taken)

-- the workers, and what they are doing
abbrev pub worker_metrics : Snapshot → Text
worker_metrics now =
    metric Gauge (codes "lostd_workers") (codes "How many workers there are.") now.workers
    ++ metric Gauge (codes "lostd_workers_busy") (codes "How many workers serve a connection.") now.connections.busy
    ++ metric Counter (codes "lostd_cache_hits_total") (codes "How often a worker found the place of a request in its cache.") now.replies.cache_hits

-- the log of answers
abbrev pub log_metrics : LogFigures → Text
log_metrics log =
    metric Counter (codes "lostd_log_lines_total") (codes "Lines of the log of answers that were written.") log.written
    ++ metric Counter (codes "lostd_log_left_out_total") (codes "Lines of the log of answers that were left out, since its file took none in time.") log.left_out
