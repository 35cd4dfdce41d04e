-- The lines of Prometheus' text format, version 0.0.4.
use Rattle.std.specs.Prelude.{ℕ, [], ◌∷◌, ◌++◌, codes, decimal}
use Rattle.lost_spec.specs.Text.{Text}
use Rattle.lost_status.specs.declared.exposition.MetricType.{MetricType}
use Rattle.lost_status.specs.declared.exposition.MetricType.TheVariants.{Counter, Gauge}

-- the name of a type of metrics
abbrev pub type_name : MetricType → Text
type_name Counter = codes "counter"
type_name Gauge = codes "gauge"

-- what a metric is for, and of which type it is
abbrev pub description : (name kind help : Text) → Text
description name kind help =
    codes "# HELP " ++ (name ++ 32 ∷ (help ++ 10 ∷ (codes "# TYPE " ++ (name ++ 32 ∷ (kind ++ 10 ∷ [])))))

-- the value of a metric that has one
abbrev pub sample : (name : Text) (value : ℕ) → Text
sample name value = name ++ 32 ∷ (decimal value ++ 10 ∷ [])

-- a metric without labels: what it is for, of which type it is, and its value
unfoldable pub metric : (kind : MetricType) (name help : Text) (value : ℕ) → Text
metric kind name help value = description name (type_name kind) help ++ sample name value

-- a label, and what stands behind it; its value has no quote, no backslash and no end of a line
abbrev pub label : (name value rest : Text) → Text
label name value rest = name ++ 61 ∷ 34 ∷ (value ++ 34 ∷ rest)

-- a metric, and its labels with what stands behind them
abbrev pub labelled : (name labels : Text) → Text
labelled name labels = name ++ 123 ∷ labels

-- the end of the labels, and the value
abbrev pub counted : (value : ℕ) → Text
counted value = 125 ∷ 32 ∷ (decimal value ++ 10 ∷ [])
