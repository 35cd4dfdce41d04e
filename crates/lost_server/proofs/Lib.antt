pub mod MapLemmas
