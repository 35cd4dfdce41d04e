pub mod EqualPlaces
mod PlaceLemmas
mod RegionLemmas
