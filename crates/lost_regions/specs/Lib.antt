pub mod UnderNumber
pub mod MappedPolygons
pub mod Regions
