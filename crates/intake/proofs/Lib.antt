pub mod Points
pub mod Gatherings
pub mod Facets
pub mod Faces
pub mod Filling
pub mod Answers
pub mod Promises
