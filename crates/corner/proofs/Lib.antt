pub mod Corners
pub mod CornerAnswers
pub mod Vertices
