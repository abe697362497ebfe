pub mod FreeCurves
pub mod Answering
pub mod Marked
