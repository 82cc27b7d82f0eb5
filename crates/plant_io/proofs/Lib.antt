pub mod Images
pub mod Moments
pub mod Counts
pub mod ReadBytes
