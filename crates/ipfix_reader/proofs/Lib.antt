pub mod ReadingLaws
pub mod SetLaws
