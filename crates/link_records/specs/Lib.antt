pub mod Frames
pub mod Reader
pub mod Answers
pub mod Window
pub mod Front
pub mod Search
