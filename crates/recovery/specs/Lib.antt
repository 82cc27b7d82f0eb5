-- What a restart logs, what it answers, and what it leaves.
pub mod Closings
pub mod Answers
pub mod Leaves
pub mod Laws
pub mod Frames
