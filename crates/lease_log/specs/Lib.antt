pub mod Applying
pub mod Sound
pub mod Index
pub mod Log
pub mod Batch
pub mod Answers
pub mod Prepared
