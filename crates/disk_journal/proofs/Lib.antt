pub mod Spellings
pub mod Walks
pub mod Tails
mod CommitSteps
mod FrameReads
mod Headers
mod MakeSteps
