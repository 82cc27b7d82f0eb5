pub mod Frames
pub mod Walk
pub mod Standing
pub mod Frame
pub mod Commit
pub mod Attach
pub mod Make
