mod WindowSteps
pub mod FrameSteps
