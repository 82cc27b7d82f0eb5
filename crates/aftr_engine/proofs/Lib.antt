mod ReportRows
mod TextRows
mod WorkedRows
pub mod Attributed
pub mod Attribution
pub mod Begins
pub mod Endings
pub mod Firsts
pub mod FrameMoments
pub mod FrontSteps
pub mod Groups
pub mod Lines
pub mod LogStops
pub mod Passing
pub mod RunSteps
pub mod RunStops
pub mod WordParts
pub mod Writes
