-- The definitions, one folder for each module, lowest first.
pub mod words
pub mod report
pub mod session
pub mod engine
