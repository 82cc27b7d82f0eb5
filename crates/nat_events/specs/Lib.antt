-- The words of log messages.
pub mod Bad
pub mod PlanText
pub mod Spelling
pub mod Grammar
pub mod Reading
