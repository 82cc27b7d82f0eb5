pub mod Messages
pub mod Fronts
pub mod Reports
