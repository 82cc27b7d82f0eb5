-- The words of the configuration's contracts.
pub mod Defaults
pub mod Accepted
