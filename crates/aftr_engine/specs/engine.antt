pub mod Asking
pub mod Making
pub mod Reported
pub mod Running
pub mod Texts
