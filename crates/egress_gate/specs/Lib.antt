pub mod Output
pub mod Held
pub mod Counting
pub mod Logged
pub mod Refusals
pub mod Senders
pub mod Spelled
pub mod Answered
