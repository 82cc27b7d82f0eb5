pub mod Kept
pub mod Packets
pub mod Steps
pub mod Arrivals
