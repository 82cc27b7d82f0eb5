pub mod Tunnel
pub mod Cut
pub mod Reading
