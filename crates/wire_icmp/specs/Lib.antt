-- Definitions of ICMP messages.
pub mod Grammar
pub mod Quoted
