-- Definitions of IPv4 headers.
pub mod Grammar
pub mod Forwarded
