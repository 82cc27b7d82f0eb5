-- Definitions of ICMP errors under translation.
pub mod Translated
pub mod Made
pub mod Errors
