-- Reassembly of fragments (RFC 791 3.2, RFC 8200 4.5, RFC 5722 4).
pub mod Keys
pub mod Whole
pub mod Offers
pub mod Orders
