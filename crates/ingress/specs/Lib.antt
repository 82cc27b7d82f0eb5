-- From a record's bytes to a whole IPv4 packet.
pub mod Arrival
pub mod Gathering
pub mod Packet
pub mod Ip4
pub mod SoftwireSide
pub mod PublicSide
pub mod Laws
