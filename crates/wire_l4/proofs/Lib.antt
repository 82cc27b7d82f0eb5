pub mod Words
pub mod Segments
pub mod UdpGrammar
pub mod TcpGrammar
pub mod Replacing
pub mod Sums
