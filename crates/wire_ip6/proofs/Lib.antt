pub mod ChainLaws
pub mod PacketLaws
pub mod PieceLaws
