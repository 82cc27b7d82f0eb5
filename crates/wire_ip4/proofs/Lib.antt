pub mod Attempts
pub mod Pieces
pub mod HeaderRead
pub mod GrammarLaws
pub mod SumLaws
pub mod ViewHeaders
