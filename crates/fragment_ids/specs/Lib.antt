-- Words that the contracts are written in.
pub mod Ids
