-- Words that the contracts are written in.
pub mod Limits
pub mod Usages
