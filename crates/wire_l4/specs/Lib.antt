-- Words that the contracts are written in.
pub mod Grammar
pub mod Places
