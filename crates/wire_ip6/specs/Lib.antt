pub mod Grammar
pub mod Chain
