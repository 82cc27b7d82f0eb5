pub mod Grammar
pub mod Draft
pub mod Lending
