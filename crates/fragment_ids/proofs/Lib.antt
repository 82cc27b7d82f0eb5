pub mod Places
pub mod CountLaws
