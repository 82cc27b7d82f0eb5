-- The subscribers of the softwires.
pub mod Under
