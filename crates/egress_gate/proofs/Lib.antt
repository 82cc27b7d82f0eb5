pub mod Logging
pub mod Spelled
pub mod Sending
pub mod GateStops
pub mod NamesApart
pub mod Naming
pub mod WholeItems
pub mod BatchNames
