pub mod EndToEnd
pub mod Stops
pub mod Attributed
pub mod Fronts
pub mod Progress
pub mod Begun
pub mod UnderWay
