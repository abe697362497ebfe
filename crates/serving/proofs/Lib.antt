pub mod ServerTicks
pub mod Fittings
pub mod LeftTicks
