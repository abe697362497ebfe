pub mod Puts
pub mod Decimal
pub mod Examples
pub mod Rooms
pub mod Pages
