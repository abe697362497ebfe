pub mod Decimals
pub mod Lengths
pub mod Numbers
pub mod Puts
pub mod Pages
pub mod Signs
pub mod Examples
pub mod Rooms
