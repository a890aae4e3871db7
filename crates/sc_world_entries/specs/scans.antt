pub mod Laws
pub mod Order
pub mod Pages
pub mod Scan
pub mod Text
pub mod Walk
