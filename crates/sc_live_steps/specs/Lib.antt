pub mod pump
pub mod following
pub mod orders
pub mod calm
pub mod entries
