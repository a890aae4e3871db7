pub mod Movers
pub mod Moves
pub mod RisingNodes
pub mod Totals
