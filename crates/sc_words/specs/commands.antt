pub mod Cores
pub mod Effects
pub mod Order
pub mod Weight
pub mod CommandDefinitions
