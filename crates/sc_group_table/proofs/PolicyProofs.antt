pub mod Prefixes
pub mod RisingPositions
