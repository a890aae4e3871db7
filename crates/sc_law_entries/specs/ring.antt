pub mod Allowed
pub mod Invariant
pub mod Stories
pub mod RingLaws
pub mod RingExample
pub mod RingDefinitions
