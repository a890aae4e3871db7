pub mod OneEach
pub mod Roomy
pub mod PaxosDefinitions
