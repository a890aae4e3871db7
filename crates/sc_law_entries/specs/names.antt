pub mod Owners
pub mod Names
pub mod NameLaws
pub mod Fresh
pub mod NameExample
pub mod Naming
pub mod NameDefinitions
