pub mod Clients
pub mod History
pub mod IdealStore
pub mod StoreLaws
pub mod IdealDefinitions
