pub mod Wishes
pub mod Laws
pub mod PolicyDefinitions
