pub mod Choices
pub mod Cuts
pub mod Lists
pub mod Lemmas
