pub mod Example
pub mod ReadBack
pub mod OneLine
pub mod Lengths
pub mod Lemmas
