pub mod Apart
pub mod Example
pub mod Joins
pub mod Kept
pub mod Tables
pub mod IdealLemmas
