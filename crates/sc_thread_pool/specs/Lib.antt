pub mod storm
