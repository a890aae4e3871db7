pub mod Pumping
pub mod PumpLemmas
