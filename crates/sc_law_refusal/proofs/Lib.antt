pub mod QueueProofs
pub mod RefusalProofs
pub mod PatienceProofs
pub mod ResultsProofs
