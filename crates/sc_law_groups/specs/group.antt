pub mod ElectionExample
pub mod JoinExample
pub mod PaxosSteps
pub mod GroupDefinitions
