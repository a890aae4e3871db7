pub mod ClientCalls
pub mod QueuedCalls
pub mod NodeQueues
