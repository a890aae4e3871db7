pub mod AcceptorLemmas
pub mod BallotLemmas
pub mod ChoiceLemmas
pub mod ListLemmas
pub mod PaxosLemmas
