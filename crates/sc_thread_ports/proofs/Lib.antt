pub mod TurnProofs
pub mod ExchangeProofs
