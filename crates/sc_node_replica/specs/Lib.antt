pub mod RoundMail
pub mod Again
pub mod Bare
pub mod Steps
pub mod IdleInputs
