mod Counting
mod Making
mod Naming
pub mod PlacesStanding
mod Saying
pub mod Standing
pub mod Ticked
mod Passing
mod IdleTicks
mod Born
