pub mod reading
pub mod deeds
