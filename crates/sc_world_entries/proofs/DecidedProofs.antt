pub mod BornOnce
pub mod Families
pub mod Gained
pub mod Hearing
pub mod InPlace
pub mod OneMore
pub mod Pools
pub mod RowByRow
