pub mod rows
pub mod mail
pub mod logs
pub mod groups
pub mod scenes
pub mod charts
