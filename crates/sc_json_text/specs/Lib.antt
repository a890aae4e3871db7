pub mod plain
pub mod rows
