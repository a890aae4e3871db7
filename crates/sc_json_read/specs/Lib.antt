pub mod ParsedJson
pub mod Presence
pub mod Reading
