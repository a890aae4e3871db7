pub mod ListsAsArrays
pub mod WrittenTexts
