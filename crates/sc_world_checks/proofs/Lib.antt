mod Circle
mod EntryNumbers
