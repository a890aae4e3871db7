pub mod StageEntries
