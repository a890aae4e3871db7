pub mod ArcDistances
pub mod Paged
pub mod PairsInArcs
pub mod Rising
pub mod ScanMeaning
pub mod Walks
