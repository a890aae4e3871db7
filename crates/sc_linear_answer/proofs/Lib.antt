mod HistoryReadings
mod KeyLemmas
