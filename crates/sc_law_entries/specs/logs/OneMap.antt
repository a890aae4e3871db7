-- What allowed entries make of the store: one map, served by the groups of the ring.
use Rattle.std.specs.Prelude.{List}
use Rattle.sc_base.specs.Definitions.{Among}
use Rattle.sc_words.specs.declared.commands.cores.Base.{Base}
use Rattle.sc_words.specs.ideal.IdealDefinitions.{Legal}
use Rattle.sc_meaning.specs.declared.entries.Cut.{Cut}
use Rattle.sc_meaning.specs.declared.entries.LogEntry.{LogEntry}
use Rattle.sc_meaning.specs.entries.EntryDefinitions.{HoldsItsPart, world_of}
use Rattle.sc_law_entries.specs.ring.RingDefinitions.{Sources, AreAllowed, first_recorded, BeginInPlace, IsRingSound}
use Rattle.sc_law_entries.specs.history.HistoryDefinitions.{BeginBare, LogNotesStay}

-- the ring is sound, the history is legal, the map after it, on each range, is the pairs of the range's group, and what any log ever made its group note has its entry in the history
pub record MakeOneMap (bases : List Base) (entries : List LogEntry) : Type 0 where
  pub ring : IsRingSound (world_of bases entries)
  pub legal : Legal (world_of bases entries).history
  pub parts : (cut : Cut) → Among cut (world_of bases entries).ring → HoldsItsPart (world_of bases entries) cut
  pub notes : LogNotesStay bases entries

-- every list of allowed entries, from groups in place that hold nothing, makes one map
abbrev pub AllowedEntriesMakeOneMap : Type 0
AllowedEntriesMakeOneMap = (sources : Sources) (bases : List Base) (entries : List LogEntry) → BeginInPlace sources bases → BeginBare bases → AreAllowed sources (first_recorded bases) entries → MakeOneMap bases entries
