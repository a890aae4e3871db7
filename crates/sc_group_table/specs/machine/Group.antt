-- A group as its state machine holds it.
use Rattle.std.specs.FinMap.{empty, entries}
use Rattle.sc_words.specs.ideal.IdealDefinitions.{Contents, with_pairs, ClientTable, joined_with}
use Rattle.sc_words.specs.declared.commands.cores.Core.{Core}
use Rattle.sc_words.specs.declared.commands.cores.Base.{Base}

-- a group: its record, its pairs and its client table
pub record Group : Type 0 where
  pub core : Core
  pub pairs : Contents
  pub clients : ClientTable

-- the group that starts from this record with its pairs and client table
abbrev pub group_of : Base → Group
group_of base = record { core = base.core; pairs = with_pairs empty base.pairs; clients = joined_with empty base.clients }

-- the whole record of a group, with its pairs and client table
abbrev pub base_of : Group → Base
base_of group = record { core = group.core; pairs = entries group.pairs; clients = entries group.clients }
