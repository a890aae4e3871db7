use Rattle.sc_meaning.proofs.EntriesProofs.Children.{births_are_children as they_are}
use Rattle.sc_meaning.proofs.entries.births_are_children.Goals as goal

pub returns : goal.returns
returns c = they_are
