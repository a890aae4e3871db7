use Rattle.std.proofs.Common.{◌↔◌, drop}
use Rattle.std.specs.FinMap.{empty}
use Rattle.sc_words.specs.ideal.History.{HasStoreReplies}
use Rattle.sc_world_checks.proofs.legality.has_store_replies.Given as goal

-- what is left decides
abbrev pub invariant-loop-entry : goal.invariant-loop-entry
invariant-loop-entry l = HasStoreReplies empty l.entries ↔ HasStoreReplies l.store (drop l.entry-index l.entries)
