use Rattle.std.proofs.Common.{sym, subst, ◌∙◌}
use Rattle.sc_meaning.specs.entries.Worlds.{CoverThroughout}
use Rattle.sc_world_entries.proofs.scans.scans.scan.Goals as goal

pub world_of-requires : goal.world_of-requires
world_of-requires c = subst (CoverThroughout c.args.bases.now) (sym (c.as_slice.ensures.value ∙ c.in_ok-entries.ensures.entries)) c.requires
