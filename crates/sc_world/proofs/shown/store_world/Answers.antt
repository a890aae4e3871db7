use Rattle.std.proofs.Common.{sym, subst, ◌∙◌}
use Rattle.sc_meaning.specs.entries.Worlds.{CoverThroughout}
use Rattle.sc_world.proofs.shown.store_world.Goals as goal

pub world_of-requires : goal.world_of-requires
world_of-requires c = subst (CoverThroughout c.args.groups.now) (sym (c.as_slice.ensures.value ∙ c.in_ok-entries.ensures.entries)) c.requires
