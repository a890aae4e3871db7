use Rattle.std.proofs.Common.{◌∙◌}
use Rattle.std.specs.Prelude.{string_bytes}
use Rattle.clap.proofs.WalkLemmas.{list_any-map}
use Rattle.sc_cli.specs.Subcommands.{has_dash}
use Rattle.sc_cli.proofs.parsing.have_dash.Goals as goal

pub returns : goal.returns
returns c = c.any_dash.ensures ∙ list_any-map has_dash string_bytes c.args.words.now
