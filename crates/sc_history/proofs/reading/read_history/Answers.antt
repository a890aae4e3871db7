use Rattle.std.proofs.Common.{false}
use Rattle.sc_texts.specs.lines.Definitions.{lines_in}
use Rattle.sc_history.proofs.AcceptedTexts.{read_fine}
use Rattle.sc_history.proofs.reading.read_history.Goals as goal

pub returns-clause-history : goal.returns-clause-history
returns-clause-history c = read_fine (lines_in false c.args.text.now) c.read_text.result c.read_text.ensures
