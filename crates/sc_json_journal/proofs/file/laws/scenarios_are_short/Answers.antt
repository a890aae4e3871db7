use Rattle.std.proofs.Common.{length}
use Rattle.std.proofs.lemmas.Bool.{ltb-false}
use Rattle.sc_texts.specs.lines.Lines.{most_bytes}
use Rattle.sc_json_journal.proofs.FileProofs.NoDivider.{not_long}
use Rattle.sc_json_journal.proofs.file.laws.scenarios_are_short.Goals as goal

pub returns : goal.returns
returns c = λ text scenario read. ltb-false most_bytes (length text) (not_long text scenario read)
