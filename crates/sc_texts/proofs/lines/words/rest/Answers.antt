use Rattle.sc_texts.proofs.LinesProofs.Lists.{rest_of}
use Rattle.sc_texts.proofs.lines.words.rest.Goals as goal

pub returns-then-n-texts : goal.returns-then-n-texts
returns-then-n-texts c = rest_of (λ text. text.now) c.args.n c.args.texts.now
