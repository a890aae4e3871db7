use Rattle.std.proofs.Common.{codes, ap}
use Rattle.sc_words.specs.declared.commands.cores.Lock.TheVariants.{Watching}
use Rattle.sc_json_text.specs.rows.Cores.{lock_json, FitsLock}
use Rattle.sc_json_text.specs.rows.Shapes.{variant}
use Rattle.sc_json_read.specs.Reading.{content_of}
use Rattle.sc_json_read.proofs.Finding.{failed}
use Rattle.sc_json_read.proofs.cores.lock_watching.Goals as goal

pub returns-in_err-tx-clause-finds : goal.returns-in_err-tx-clause-finds
unfolding lock_json FitsLock
returns-in_err-tx-clause-finds c = λ tx watch fits e. failed _ _ _ c.from_residual.ensures (c.in_err-tx.ensures.finds tx watch fits.0 fits.1 (ap content_of e))

pub returns-clause-finds : goal.returns-clause-finds
unfolding lock_json FitsLock
returns-clause-finds c = λ tx watch fits e. ap (λ p. Watching p.0 p.1) (c.in_ok-tx.ensures.finds tx watch fits.0 fits.1 (ap content_of e))

pub returns-clause-exact : goal.returns-clause-exact
unfolding lock_json
returns-clause-exact c = ap (variant (codes "Watching")) c.in_ok-tx.ensures.exact
