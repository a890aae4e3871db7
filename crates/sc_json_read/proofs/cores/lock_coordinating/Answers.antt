use Rattle.std.proofs.Common.{codes, ap}
use Rattle.sc_words.specs.declared.commands.cores.Lock.TheVariants.{Coordinating}
use Rattle.sc_json_text.specs.rows.Cores.{lock_json, FitsLock}
use Rattle.sc_json_text.specs.rows.Shapes.{variant}
use Rattle.sc_json_read.specs.Reading.{content_of}
use Rattle.sc_json_read.proofs.Finding.{failed}
use Rattle.sc_json_read.proofs.cores.lock_coordinating.Goals as goal

pub returns-in_err-body-clause-finds : goal.returns-in_err-body-clause-finds
unfolding lock_json FitsLock
returns-in_err-body-clause-finds c = λ tx body order heard fits e. failed _ _ _ c.from_residual.ensures (c.in_err-body.ensures.finds body heard order tx fits.0 fits.1 fits.2 fits.3 (ap content_of e))

pub returns-clause-finds : goal.returns-clause-finds
unfolding lock_json FitsLock
returns-clause-finds c = λ tx body order heard fits e. ap (λ p. Coordinating p.3 p.0 p.2 p.1) (c.in_ok-body.ensures.finds body heard order tx fits.0 fits.1 fits.2 fits.3 (ap content_of e))

pub returns-clause-exact : goal.returns-clause-exact
unfolding lock_json
returns-clause-exact c = ap (variant (codes "Coordinating")) c.in_ok-body.ensures.exact
