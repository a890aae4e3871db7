use Rattle.sc_actor.specs.System.{system}
use Rattle.sc_thread_pool.proofs.StormProofs.StormRows.{makes_its_row}
use Rattle.sc_thread_pool.proofs.storm.laws.deeds_are_rows_of_the_walk.Goals as goal

pub returns : goal.returns
returns g c = λ draws births actors rows look words inside is. makes_its_row (system g.A.Actor.table g.A.Mail.Parcel.receiver draws births) actors rows look inside is words
