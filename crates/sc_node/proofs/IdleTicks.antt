-- A tick of a settled replica that has nothing to say.
use Rattle.std.proofs.Common.{◌≡◌, Bool, true, false, List, [], refl}
use Rattle.sc_base.specs.Drawing.{Drawer}
use Rattle.sc_words.specs.declared.commands.cores.Lock.{Lock}
use Rattle.sc_words.specs.declared.commands.cores.Lock.TheVariants.{Free, Coordinating, Promised, Watching}
use Rattle.sc_mail.specs.declared.bodies.Mail.{Mail}
use Rattle.sc_node_table.specs.Policy.{wishing}
use Rattle.sc_node_table.specs.Reminders.{waited_in, reminders, reminded}
use Rattle.sc_node_table.specs.Replica.{ReplicaState}
use Rattle.sc_node_parts.specs.transactions.Quiet.{coordinates}

-- a group that coordinates nothing waits no longer
waits_alike : (lock : Lock) (r : ReplicaState) → coordinates lock ≡ false → waited_in lock r ≡ r
waits_alike Free r e = refl
waits_alike (Coordinating tx body order heard) r e = absurd (cc)
waits_alike (Promised tx offer) r e = refl
waits_alike (Watching tx watch) r e = refl

-- without a policy it stays as it is
pub unwished : (on : Bool) (drawer : Drawer) (r : ReplicaState) (mails : List Mail) → on ≡ false → coordinates r.group.core.lock ≡ false → (wishing on drawer (reminded (r, mails))).0 ≡ r
unfolding wishing reminded
unwished true drawer r mails without e = absurd (cc)
unwished false drawer r mails without e = waits_alike r.group.core.lock r e

-- the mails of a reminder
pub unreminded : (r : ReplicaState) → reminders r.group.core.lock r.me r.group [] ≡ [] → (reminded (r, [])).1 ≡ []
unfolding reminded
unreminded r e = e
