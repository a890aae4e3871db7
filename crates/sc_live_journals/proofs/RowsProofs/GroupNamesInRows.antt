-- A replica keeps its group's name, and leaves no mark for another group, in each row of its table.
use Rattle.std.proofs.Common.{◌≡◌, ℕ, List, refl}
use Rattle.sc_base.specs.Definitions.{Drawer}
use Rattle.sc_node_table.specs.Values.{Draw, Base, OrderLine, MailBody, Request, Prepare, Promise, Accept, Accepted, Nack, Learn, Ask, Install}
use Rattle.sc_node_table.specs.NodeDefinitions.{ordered_row, mailed, made_by, Place, name_of}
use Rattle.sc_live_steps.specs.following.FollowingDefinitions.{Asks, Votes, Teaches, Installs, Prepares, Promises}
use Rattle.sc_live_journals.proofs.RowsProofs.SilentMail.{AreQuiet, IsQuietBody, IsQuietMail, own_quiet}
use Rattle.sc_live_journals.proofs.RowsProofs.OwnGroupMail as own

-- a replica of the group of this name, all of whose mail leaves no mark for another
abbrev Keeps : Draw → Place → Type 0
Keeps name place = (name_of place.0 ≡ name) × AreQuiet name place.1

own_said : (name : Draw) (me to : ℕ) (body : MailBody) → own.IsOwn name body → IsQuietBody name me body
own_said name me to (Prepare group ballot from_slot) own = λ other f. own_quiet name group other (Prepares ballot) own f
own_said name me to (Promise group ballot reports) own = λ other f. own_quiet name group other (Promises me ballot) own f
own_said name me to (Accept group ballot slot command) own = λ other f. own_quiet name group other (Asks ballot slot) own f
own_said name me to (Accepted group ballot slot) own = λ other f. own_quiet name group other (Votes me ballot slot) own f
own_said name me to (Nack group promised) own = absurd own
own_said name me to (Learn group slot command) own = λ other f. own_quiet name group other (Teaches slot) own f
own_said name me to (Ask group from_slot) own = λ other f. own_quiet name group other (Teaches 0) own f
own_said name me to (Install group slot base sets) own = λ other f. own_quiet name group other (Installs slot) own f
own_said name me to (Request group client seq op) own = absurd own
own_said name me to _ own = λ other f. refl

pub mailed_keeps : (name : Draw) (from : ℕ) (body : MailBody) (place : Place) → Keeps name place → Keeps name (mailed from body place).0
mailed_keeps name from body place k =
    own.mailed_keeps (IsQuietMail name) name (own_said name) (λ r. Unit {0}) (λ sender mail. Unit {0}) (λ me to mail start first h no. λ other f. own_quiet name name other (Teaches 0) refl f) from body place tt tt k

pub order_keeps : (name : Draw) (drawer : Drawer) (line : OrderLine) (place : Place) → Keeps name place → Keeps name (ordered_row drawer line place)
order_keeps name drawer line place k =
    own.order_keeps (IsQuietMail name) name (own_said name) (λ r. Unit {0}) (λ sender mail. Unit {0}) (λ me to mail start first h no. λ other f. own_quiet name name other (Teaches 0) refl f) drawer line place k

-- a replica that is made of a state that is sent
pub made_keeps : (me from : ℕ) (group : Draw) (slot : ℕ) (base : Base) (sets : List (List ℕ)) → Keeps group (made_by me from group slot base sets)
made_keeps me from group slot base sets =
    own.made_keeps (IsQuietMail group) group (own_said group) (λ r. Unit {0}) (λ sender mail. Unit {0}) (λ me to mail start first h no. λ other f. own_quiet group group other (Teaches 0) refl f) me from slot base sets
