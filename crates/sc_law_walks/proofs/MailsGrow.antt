-- The mails of a replica's tick are put behind those that were there: a walk that says nothing of the replica.
use Rattle.std.proofs.Common.{◌≡◌, ℕ, Bool, List, [], ◌++◌, sym, ◌∙◌, ap, append_assoc, append-nil}
use Rattle.sc_base.specs.Definitions.{Drawer}
use Rattle.sc_node_table.specs.Values.{Mail, MailBody}
use Rattle.sc_node_table.specs.NodeDefinitions.{ReplicaState, sent, tick_row}
use Rattle.sc_law_walks.specs.WalkDefinitions.{IsKept}
use Rattle.sc_law_walks.proofs.StateWalks.{StateParts, state_walk, state_ticks}
use Rattle.sc_law_walks.proofs.Walks.{Walk}
use Rattle.sc_law_walks.proofs.WalkPlaces.{placed, placed_ticks}
use Rattle.sc_law_walks.proofs.PlaceTicks.{ticks}

-- these mails are the first of others
abbrev pub Begins : List Mail → List Mail → Type 0
Begins mails after = (more : List Mail) × (after ≡ mails ++ more)

pub begins_itself : (mails : List Mail) → Begins mails mails
begins_itself mails = ([], sym (append-nil mails))

pub begins_on : (mails after : List Mail) (more : List Mail) → Begins mails after → Begins mails (after ++ more)
begins_on mails after more k = (k.0 ++ more, ap (λ (ms : List Mail). ms ++ more) k.1 ∙ append_assoc mails k.0 more)

-- nothing is said of the replica
any_state : (me : ℕ) → StateParts me (λ r. Unit {0})
any_state me = record {
  entered = λ command r kept k. tt;
  landed = λ slot r k. tt;
  jumped = λ slot base sets r later k. tt;
  hinted = λ hint r off k. tt;
  ended = λ hint r k. tt;
  elected = λ r same k. tt;
  seen = λ ballot r t on k. tt;
  overtaken = λ ballot r on t k. tt;
  polled = λ from ballot reports r on k. tt;
  counts = λ from ballot slot set r on k. tt;
  readied = λ slot command r on k. tt;
  promised = λ ballot r top t k. tt;
  accepted = λ report r top t k. tt;
  flown = λ slot command r on near k. tt;
  queues = λ r acts backlog k. tt;
  waited = λ waits r k. tt;
}

put_behind : (mails : List Mail) (me to : ℕ) (body : MailBody) (after : List Mail) → Begins mails after → Begins mails (sent me to body after)
put_behind mails me to body after k = begins_on mails after _ k

pub tick_grows : (me : ℕ) (on : Bool) (drawer : Drawer) (r : ReplicaState) (mails : List Mail) → IsKept me r → Begins mails (tick_row on drawer (r, mails)).1
tick_grows me on drawer r mails kept =
    let w : Walk = state_walk me (λ s. Unit {0}) (any_state me) in
    (ticks (placed w (Begins mails) (λ from to body after same said k. put_behind mails from to body after k)) (placed_ticks w (Begins mails) (λ from to body after same said k. put_behind mails from to body after k) (state_ticks me (λ s. Unit {0}) (any_state me))) on drawer (r, mails) (kept, (tt, begins_itself mails))).1.1
