-- What waits at a replica is kept by what puts it there and takes it away.
use Rattle.std.proofs.Common.{◌≡◌, ℕ, nat_lt, true, true≢false, List, [], ◌∷◌, ◌++◌, length, Option, Some, None, refl, sym, ◌∙◌, arith}
use Rattle.std.proofs.lemmas.List.{length_push}
use Rattle.sc_node_table.specs.Values.{Command, Noop, Call, Join, Leave, Split, Begin, Prepared, RecordVote, GiveUp, Finish, Watched, RecordWatch}
use Rattle.sc_base.specs.Definitions.{Each}
use Rattle.sc_words.proofs.PaxosProofs.PaxosLemmas.{Each-append}
use Rattle.sc_node_table.specs.NodeDefinitions.{queued_number, request_before, is_request_of, without_request, put_back, rest_of, slots_ahead, ReplicaState}
use Rattle.sc_law_walks.specs.WalkDefinitions.{IsFiled, IsFiledOnMail, IsAsked, IsOrder, IsKept}
use Rattle.sc_law_walks.proofs.Ways.{either_way}

-- one set goes and one comes
pub turned_sets : (sets : List (List ℕ)) (set : List ℕ) → length sets ≡ slots_ahead → length (rest_of sets ++ set ∷ []) ≡ slots_ahead
turned_sets [] set e = cc
turned_sets (first ∷ sets) set e = (let longer = length_push sets set in omega (arith, longer, e))

-- what goes back leaves whether it runs
pub back_runs : (command : Command) (r : ReplicaState) → (put_back command r).running ≡ r.running
unfolding put_back
back_runs Noop r = refl
back_runs _ r = refl

-- an order is asked
pub order_is_asked : (command : Command) → IsOrder command → IsAsked command
order_is_asked (Join node order) q = tt
order_is_asked (Leave node order) q = tt
order_is_asked (Split at child order) q = tt
order_is_asked (Begin tx body order) q = tt
order_is_asked (Call client seq op) q = tt
order_is_asked _ q = q

-- what a mail files is filed
pub mail_files : (act : Command) → IsFiledOnMail act → IsFiled act
mail_files (Prepared tx offer) q = tt
mail_files (RecordVote tx vote by) q = tt
mail_files (GiveUp tx) q = tt
mail_files (Finish tx outcome) q = tt
mail_files (Watched tx watch) q = tt
mail_files (RecordWatch tx vote by) q = tt
mail_files _ q = q

-- a request less, and one that goes back
pub without_asked : (backlog : List Command) (client : ℕ) → Each IsAsked backlog → Each IsAsked (without_request backlog client)
without_asked [] client k = tt
without_asked (command ∷ backlog) client k = either_way (Each IsAsked) (is_request_of client command) backlog (command ∷ without_request backlog client) k.1 (k.0, without_asked backlog client k.1)

before_asked : (o : Option ℕ) (client seq : ℕ) (command : Command) (backlog : List Command) → IsAsked command → Each IsAsked backlog → Each IsAsked (request_before o client seq command backlog)
before_asked None client seq command backlog q k = (q, k)
before_asked (Some other) client seq command backlog q k = either_way (Each IsAsked) (nat_lt other seq) (command ∷ without_request backlog client) backlog (q, without_asked backlog client k) k

-- one that runs may have anything that waits, and anything in flight
pub waiting : (me : ℕ) (r : ReplicaState) (acts backlog : List Command) → r.running ≡ true → Each IsFiled acts → Each IsAsked backlog → IsKept me r → IsKept me (record r { acts = acts; backlog = backlog })
waiting me r acts backlog on filed asked k = (k.0, k.1, (λ off. absurd (true≢false (sym on ∙ off)), filed, asked))

pub one_asked : (backlog : List Command) (command : Command) → IsAsked command → Each IsAsked backlog → Each IsAsked (backlog ++ command ∷ [])
one_asked backlog command q k = Each-append IsAsked backlog (command ∷ []) k (q, tt)

pub one_filed : (acts : List Command) (command : Command) → IsFiled command → Each IsFiled acts → Each IsFiled (acts ++ command ∷ [])
one_filed acts command q k = Each-append IsFiled acts (command ∷ []) k (q, tt)

-- what goes back waits first
pub back_kept : (me : ℕ) (command : Command) (r : ReplicaState) → r.running ≡ true → IsKept me r → IsKept me (put_back command r)
unfolding put_back
back_kept me Noop r on k = k
back_kept me (Call client seq op) r on k = waiting me r r.acts (request_before (queued_number r.backlog client) client seq (Call client seq op) r.backlog) on k.2.1 (before_asked (queued_number r.backlog client) client seq (Call client seq op) r.backlog tt k.2.2) k
back_kept me (Join node order) r on k = waiting me r r.acts (Join node order ∷ r.backlog) on k.2.1 (tt, k.2.2) k
back_kept me (Leave node order) r on k = waiting me r r.acts (Leave node order ∷ r.backlog) on k.2.1 (tt, k.2.2) k
back_kept me (Split at child order) r on k = waiting me r r.acts (Split at child order ∷ r.backlog) on k.2.1 (tt, k.2.2) k
back_kept me (Begin tx body order) r on k = waiting me r r.acts (Begin tx body order ∷ r.backlog) on k.2.1 (tt, k.2.2) k
back_kept me (Prepared tx offer) r on k = waiting me r (Prepared tx offer ∷ r.acts) r.backlog on (tt, k.2.1) k.2.2 k
back_kept me (RecordVote tx vote by) r on k = waiting me r (RecordVote tx vote by ∷ r.acts) r.backlog on (tt, k.2.1) k.2.2 k
back_kept me (GiveUp tx) r on k = waiting me r (GiveUp tx ∷ r.acts) r.backlog on (tt, k.2.1) k.2.2 k
back_kept me (Finish tx outcome) r on k = waiting me r (Finish tx outcome ∷ r.acts) r.backlog on (tt, k.2.1) k.2.2 k
back_kept me (Watched tx watch) r on k = waiting me r (Watched tx watch ∷ r.acts) r.backlog on (tt, k.2.1) k.2.2 k
back_kept me (RecordWatch tx vote by) r on k = waiting me r (RecordWatch tx vote by ∷ r.acts) r.backlog on (tt, k.2.1) k.2.2 k

-- P holds of what goes back where what waits is nothing to it
pub back_any : (P : ReplicaState → Type 0) → ((r : ReplicaState) (acts backlog : List Command) → P r → P (record r { acts = acts; backlog = backlog })) → (command : Command) (r : ReplicaState) → P r → P (put_back command r)
unfolding put_back
back_any P any Noop r k = k
back_any P any (Call client seq op) r k = any r r.acts (request_before (queued_number r.backlog client) client seq (Call client seq op) r.backlog) k
back_any P any (Join node order) r k = any r r.acts (Join node order ∷ r.backlog) k
back_any P any (Leave node order) r k = any r r.acts (Leave node order ∷ r.backlog) k
back_any P any (Split at child order) r k = any r r.acts (Split at child order ∷ r.backlog) k
back_any P any (Begin tx body order) r k = any r r.acts (Begin tx body order ∷ r.backlog) k
back_any P any (Prepared tx offer) r k = any r (Prepared tx offer ∷ r.acts) r.backlog k
back_any P any (RecordVote tx vote by) r k = any r (RecordVote tx vote by ∷ r.acts) r.backlog k
back_any P any (GiveUp tx) r k = any r (GiveUp tx ∷ r.acts) r.backlog k
back_any P any (Finish tx outcome) r k = any r (Finish tx outcome ∷ r.acts) r.backlog k
back_any P any (Watched tx watch) r k = any r (Watched tx watch ∷ r.acts) r.backlog k
back_any P any (RecordWatch tx vote by) r k = any r (RecordWatch tx vote by ∷ r.acts) r.backlog k
