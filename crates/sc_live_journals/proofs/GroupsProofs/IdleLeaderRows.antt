-- By a promise, an order and mail that is no part of the agreement a leader executes nothing.
use Rattle.std.proofs.Common.{◌≡◌, ℕ, ◌&&◌, not, Bool, true, false, cond, List, [], ◌∷◌, ◌++◌, refl, ap}
use Rattle.sc_base.specs.Definitions.{Drawer, same_ballot, is_member}
use Rattle.sc_node_table.specs.Values.{Ballot, Command, OrderLine, MailBody, Promise, Report}
use Rattle.sc_words.specs.paxos.PaxosDefinitions.{LeaderState, promise_counted}
use Rattle.sc_node_table.specs.declared.ReplicaInput.TheVariants as Given
use Rattle.sc_node_table.specs.NodeDefinitions.{pumped, ReplicaState, name_of, next, mailed, stepped, leads, promise_row}
use Rattle.sc_live_steps.specs.following.FollowingDefinitions.{Progress, Sets, IsLeadOf, IsAside, MayOffer}
use Rattle.sc_live_steps.proofs.FollowingProofs.FollowingLemmas.{aside_is, order_is, pumps_offer}

module _ (at : Sets) (now : Progress) (r : ReplicaState) (was : IsLeadOf at now r) where
  -- one with other queues may offer as well
  queued_may : (acts backlog : List Command) → MayOffer at now.course (record r { acts = acts; backlog = backlog })
  queued_may acts backlog = (let m = was.led.may in record { ballot = m.ballot; sets = m.sets; low = m.low; high = m.high; taken = m.taken; free = m.free })

  -- what it offers then leaves what is executed
  pumps_stay : (acts backlog : List Command) → next (pumped (record r { acts = acts; backlog = backlog }, [])).0 ≡ next r
  pumps_stay acts backlog = ap next (pumps_offer at now.course (record r { acts = acts; backlog = backlog }, []) (queued_may acts backlog)).fact

  pub asides_stay : (from : ℕ) (body : MailBody) → IsAside r body → next (mailed from body (r, [])).0.0 ≡ next r
  asides_stay from body aside = aside_is (λ p. next p.0 ≡ next r) r was.led.running (λ top acts backlog more none. refl) pumps_stay from body aside

  pub orders_stay : (on : Bool) (drawer : Drawer) (line : OrderLine) → next (stepped on drawer (Given.Told line) (r, [])).0.0 ≡ next r
  orders_stay on drawer line = order_is (λ p. next p.0 ≡ next r) r was.led.running (λ top acts backlog more none. refl) pumps_stay on drawer line

  -- a promise that is counted, or not
  pledged_may : (promisers : List ℕ) (reports : List (Report Command)) (b : Bool) → MayOffer at now.course (record r { leader = (cond {A = Bool × LeaderState Command} b (true, record r.leader { promisers = promisers; reports = reports }) (false, r.leader)).1 })
  pledged_may promisers reports true = (let m = was.led.may in record { ballot = m.ballot; sets = m.sets; low = m.low; high = m.high; taken = m.taken; free = m.free })
  pledged_may promisers reports false = (let m = was.led.may in record { ballot = m.ballot; sets = m.sets; low = m.low; high = m.high; taken = m.taken; free = m.free })

  pub promises_stay : (from : ℕ) (ballot : Ballot) (reports : List (Report Command)) → next (mailed from (Promise (name_of r) ballot reports) (r, [])).0.0 ≡ next r
  unfolding mailed promise_row
  promises_stay from ballot reports = by (leads ballot r)
    where
      counted : next (pumped (record r { leader = (promise_counted from ballot reports r.leader).1 }, [])).0 ≡ next r
      counted = ap next (pumps_offer at now.course (record r { leader = (promise_counted from ballot reports r.leader).1 }, [])
          (pledged_may (r.leader.promisers ++ from ∷ []) (r.leader.reports ++ reports) (same_ballot ballot r.leader.ballot && not (is_member r.leader.promisers from)))).fact

      by : (b : Bool) → next (cond b (pumped (record r { leader = (promise_counted from ballot reports r.leader).1 }, [])) (r, [])).0 ≡ next r
      by true = counted
      by false = refl
