-- A pump leaves a lone work of an order where it is: it waits, is in flight or is ready.
use Rattle.std.proofs.Common.{◌≡◌, ℕ, ◌+◌, List, [], ◌∷◌, ◌++◌, Option, Some, None, refl, sym, ◌∙◌, ap, append-nil}
use Rattle.std.proofs.lemmas.List.{append_assoc}
use Rattle.sc_base.specs.Definitions.{client_actor}
use Rattle.sc_node_table.specs.Values.{Draw, Command, Noop, Call, Core, AnswerBody, Mail, Accept, Answer, Flight}
use Rattle.sc_words.specs.declared.paxos.answers.Must.TheVariants.{Value, Gap, Free as Open}
use Rattle.sc_words.specs.paxos.PaxosDefinitions.{must}
use Rattle.sc_node_table.specs.NodeDefinitions.{answered, turned_down, offered, pumped, ReplicaState, Place, name_of, listed}
use Rattle.sc_law_walks.proofs.WalkLemmas.{TableOffers, pump_keeps}
use Rattle.sc_live_steps.specs.orders.OrderDefinitions.{Work, work_by, works_in, works_flying, works_ready, works, errands_for, IsUnbound, PumpsKeepWork}
use Rattle.sc_live_steps.proofs.OrderStepsProofs.NamedValues.{single}
use Rattle.sc_live_steps.proofs.OrderStepsProofs.Errands.{errands-none, errands-all}

-- ---- a lone element may stand anywhere in a list

nothing_in : {X : Type 0} (xs ys : List X) (x : X) → xs ++ (x ∷ ys) ≡ [] → ⊥
nothing_in [] ys x e = absurd cc
nothing_in (z ∷ xs) ys x e = absurd cc

pub to-head : (w : Option Work) (xs ys : List Work) (o : Option Work) → xs ++ (listed w ++ ys) ≡ listed o → listed w ++ (xs ++ ys) ≡ listed o
to-head None xs ys o e = e
to-head (Some x) xs ys None e = absurd (nothing_in xs ys x e)
to-head (Some x) xs ys (Some y) e = (let s = single y x xs ys (sym e) in ap (λ l. x ∷ l) s.1 ∙ ap (λ z. z ∷ []) (sym s.0))

pub from-head : (w : Option Work) (xs ys : List Work) (o : Option Work) → listed w ++ (xs ++ ys) ≡ listed o → xs ++ (listed w ++ ys) ≡ listed o
from-head None xs ys o e = e
from-head (Some x) [] ys o e = e
from-head (Some x) (z ∷ xs) ys None e = absurd cc
from-head (Some x) (z ∷ xs) ys (Some y) e = (let f : z ∷ (xs ++ ys) ≡ [] = cc in absurd cc)

flying_more : (flights : List (Flight Command)) (flight : Flight Command) → works_flying (flights ++ flight ∷ []) ≡ works_flying flights ++ listed (work_by flight.value)
flying_more [] flight = append-nil (listed (work_by flight.value))
flying_more (first ∷ flights) flight = ap (λ l. listed (work_by first.value) ++ l) (flying_more flights flight) ∙ sym (append_assoc (listed (work_by first.value)) (works_flying flights) (listed (work_by flight.value)))

-- ---- a request that gets no slot

turned_work : (core : Core) (command : Command) (answer : AnswerBody) → turned_down core command ≡ Some answer → work_by command ≡ None
turned_work core (Call client seq op) answer e = refl
turned_work core Noop answer e = refl
turned_work core _ answer e = cc

turned_errands : (name : Draw) (me : ℕ) (group : Draw) (command : Command) (answer : AnswerBody) (mails : List Mail) → errands_for name (answered me group answer command mails) ≡ errands_for name mails
unfolding answered
turned_errands name me group (Call client seq op) answer mails = errands-none name me (client_actor client) (Answer group seq answer) mails refl
turned_errands name me group _ answer mails = refl

-- ---- places of a pump: the state, who runs, and what must be proposed stay, and so do the lone work and the errands

module _ (r0 : ReplicaState) (mails0 : List Mail) (o : Option Work) where
  pub record Stays (r : ReplicaState) (mails : List Mail) : Type 0 where
    pub group : r.group ≡ r0.group
    pub me : r.me ≡ r0.me
    pub running : r.running ≡ r0.running
    pub musts : (slot : ℕ) → must slot r.leader ≡ must slot r0.leader
    pub errands : (name : Draw) → errands_for name mails ≡ errands_for name mails0

  abbrev pub IsPumped : Place → Type 0
  IsPumped place = Stays place.0 place.1 × (works place.0 ≡ listed o)

  offered_pumps : (slot : ℕ) (set : List ℕ) (command : Command) (r : ReplicaState) (mails : List Mail) → Stays r mails → listed (work_by command) ++ works r ≡ listed o → IsPumped (offered slot set command (r, mails))
  unfolding offered
  offered_pumps slot set command r mails s e = (
    record {
      group = s.group;
      me = s.me;
      running = s.running;
      musts = s.musts;
      errands = λ name. errands-all name r.me set (Accept (name_of r) r.leader.ballot slot command) mails (λ to. refl) ∙ s.errands name;
    },
    ap (λ l. works_in r.acts ++ (works_in r.backlog ++ (l ++ works_ready r.ready))) (flying_more r.leader.flights (record { slot = slot; value = command; voters = None }))
        ∙ (ap (λ l. works_in r.acts ++ (works_in r.backlog ++ l)) (append_assoc (works_flying r.leader.flights) (listed (work_by command)) (works_ready r.ready))
        ∙ (sym (assoc (listed (work_by command) ++ works_ready r.ready)) ∙ from-head (work_by command) (works_in r.acts ++ (works_in r.backlog ++ works_flying r.leader.flights)) (works_ready r.ready) o
        (ap (λ l. listed (work_by command) ++ l) (assoc (works_ready r.ready)) ∙ e))),
  )
    where
      assoc : (l : List Work) → (works_in r.acts ++ (works_in r.backlog ++ works_flying r.leader.flights)) ++ l ≡ works_in r.acts ++ (works_in r.backlog ++ (works_flying r.leader.flights ++ l))
      assoc l = append_assoc (works_in r.acts) (works_in r.backlog ++ works_flying r.leader.flights) l ∙ ap (λ x. works_in r.acts ++ x) (append_assoc (works_in r.backlog) (works_flying r.leader.flights) l)

  -- what waits is nothing to what stays
  requeued : (acts backlog : List Command) (r : ReplicaState) (mails : List Mail) → Stays r mails → Stays (record r { acts = acts; backlog = backlog }) mails
  requeued acts backlog r mails s = record { group = s.group; me = s.me; running = s.running; musts = s.musts; errands = s.errands }

  abbrev Late : Place → Type 0
  Late place = IsPumped place × IsUnbound place.0

  unbound_still : (slot : ℕ) (set : List ℕ) (command : Command) (r : ReplicaState) (mails : List Mail) → IsUnbound r → IsUnbound (offered slot set command (r, mails)).0
  unfolding offered
  unbound_still slot set command r mails unbound = unbound

  offers_late : (slot : ℕ) (set : List ℕ) (command : Command) (r : ReplicaState) (mails : List Mail) → Stays r mails → listed (work_by command) ++ works r ≡ listed o → IsUnbound r → Late (offered slot set command (r, mails))
  offers_late slot set command r mails s e unbound = (offered_pumps slot set command r mails s e, unbound_still slot set command r mails unbound)

  offers_stay : TableOffers Late
  offers_stay = record {
    turned = λ command answer backlog r mails on e no k. (
      (
        record { group = k.0.0.group; me = k.0.0.me; running = k.0.0.running; musts = k.0.0.musts; errands = λ name. turned_errands name r.me r.group.core.id command answer mails ∙ k.0.0.errands name },
        ap (λ l. works_in r.acts ++ (l ++ (works_flying r.leader.flights ++ works_ready r.ready))) (ap (λ w. listed w ++ works_in backlog) (sym (turned_work r.group.core command answer no)) ∙ ap works_in (sym e)) ∙ k.0.1,
      ),
      k.1,
    );
    offers_value = λ slot set command r mails on at free e k. absurd (let bad : Open ≡ Value command = sym (k.1 slot at.low) ∙ e in cc);
    offers_noop = λ slot set r mails on at free gap k. absurd (let bad : Open ≡ Gap = sym (k.1 slot at.low) ∙ gap in cc);
    offers_act = λ slot set act acts r mails on at free e k. offers_late slot set act (record r { acts = acts }) mails (requeued acts r.backlog r mails k.0.0)
        (sym (append_assoc (listed (work_by act)) (works_in acts) (works_in r.backlog ++ (works_flying r.leader.flights ++ works_ready r.ready)))
        ∙ (ap (λ l. works_in l ++ (works_in r.backlog ++ (works_flying r.leader.flights ++ works_ready r.ready))) (sym e) ∙ k.0.1)) k.1;
    offers_call = λ slot set command backlog r mails on at free e k. offers_late slot set command (record r { backlog = backlog }) mails (requeued r.acts backlog r mails k.0.0)
        (to-head (work_by command) (works_in r.acts) (works_in backlog ++ (works_flying r.leader.flights ++ works_ready r.ready)) o
        (ap (λ l. works_in r.acts ++ l) (sym (append_assoc (listed (work_by command)) (works_in backlog) (works_flying r.leader.flights ++ works_ready r.ready)))
        ∙ (ap (λ l. works_in r.acts ++ (l ++ (works_flying r.leader.flights ++ works_ready r.ready))) (ap works_in (sym e)) ∙ k.0.1))) k.1;
  }

  pub pump-stays : IsUnbound r0 → works r0 ≡ listed o → IsPumped (pumped (r0, mails0))
  pump-stays unbound e = (pump_keeps Late offers_stay (r0, mails0) ((record { group = refl; me = refl; running = refl; musts = λ slot. refl; errands = λ name. refl }, e), unbound)).0.0

-- A pump leaves the one work of an order that a leader has where it is: it waits, is in flight or is ready; and it sends no mail of a transaction.
pub pumps-keep : PumpsKeepWork
pumps-keep o r unbound e = (let p = pump-stays r [] o unbound e in record { group = p.0.group; me = p.0.me; running = p.0.running; work = p.1; sends = (tt, λ name none. p.0.errands name) })
