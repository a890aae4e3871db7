-- What a leader offers: by its promises, at slots that its ballot has not offered before.
use Rattle.std.proofs.Common.{◌≡◌, ℕ, ◌+◌, ◌<◌, ◌≤◌, ◌||◌, not, Bool, true, false, eqb, List, [], ◌∷◌, ◌++◌, length, take, Option, Some, None, is_some, ◌⊎◌, inl, inr, refl, sym, ◌∙◌, ap, subst, arith}
use Rattle.std.specs.Option.{option_map}
use Rattle.std.specs.List.{find}
use Rattle.std.proofs.lemmas.Bool.{eq-eqb, and_parts, or_cases, cond-true, cond_both}
use Rattle.sc_node_table.specs.Values.{Ballot, Op, Route, Command, Call, Base, Core, AnswerBody, Mail, MailBody, Accept, Flight, Report}
use Rattle.sc_words.specs.ideal.IdealDefinitions.{key_of, holds_key}
use Rattle.sc_mail.specs.declared.bodies.AnswerBody.TheVariants as Says
use Rattle.sc_base.specs.Definitions.{is_majority, Among, Each}
use Rattle.sc_words.specs.declared.paxos.answers.Must.TheVariants.{Value}
use Rattle.sc_words.specs.paxos.PaxosDefinitions.{below, choice, names_above, must, must_without, flight_at, with_flight_at}
use Rattle.sc_words.proofs.PaxosProofs.PaxosLemmas.{choice_among, Each-among, Each-weaker, Each-append}
use Rattle.sc_paxos_law.specs.PaxosLawDefinitions.{Step, Offered, needed, members_of, CountedPromise, MayOffer}
use Rattle.sc_paxos_law.proofs.Lemmas.{Among-left, Among-right, from_flat_map, was_offered, report_accepted, elected_by}
use Rattle.sc_node_table.specs.NodeDefinitions.{refused_by, turned_down, offered, sent_all, at_slot, ReplicaState, Place, name_of, flying, either, taken_at}
use Rattle.sc_meaning.specs.sound.SoundDefinitions.{Ahead}
use Rattle.sc_law_groups.proofs.GroupProofs.Growth.{later_learnt}
use Rattle.sc_law_groups.proofs.GroupProofs.Invariant.{Steps, rule, first, later_has, IsTaken, IsReplica, next_after, queued_replica, IsTrueAnswer, later_flying}
use Rattle.sc_law_groups.proofs.GroupProofs.Midway.{Fine, turn, steps}
use Rattle.sc_law_groups.proofs.GroupProofs.EachElement.{Each-take}
use Rattle.sc_law_groups.proofs.GroupProofs.MajorityVotes.{AreMembersAt, open_set}
use Rattle.sc_law_groups.proofs.GroupProofs.Sending.{asked_accept, name_is, HasOffered, offered_again}
use Rattle.sc_law_walks.proofs.WalkLemmas.{IsOpenOffer}
use Rattle.sc_law_walks.proofs.Talks.{all_sent}

-- ---- what is taken

find_some : {X : Type 0} (p : X → Bool) (xs : List X) (x : X) → Among x xs → p x ≡ true → is_some (find p xs) ≡ true
find_some p [] x a t = absurd a
find_some p (y ∷ ys) x (inl e) t = ap (λ o. is_some o) (cond-true (p y) (Some y) (find p ys) (ap p e ∙ t))
find_some p (y ∷ ys) x (inr a) t = cond_both (p y) (Some y) (find p ys) (λ o. is_some o ≡ true) (λ _. refl) (λ _. find_some p ys x a t)

slot_some : {X : Type 0} (es : List (ℕ × X)) (slot : ℕ) (x : X) → Among (slot, x) es → is_some (at_slot es slot) ≡ true
slot_some [] slot x a = absurd a
slot_some {X} (e ∷ es) slot x (inl same) = ap (λ (o : Option X). is_some o) (cond-true (eqb e.0 slot) (Some e.1) (at_slot es slot) (eq-eqb e.0 slot (ap (λ (p : ℕ × X). p.0) same)))
slot_some {X} (e ∷ es) slot x (inr a) = cond_both (eqb e.0 slot) (Some e.1) (at_slot es slot) (λ (o : Option X). is_some o ≡ true) (λ _. refl) (λ _. slot_some es slot x a)

either_first : {X Y : Type 0} (f : X → Y) (o : Option X) (p : Option Y) → is_some o ≡ true → is_some (either (option_map f o) p) ≡ true
either_first f None p t = cc
either_first f (Some x) p t = refl

either_second : {X : Type 0} (o p : Option X) → is_some p ≡ true → is_some (either o p) ≡ true
either_second None p t = t
either_second (Some x) p t = refl

abbrev IsTakenBy : ReplicaState → ℕ → Type 0
IsTakenBy r slot = ((flight : Flight Command) × Among flight r.leader.flights × (flight.slot ≡ slot)) ⊎ ((command : Command) × Among (slot, command) r.ready)

taken_is : (r : ReplicaState) (slot : ℕ) → IsTakenBy r slot → is_some (taken_at r slot) ≡ true
taken_is r slot (inl (flight, a, e)) =
    either_first (λ (f : Flight Command). f.value) (flight_at slot r.leader.flights) (at_slot r.ready slot)
    (find_some (λ (f : Flight Command). eqb f.slot slot) r.leader.flights flight a (eq-eqb flight.slot slot e))
taken_is r slot (inr (c, a)) = either_second (flying r slot) (at_slot r.ready slot) (slot_some r.ready slot c a)

-- ---- what must be offered

pub must_value : (above : Bool) (o : Option (Report Command)) (c : Command) → must_without above (option_map (λ (report : Report Command). report.value) o) ≡ Value c
    → (best : Report Command) × (o ≡ Some best) × (best.value ≡ c)
must_value above (Some best) c e = (best, refl, cc)
must_value true None c e = cc
must_value false None c e = cc

module _ (ahead : Ahead) (base : Base) (made : Command → Type 0) (heard : MailBody → Type 0) (me : ℕ) (older : List Mail) (before : Steps)
    (some : (log : List Command) → Each made log → (node : ℕ) × (rest : List ℕ) × ((rule ahead base).members log ≡ node ∷ rest)) where
  abbrev Ok : Place → Type 0
  Ok = Fine ahead base made heard me older before

  -- ---- one offer

  offering_replica : (h : Steps) (slot : ℕ) (c : Command) (r : ReplicaState) → IsReplica ahead base made h me r → r.running ≡ true
      → IsReplica ahead base made (Offered r.leader.ballot slot c ∷ h) me (record r { leader = with_flight_at slot c r.leader })
  offering_replica h slot c r k runs =
      let l = k.leads runs in
      let s : Step Command = Offered r.leader.ballot slot c in
      let new : Flight Command = record { slot = slot; value = c; voters = None } in
      let stays : (at : ℕ) → (at < length k.whole + 1) ⊎ IsTaken ahead base r.leader r.ready at → (at < length k.whole + 1) ⊎ IsTaken ahead base (with_flight_at slot c r.leader) r.ready at = λ at o. (
      elim o [
        | inl lt ↦ inl lt
        | inr (inl (f, a, e)) ↦ inr (inl (f, Among-left f r.leader.flights (new ∷ []) a, e))
        | inr (inr p) ↦ inr (inr p)
      ]) in
      record {
        me_is = k.me_is;
        whole = k.whole;
        log_is = later_has ahead base made s h k.whole r.log r.group k.log_is;
        acceptor_is = k.acceptor_is;
        tops = λ b at d a own. elim a [
          | inl e ↦ (let same : r.leader.ballot ≡ b = cc in subst (λ (x : Ballot). x.round ≤ r.top.round) same l.low)
          | inr o ↦ k.tops b at d o own
        ];
        prepares = λ b from a own. elim a [ inl e ↦ cc | inr o ↦ k.prepares b from o own ];
        count = k.count;
        sets = k.sets;
        backlog = k.backlog;
        acts = k.acts;
        flights = Each-append _ r.leader.flights (new ∷ []) (Each-weaker _ _ (λ f p. later_flying ahead base made me s h r.leader.ballot f p) r.leader.flights k.flights) ((inl refl, tt), tt);
        ready = Each-weaker _ _ (λ e p. later_learnt (rule ahead base) s h e.0 e.1 p) r.ready k.ready;
        leads = λ _. record {
          own = l.own;
          low = l.low;
          first_is = l.first_is;
          votes = l.votes;
          promisers = l.promisers;
          reports = l.reports;
          made = Each-weaker _ _ (λ v p. (inr p.0, p.1)) l.votes l.made;
          offers = λ at d a. elim a [
            | inl e ↦ (let same : slot ≡ at = cc in inr (inl (new, Among-right new r.leader.flights (new ∷ []) (inl refl), same)))
            | inr o ↦ stays at (l.offers at d o)
          ];
        };
      }

  may_be_offered : (slot : ℕ) (c : Command) (set : List ℕ) (r : ReplicaState) (mails : List Mail) (f : Ok (r, mails)) → r.running ≡ true → taken_at r slot ≡ None → IsOpenOffer slot set c r → AreMembersAt ahead base f.replica.whole slot set
      → MayOffer (rule ahead base) (first ahead base) r.leader.ballot slot c (f.newer ++ before)
  may_be_offered slot c set r mails f runs free at here =
      let h = f.newer ++ before in
      let k = f.replica in
      let l = k.leads runs in
      let up = at.low in
      let next_at = next_after ahead base made h me r k in
      let promised = (and_parts (not (below r.leader.ballot r.acceptor.promised)) (r.leader.is_first || is_majority set r.leader.promisers) at.may).1 in
      record {
        log = k.whole;
        is_log = k.log_is.is_log;
        known = here.1;
        elected = elim (or_cases r.leader.is_first (is_majority set r.leader.promisers) promised) [
          | inl t ↦ inl (l.first_is t)
          | inr t ↦ inr (elected_by (members_of (rule ahead base) k.whole slot) h slot c r.leader l.votes l.promisers l.reports
              (Each-weaker _ _ (λ v p. (p.0, omega (arith, p.1, up, next_at))) l.votes l.made)
              (subst (λ ms. is_majority ms r.leader.promisers ≡ true) here.0 t) at.obeys)
        ];
        only = λ other a. elim (l.offers slot other a) [
          | inl lt ↦ absurd (omega (arith, lt, up, next_at))
          | inr taken ↦ (let yes = taken_is r slot taken in let none = ap (λ (o : Option Command). is_some o) free in let no_way : true ≡ false = sym yes ∙ none in absurd (cc))
        ];
      }

  offered_to : (slot : ℕ) (c : Command) (node : ℕ) (rest : List ℕ) (r : ReplicaState) (mails : List Mail) (f : Ok (r, mails)) → r.running ≡ true → made c
      → MayOffer (rule ahead base) (first ahead base) r.leader.ballot slot c (f.newer ++ before) → Ok (offered slot (node ∷ rest) c (r, mails))
  unfolding offered sent_all steps
  offered_to slot c node rest r mails f runs m may =
      let k = f.replica in
      let h = f.newer ++ before in
      let b = r.leader.ballot in
      let after : ReplicaState = record r { leader = with_flight_at slot c r.leader } in
      let mail : Mail = record { from = r.me; to = node; body = Accept (name_of r) b slot c } in
      let own = (k.leads runs).own in
      let place = steps ahead base made heard me older before r after mails mail (Offered b slot c) f (asked_accept (name_of r) base.core.id b slot c (name_is ahead base made heard me older before h r k)) (name_is ahead base made heard me older before h r k) own may
      (λ d s v e. (let same : c ≡ v = cc in subst made same m)) (offering_replica h slot c r k runs) (λ _. inl refl) in
      (all_sent r.me (HasOffered ahead base made heard me older before after b slot c) (Accept (name_of r) b slot c) (λ to ms q. offered_again ahead base made heard me older before to after ms b slot c own q) rest (mails ++ mail ∷ []) (place, inl refl)).0

  -- a command that was made is offered
  pub fine_offered : (slot : ℕ) (set : List ℕ) (c : Command) (r : ReplicaState) (mails : List Mail) → r.running ≡ true → taken_at r slot ≡ None → IsOpenOffer slot set c r → made c → Ok (r, mails) → Ok (offered slot set c (r, mails))
  fine_offered slot set c r mails runs free at m f =
      let whole = f.replica.whole in
      let here = open_set ahead base made (f.newer ++ before) me slot set r f.replica at.low at.members_are in
      let some_one = some (take (needed (rule ahead base) slot) whole) (Each-take made (needed (rule ahead base) slot) whole f.replica.log_is.all_made) in
      subst (λ ms. Ok (offered slot ms c (r, mails))) (sym (here.0 ∙ some_one.2))
      (offered_to slot c some_one.0 some_one.1 r mails f runs m (may_be_offered slot c set r mails f runs free at here))

  -- other commands that were made may wait
  pub with_queues : (r : ReplicaState) (mails : List Mail) (acts backlog : List Command) → Each made acts → Each made backlog → Ok (r, mails) → Ok (record r { acts = acts; backlog = backlog }, mails)
  with_queues r mails acts backlog a b f = turn ahead base made heard me older before r (record r { acts = acts; backlog = backlog }) mails f (queued_replica ahead base made (f.newer ++ before) me r r.hint r.waits acts backlog a b f.replica)

  abbrev Dull : AnswerBody → Type 0
  Dull answer = (h : Steps) (to seq : ℕ) → IsTrueAnswer ahead base h to seq answer

  refused_dull : (gone : Option Route) (core : Core) (op : Op) (answer : AnswerBody) → refused_by gone core op ≡ Some answer → Dull answer
  refused_dull (Some into) core op answer e = let same : Says.Gone into ≡ answer = cc in subst Dull same (λ h to seq. tt)
  refused_dull None core op answer e =
      cond_both (holds_key core.arc (key_of op)) None (Some (Says.NotMine core.arc core.succ)) (λ o. o ≡ Some answer → Dull answer)
      (λ _ k. cc) (λ _ k. (let same : Says.NotMine core.arc core.succ ≡ answer = cc in subst Dull same (λ h to seq. tt))) e

  -- an answer to a call that gets no slot says nothing
  pub turned_dull : (core : Core) (c : Command) (answer : AnswerBody) → turned_down core c ≡ Some answer → Dull answer
  turned_dull core (Call client seq op) answer e = refused_dull core.gone core op answer e
  turned_dull core _ answer e = cc

  -- what was reported was requested
  pub reported_made : (slot : ℕ) (c : Command) (r : ReplicaState) (mails : List Mail) → Ok (r, mails) → r.running ≡ true → must slot r.leader ≡ Value c → made c
  reported_made slot c r mails f runs e =
      let h = f.newer ++ before in
      let l = f.replica.leads runs in
      let picked = must_value (names_above slot r.leader.reports) (choice slot r.leader.reports) c e in
      let there = choice_among slot r.leader.reports picked.0 picked.1 in
      let from = from_flat_map (λ (vote : CountedPromise Command). vote.reports) l.votes picked.0 (subst (Among picked.0) l.reports there.0) in
      let vote = Each-among _ l.votes from.0 l.made from.1 in
      let did = report_accepted (rule ahead base) (first ahead base) h from.0.node r.leader.ballot from.0.from from.0.reports picked.0 f.lawful vote.0 from.2 in
      subst made picked.2 (f.requested picked.0.ballot picked.0.slot picked.0.value
      (was_offered (rule ahead base) (first ahead base) h from.0.node picked.0.ballot picked.0.slot picked.0.value f.lawful did.0))
