-- The walk of replicas while one client asks alone: each row of mail leaves them so. A request that is executed is answered in the same row.
use Rattle.std.proofs.Common.{◌≡◌, ℕ, ◌+◌, ◌-◌, ◌<◌, ◌≤◌, nat_lt, eqb, Bool, true, false, true≢false, cond, List, [], ◌∷◌, ◌++◌, Option, Some, None, ◌⊎◌, inl, inr, refl, sym, ◌∙◌, ap, subst, arith}
use Rattle.std.specs.Prelude.{slice_get}
use Rattle.std.specs.FinMap.{get}
use Rattle.std.proofs.lemmas.Bool.{cond_both, ltb-false, eqb-false, eq-eqb, and_from}
use Rattle.sc_base.specs.Definitions.{Each, client_actor}
use Rattle.sc_node_table.specs.Values.{Ballot, Draw, Noted, Op, Reply, Command, Call, Base, Lock, Free, Coordinating, Promised, Watching, Route, Effect, AnswerBody, Value, Mail, MailBody, Answer, Accepted, Nack, Learn, Ask, Install, Chosen, Flight, Report}
use Rattle.sc_words.specs.ideal.IdealDefinitions.{holds_key, key_of, reply_of}
use Rattle.sc_words.specs.declared.commands.effects.Effect.TheVariants as Was
use Rattle.sc_words.proofs.PaxosProofs.PaxosLemmas.{Each-append, Each-among, Each-weaker, find_found}
use Rattle.sc_words.specs.paxos.PaxosDefinitions.{LogState, entry_at, counted, below, with_voters, without_flight_at, after_accept}
use Rattle.sc_group_table.specs.machine.MachineDefinitions.{Group, base_of, done, served_by_note, served, called, applied}
use Rattle.sc_node_table.specs.NodeDefinitions.{ReplicaState, Place, next, name_of, flying, sent, stopped, entered, forgotten, floor_of, with_entry, jumped, hinted, at_slot, with_slot, put_back, without_request, answer_of, answered_or_put_back, answered}
use Rattle.sc_law_entries.specs.names.NameDefinitions.{Opt}
use Rattle.sc_law_entries.proofs.NamesProofs.EachFound.{Each-drop, opt_get, opt_slot, slot_with, slot_without, flight_without, voters_with}
use Rattle.sc_law_entries.proofs.NamesProofs.HeldCommands as held
use Rattle.sc_law_walks.proofs.Places.{cleared}
use Rattle.sc_law_walks.proofs.WalkLemmas.{either_way, back_any, entered_group, entered_running, TableEntry, entry_holds, entered_place, entered_next, entry_is}
use Rattle.sc_live_plain.proofs.PlainRowsProofs.RepeatedMail.{mail_of, among_push, last_among, others_kept}
use Rattle.sc_live_healed.specs.HealedDefinitions.{IsFixedCommand}
use Rattle.sc_live_healed.proofs.FixedWalks.{FixedWalk}
use Rattle.sc_live_healed.proofs.FixedEntries.{unreported, unspoken, none_joined}
use Rattle.sc_live_healed.proofs.FixedParts.{opt_some, ready_fixed, applied_core}
use Rattle.sc_live_healed.proofs.EnteredPlaces.{counted_is, learning}
use Rattle.sc_live_healed.proofs.TakenRequests.{is_call, call_so, IsAtMost}
use Rattle.sc_live_healed.proofs.ApartSlots.{counts_by, decides}
use Rattle.sc_live_healed.proofs.HeldRequestRows.{answers_so}
use Rattle.sc_live_healed.proofs.NumberedRequests.{IsFewPlace, HasNoted}
use Rattle.sc_live_healed.proofs.LoneRequests as lone

-- ---- the request is answered with a reply

-- an effect that answers with a reply
abbrev Replied : Group × Effect → Type 0
Replied step = (reply : Reply) × (answer_of step.1 ≡ Some (Value reply))

module _ (client seq : ℕ) (op : Op) where
  note_serves : (o : Option Noted) (group : Group) → ((note : Noted) → o ≡ Some note → note.seq ≤ seq) → Replied (served_by_note o group client seq op)
  note_serves None group low = (reply_of op group.pairs, refl)
  note_serves (Some note) group low =
      cond_both (nat_lt note.seq seq) (done group client seq op) (cond (eqb note.seq seq) (group, Was.Again note.reply) (group, Was.Stale note.seq)) Replied (λ _. (reply_of op group.pairs, refl))
      (λ f. cond_both (eqb note.seq seq) (group, Was.Again note.reply) (group, Was.Stale note.seq) Replied (λ _. (note.reply, refl))
      (λ n. (let up = ltb-false note.seq seq f in let most = low note refl in absurd (eqb-false note.seq seq n (omega (arith, up, most))))))

  group_serves : (group : Group) → holds_key group.core.arc (key_of op) ≡ true → HasNoted client seq group → Replied (served group client seq op)
  group_serves group holds low =
      cond_both (holds_key group.core.arc (key_of op)) (served_by_note (get group.clients client) group client seq op) (group, Was.NotMine group.core.arc group.core.succ) Replied
      (λ _. note_serves (get group.clients client) group low) (λ f. absurd (true≢false (sym holds ∙ f)))

  -- a group that is neither locked nor gone, and holds the key, serves the request where it has noted no greater number
  pub serves : (gone : Option Route) (lock : Lock) (group : Group) → gone ≡ None → lock ≡ Free → holds_key group.core.arc (key_of op) ≡ true → HasNoted client seq group → Replied (called gone lock group client seq op)
  serves None Free group none free holds low = group_serves group holds low
  serves (Some into) lock group none free holds low = absurd (cc)
  serves None (Coordinating tx body order heard) group none free holds low = absurd (cc)
  serves None (Promised tx offer) group none free holds low = absurd (cc)
  serves None (Watching tx watch) group none free holds low = absurd (cc)

module _ (base : Base) (me client first seq : ℕ) (early : Bool) (Elsewhere : Type 0) (f : FixedWalk base me) (few : (r : ReplicaState) (mails : List Mail) → f.P (r, mails) → IsFewPlace client seq (r, mails)) (late : early ≡ true → first ≡ seq) where
  abbrev pub Mine : Command → Type 0
  Mine command = lone.IsMine client first command

  abbrev pub Other : Command → Type 0
  Other command = lone.IsOther client seq command

  abbrev pub Alone : Place → Type 0
  Alone place = lone.IsAlone client first place

  abbrev pub Hidden : Place → Type 0
  Hidden place = lone.IsHidden client first seq early Elsewhere place

  abbrev pub Leads : ReplicaState → Type 0
  Leads r = lone.LeadsAlone client first r

  abbrev pub L : Place → Type 0
  L place = lone.IsLonePlace client first seq early Elsewhere place

  abbrev pub P : Place → Type 0
  P place = f.P place × L place

  -- what is heard of the client's own requests, and of none that is executed already
  abbrev pub LoneHears : MailBody → Type 0
  LoneHears body = lone.IsLoneBody client first body × (Elsewhere ⊎ lone.IsUnlearnt client first seq early Elsewhere body)

  -- the request is answered with a reply
  pub served_so : (r : ReplicaState) (mails : List Mail) (op : Op) → f.P (r, mails) → at_slot r.ready (next r) ≡ Some (Call client seq op) → (reply : Reply) × (answer_of (applied r.group (Call client seq op)).1 ≡ Some (Value reply))
  served_so r mails op k e =
      let frame = f.frame (r, mails) k in
      let core = frame.fixed.group in
      serves client seq op r.group.core.gone r.group.core.lock r.group (ap (λ c. c.gone) core ∙ f.fresh.stands) (ap (λ c. c.lock) core ∙ f.fresh.free)
      (by (ready_fixed base r.ready (next r) (Call client seq op) e frame.fixed.ready) core) (few r mails k).noted
    where
      by : IsFixedCommand base (Call client seq op) → r.group.core ≡ base.core → holds_key r.group.core.arc (key_of op) ≡ true
      by (inl h) core = ap (λ c. holds_key c.arc (key_of op)) core ∙ h
      by (inr filler) core = absurd (cc)

  -- ---- entries

  alone_entered : (command : Command) (r : ReplicaState) (mails : List Mail) → Alone (r, mails) → Alone (entered command r, mails)
  unfolding entered forgotten
  alone_entered command r mails k = record {
    leads = λ on. (let l = k.leads on in record {
      backlog = l.backlog;
      flights = l.flights;
      ready = l.ready;
      reports = subst (λ n. Each (λ (report : Report Command). report.slot < n) r.leader.reports) (sym (entered_next command r))
          (Each-weaker (λ (report : Report Command). report.slot < next r) (λ (report : Report Command). report.slot < next r + 1) (λ report low. omega (arith, low)) r.leader.reports l.reports);
    });
    said = k.said;
  }

  hidden_entered : (command : Command) (r : ReplicaState) (mails : List Mail) → Other command → Hidden (r, mails) → Hidden (entered command r, mails)
  unfolding entered forgotten
  hidden_entered command r mails o (inl h) = inl (
    λ e. Each-drop Other (floor_of (next r) - (with_entry command r.log).base) (with_entry command r.log).entries
        (subst (λ (l : LogState Command). Each Other l.entries) (sym (entry_is command r.log)) (Each-append Other r.log.entries (command ∷ []) (h.0 e) (o, tt))),
    h.1,
  )
  hidden_entered command r mails o (inr t) = inr t

  module _ (counted_ : Bool) (command : Command) (start : ReplicaState) (mine : counted_ ≡ true → Mine command) (teach : counted_ ≡ true → Other command → early ≡ false) where
    abbrev Q : Place → Type 0
    Q place = (place.0.group.core ≡ base.core) × (place.0.running ≡ start.running) × Alone place × (Other command → Hidden place)

    goes_back : (other : Command) (r : ReplicaState) (mails : List Mail) → (start.running ≡ true → Mine other) → Q (r, mails) → Q (put_back other r, mails)
    goes_back other r mails m q =
        let same = back_any (λ x. (x.group ≡ r.group) × (x.running ≡ r.running) × (x.leader ≡ r.leader) × (x.ready ≡ r.ready) × (next x ≡ next r) × (x.log ≡ r.log)) (λ x acts backlog k. k) other r (refl, refl, refl, refl, refl, refl) in (
          ap (λ (g : Group). g.core) same.0 ∙ q.0,
          same.1 ∙ q.1,
          record {
            leads = λ on. (let runs : r.running ≡ true = sym same.1 ∙ on in let k = q.2.leads runs in
                lone.leads_with client first r (put_back other r) (lone.mine_back client first other r (m (sym q.1 ∙ runs)) k.backlog) same.2 same.3 same.4 k);
            said = q.2.said;
          },
          λ o. lone.hidden_same client first seq early Elsewhere r (put_back other r) mails same.5 (q.3 o),
        )

    entry_parts : IsFixedCommand base command → start.group.core ≡ base.core → TableEntry counted_ command start (λ place. L place) Q
    entry_parts fixed same = record {
      Lost = λ other. start.running ≡ true → Mine other;
      entered = λ mails k. (ap (λ (g : Group). g.core) (entered_group command start) ∙ applied_core base command start.group fixed ∙ same, entered_running command start, alone_entered command start mails k.0, λ o. hidden_entered command start mails o k.1);
      answers = λ who number op answer r mails t fact e q. (let m = subst Mine fact (mine t) in
          (q.0, q.1, lone.alone_push client first r mails (client_actor who) (Answer (name_of r) number answer) tt (ap client_actor m.0) q.2, λ o. lone.hidden_push client first seq early Elsewhere r mails (client_actor who) (Answer (name_of r) number answer) tt (q.3 o)));
      returned = λ r mails t q. goes_back command r mails (λ _. mine t) q;
      reports = λ result r mails fact q. absurd (unreported base counted_ command start fixed same result fact);
      speaks = λ r mails q. unspoken base counted_ command start fixed same Q r mails q;
      installs = λ to r mails t new q. absurd (none_joined base counted_ command start fixed same r q.0 to new);
      repolls = λ to r mails t new q. absurd (none_joined base counted_ command start fixed same r q.0 to new);
      teaches = λ to r mails t a q. (q.0, q.1, lone.alone_push client first r mails to (Learn (name_of r) (next start) command) tt tt q.2, λ o. lone.hidden_push client first seq early Elsewhere r mails to (Learn (name_of r) (next start) command) (teach t o, o) (q.3 o));
      flies = λ other r mails e q. (λ on. opt_some Mine (flying r (next start)) other e (lone.flying_mine client first r (next start) (q.2.leads (q.1 ∙ on))));
      landed = λ place q. (
        q.0,
        q.1,
        record {
          leads = λ on. (let k = q.2.leads on in record { backlog = k.backlog; flights = flight_without Mine (next start) place.0.leader.flights k.flights; ready = slot_without Mine place.0.ready (next start) k.ready; reports = k.reports });
          said = q.2.said;
        },
        q.3,
      );
      back = λ other r mails l q. goes_back other r mails l q;
    }

    entry_so : (mails : List Mail) → IsFixedCommand base command → start.group.core ≡ base.core → L (start, mails) → Q (entered_place counted_ command (start, mails))
    entry_so mails fixed same k = entry_holds counted_ command start (λ place. L place) Q (entry_parts fixed same) mails k

  -- while it is early the client's own request is the first one
  teaches_late : (b : Bool) (command : Command) → early ≡ b → Mine command → IsAtMost client seq command → Other command → early ≡ false
  teaches_late false command fact mine low o = fact
  teaches_late true (Call who number op) fact mine low o =
      let at = late fact in
      let most = low mine.0 in
      let least = mine.1 in
      let same : number ≡ seq = omega (arith, at, most, least) in
      absurd (true≢false (sym (and_from (eqb who client) (eqb number seq) (eq-eqb who client mine.0) (eq-eqb number seq same)) ∙ o))
  teaches_late true _ fact mine low o = absurd mine

  pub counts_entry : (command : Command) (r : ReplicaState) (mails : List Mail) → r.running ≡ true → at_slot r.ready (next r) ≡ Some command → P (r, mails) → L (entered_place true command (r, mails))
  counts_entry command r mails on e k =
      let fixed = ready_fixed base r.ready (next r) command e (f.frame (r, mails) k.0).fixed.ready in
      let mine = opt_some Mine (at_slot r.ready (next r)) command e (opt_slot Mine r.ready (next r) (k.1.0.leads on).ready) in
      let low = opt_some (IsAtMost client seq) (at_slot r.ready (next r)) command e (opt_slot (IsAtMost client seq) r.ready (next r) (few r mails k.0).held.4) in
      let q = entry_so true command r (λ _. mine) (λ _ o. teaches_late early command refl mine low o) mails fixed (f.frame (r, mails) k.0).fixed.group k.1 in
      (q.2, by (is_call client seq command) refl fixed q.3)
    where
      by : (b : Bool) → is_call client seq command ≡ b → IsFixedCommand base command → (Other command → Hidden (entered_place true command (r, mails))) → Hidden (entered_place true command (r, mails))
      by false o fixed h = h o
      by true t fixed h =
          let c = call_so client seq command t in
          let reply = served_so r mails c.0 k.0 (e ∙ ap Some c.1) in
          let e0 : ReplicaState = entered command r in
          let answer : Mail = mail_of e0.me (client_actor client) (Answer e0.group.core.id seq (Value reply.0)) in
          let said : List Mail = mails ++ answer ∷ [] in
          let step = ap (λ x. answered_or_put_back (answer_of (applied r.group x).1) x (e0, mails)) c.1 ∙ ap (λ q. answered_or_put_back q (Call client seq c.0) (e0, mails)) reply.1 ∙ answers_so client seq c.0 (Value reply.0) e0 mails in
          let fact : entered_place true command (r, mails) ≡ cleared (next r) (e0, learning base command r fixed (e0, said)) = counted_is base command r fixed mails e0 said step refl in
          subst Hidden (sym fact) (inr (inr (record {
            mail = answer;
            among = others_kept e0.me (Learn (name_of e0) (next r) command) r.group.core.members said answer (last_among mails answer);
            to = refl;
            group = e0.group.core.id;
            reply = reply.0;
            body = refl;
          })))

  pub learns_entry : (from : ℕ) (group : Draw) (command : Command) (r : ReplicaState) (mails : List Mail) → f.Hears from (Learn group (next r) command) → LoneHears (Learn group (next r) command) → P (r, mails) → L (entered_place false command (r, mails))
  learns_entry from group command r mails h l k =
      let q = entry_so false command r (λ t. absurd (true≢false (sym t))) (λ t. absurd (true≢false (sym t))) mails (f.heard from (Learn group (next r) command) h).2 (f.frame (r, mails) k.0).fixed.group k.1 in
      (q.2, elim (l.1) [ inl away ↦ inr (inl away) | inr u ↦ q.3 u.1 ])

  -- ---- the walk

  -- what changes nothing that is under way
  pub kept : (r after : ReplicaState) (mails : List Mail) → after.log ≡ r.log → after.running ≡ r.running → after.backlog ≡ r.backlog → after.leader ≡ r.leader → after.ready ≡ r.ready → next after ≡ next r → L (r, mails) → L (after, mails)
  kept r after mails log running backlog leader ready at_next k =
      lone.with_leads client first seq early Elsewhere r after mails log
      (λ on. (let leads = k.0.leads (sym running ∙ on) in lone.leads_with client first r after (subst (Each Mine) (sym backlog) leads.backlog) leader ready at_next leads)) k

  -- one mail more
  pub says : (r : ReplicaState) (mails : List Mail) (to : ℕ) (body : MailBody) → lone.IsLoneBody client first body → lone.GoesToClient client first to body → lone.IsUnlearnt client first seq early Elsewhere body → L (r, mails) → L (r, sent r.me to body mails)
  says r mails to body alone goes fine k = lone.pushed client first seq early Elsewhere r mails to body alone goes fine k

  pub says_learnt : (r : ReplicaState) (mails : List Mail) (to : ℕ) (body : MailBody) → lone.IsLoneBody client first body → lone.GoesToClient client first to body → Elsewhere ⊎ lone.IsUnlearnt client first seq early Elsewhere body → L (r, mails) → L (r, sent r.me to body mails)
  says_learnt r mails to body alone goes (inl away) k = (lone.alone_push client first r mails to body alone goes k.0, inr (inl away))
  says_learnt r mails to body alone goes (inr fine) k = says r mails to body alone goes fine k

  -- with another queue
  pub queues : (r : ReplicaState) (mails : List Mail) (backlog : List Command) → (r.running ≡ true → Each Mine backlog) → L (r, mails) → L (record r { backlog = backlog }, mails)
  queues r mails backlog mine k = lone.with_leads client first seq early Elsewhere r (record r { backlog = backlog }) mails refl (λ on. lone.leads_with client first r (record r { backlog = backlog }) (mine on) refl refl refl (k.0.leads on)) k

  pub turned_so : (command : Command) (answer : AnswerBody) (backlog : List Command) (r : ReplicaState) (mails : List Mail) → r.running ≡ true → r.backlog ≡ command ∷ backlog → L (r, mails) → L (record r { backlog = backlog }, answered r.me r.group.core.id answer command mails)
  turned_so command answer backlog r mails on e k =
      let parts = subst (Each Mine) e (k.0.leads on).backlog in
      queues r (answered r.me r.group.core.id answer command mails) backlog (λ _. parts.1) (lone.answers_mine client first seq early Elsewhere r mails r.group.core.id answer command parts.0 k)

  entry_other : (slot : ℕ) (log : LogState Command) (command : Command) → entry_at slot log ≡ Some command → Each Other log.entries → Other command
  entry_other slot log command e h = opt_some Other (entry_at slot log) command e (either_way (λ (o : Option Command). Opt Other o) (nat_lt log.base slot) (slice_get log.entries (slot - log.base - 1)) None (opt_get Other log.entries (slot - log.base - 1) h) tt)

  pub recalls_so : (to slot : ℕ) (command : Command) (r : ReplicaState) (mails : List Mail) → Elsewhere ⊎ (early ≡ false) → entry_at slot r.log ≡ Some command → L (r, mails) → L (r, sent r.me to (Learn (name_of r) slot command) mails)
  recalls_so to slot command r mails (inl away) e k = says_learnt r mails to (Learn (name_of r) slot command) tt tt (inl away) k
  recalls_so to slot command r mails (inr off) e k = (lone.alone_push client first r mails to (Learn (name_of r) slot command) tt tt k.0, by k.1)
    where
      by : Hidden (r, mails) → Hidden (r, sent r.me to (Learn (name_of r) slot command) mails)
      by (inl h) = lone.hidden_push client first seq early Elsewhere r mails to (Learn (name_of r) slot command) (off, entry_other slot r.log command e (h.0 off)) (inl h)
      by (inr t) = inr (lone.replied_more client first seq early Elsewhere mails (sent r.me to (Learn (name_of r) slot command) mails) (λ mail a. among_push mails (mail_of r.me to (Learn (name_of r) slot command)) mail a) t)

  pub wants_so : (slot : ℕ) (command : Command) → Elsewhere ⊎ ((early ≡ false) × Other command) → Elsewhere ⊎ (early ≡ false)
  wants_so slot command (inl away) = inl away
  wants_so slot command (inr u) = inr u.0

  pub chosen_so : (from : ℕ) (ballot : Ballot) (slot : ℕ) (set : List ℕ) (command : Command) (r : ReplicaState) (mails : List Mail) → r.running ≡ true → (counted from ballot slot set r.leader).0 ≡ Chosen command → L (r, mails) → L (record r { leader = (counted from ballot slot set r.leader).1; ready = with_slot r.ready slot command }, mails)
  chosen_so from ballot slot set command r mails on e k =
      let d = decides from ballot slot set command r.leader e in
      let leads = k.0.leads on in
      let found = find_found (λ (x : Flight Command). eqb x.slot slot) r.leader.flights d.flight d.found in
      let mine : Mine command = subst Mine d.value (Each-among (λ (x : Flight Command). Mine x.value) r.leader.flights d.flight leads.flights found.0) in
      subst (λ l. L (record r { leader = l; ready = with_slot r.ready slot command }, mails)) (sym d.after_is)
      (lone.with_leads client first seq early Elsewhere r (record r { leader = without_flight_at slot r.leader; ready = with_slot r.ready slot command }) mails refl
      (λ _. record { backlog = leads.backlog; flights = flight_without Mine slot r.leader.flights leads.flights; ready = slot_with Mine r.ready slot command mine leads.ready; reports = leads.reports }) k)

  pub accepts_so : (from : ℕ) (report : Report Command) (r : ReplicaState) (mails : List Mail) → L (r, mails) → L (hinted report.ballot (record r { acceptor = after_accept report r.acceptor }), sent r.me from (Accepted (name_of r) report.ballot report.slot) mails)
  accepts_so from report r mails k =
      let said = sent r.me from (Accepted (name_of r) report.ballot report.slot) mails in
      let more = says r mails from (Accepted (name_of r) report.ballot report.slot) tt tt tt k in
      let after : ReplicaState = record r { acceptor = after_accept report r.acceptor } in
      either_way (λ (x : ReplicaState). L (x, said)) r.running after (record after { hint = Some report.ballot.node }) (kept r after said refl refl refl refl refl refl more) (kept r (record after { hint = Some report.ballot.node }) said refl refl refl refl refl refl more)

  pub jumps_so : (slot : ℕ) (sent_ : Base) (sets : List (List ℕ)) (from : ℕ) (r : ReplicaState) (mails : List Mail) → r.running ≡ false → L (r, mails) → L (record (jumped slot sent_ sets r) { hint = Some from }, mails)
  unfolding jumped forgotten
  jumps_so slot sent_ sets from r mails off k = (record { leads = λ on. absurd (true≢false (sym on ∙ off)); said = k.0.said }, by k.1)
    where
      by : Hidden (r, mails) → Hidden (record (jumped slot sent_ sets r) { hint = Some from }, mails)
      by (inl h) = inl (λ e. Each-drop Other (floor_of slot - slot) [] tt, h.1)
      by (inr t) = inr t

  abbrev pub lone_walk : FixedWalk base me
  lone_walk = record {
    fresh = f.fresh;
    First = λ r. f.First r;
    P = λ place. P place;
    Hears = λ from body. f.Hears from body × LoneHears body;
    Sees = λ ballot. f.Sees ballot;
    frame = λ place k. f.frame place k.0;
    heard = λ from body h. f.heard from body h.0;
    prepare_seen = λ from group ballot from_slot h. f.prepare_seen from group ballot from_slot h.0;
    accept_seen = λ from group ballot slot command h. f.accept_seen from group ballot slot command h.0;
    nack_seen = λ from group promised h. f.nack_seen from group promised h.0;
    turned = λ command answer backlog r mails on e turn k. (f.turned command answer backlog r mails on e turn k.0, turned_so command answer backlog r mails on e k.1);
    offers_value = λ slot set command r mails on low near none e of k. absurd (lone.no_value client first slot r command low (k.1.0.leads on) e);
    offers_noop = λ slot set r mails on low near none gap of k. absurd (lone.no_gap client first slot r low (k.1.0.leads on) gap);
    offers_call = λ slot set command backlog r mails on low near none e of k. (
      f.offers_call slot set command backlog r mails on low near none e of k.0,
      (let parts = subst (Each Mine) e (k.1.0.leads on).backlog in
          lone.offers_alone client first seq early Elsewhere slot set command (record r { backlog = backlog }) mails on parts.0 (queues r mails backlog (λ _. parts.1) k.1)),
    );
    counted_entry = λ command r mails on e k. (f.counted_entry command r mails on e k.0, counts_entry command r mails on e k);
    learnt_entry = λ from group command r mails h start k. (f.learnt_entry from group command r mails h.0 start k.0, learns_entry from group command r mails h.0 h.1 k);
    seen = λ ballot r mails sees up goes k. (f.seen ballot r mails sees up goes k.0, kept r (record r { top = ballot }) mails refl refl refl refl refl refl k.1);
    overtaken = λ ballot r mails sees on low k. (
      f.overtaken ballot r mails sees on low k.0,
      either_way (λ (x : ReplicaState). L (stopped (Some ballot.node) (x, mails))) (below r.top ballot) (record r { top = ballot }) r
          (lone.stops_alone client first seq early Elsewhere (Some ballot.node) (record r { top = ballot }) mails on (kept r (record r { top = ballot }) mails refl refl refl refl refl refl k.1))
          (lone.stops_alone client first seq early Elsewhere (Some ballot.node) r mails on k.1),
    );
    polled = λ from group ballot reports r mails on h k. absurd h.1.0;
    counts = λ from group ballot slot set count r mails on h e k. (
      f.counts from group ballot slot set count r mails on h.0 e k.0,
      counts_by (λ l. L (record r { leader = l }, mails)) from ballot slot set count r.leader e k.1
          (λ voters. lone.with_leads client first seq early Elsewhere r (record r { leader = record r.leader { flights = with_voters slot voters r.leader.flights } }) mails refl
          (λ runs. (let leads = k.1.0.leads runs in record { backlog = leads.backlog; flights = voters_with Mine slot voters r.leader.flights leads.flights; ready = leads.ready; reports = leads.reports })) k.1),
    );
    chosen = λ from group ballot slot set command r mails on h e k. (f.chosen from group ballot slot set command r mails on h.0 e k.0, chosen_so from ballot slot set command r mails on e k.1);
    promised = λ from group ballot from_slot r mails h top goes may k. absurd h.1.0;
    accepted = λ from group report r mails h top goes may k. (f.accepted from group report r mails h.0 top goes may k.0, accepts_so from report r mails k.1);
    nacks = λ to r mails m k. (f.nacks to r mails m k.0, says r mails to (Nack (name_of r) r.acceptor.promised) tt tt tt k.1);
    installs = λ to r mails m k. (f.installs to r mails m k.0, says r mails to (Install (name_of r) (next r - 1) (base_of r.group) r.sets) tt tt tt k.1);
    recalls = λ to from_slot slot group command r mails h m e k. (f.recalls to from_slot slot group command r mails h.0 m e k.0, recalls_so to slot command r mails h.1.1 e k.1);
    wants = λ to slot group command r mails h m low k. (f.wants to slot group command r mails h.0 m low k.0, says_learnt r mails to (Ask (name_of r) (next r)) tt tt (wants_so slot command h.1.1) k.1);
    stops = λ from r mails m on k. (f.stops from r mails m on k.0, lone.stops_alone client first seq early Elsewhere (Some from) r mails on k.1);
    jumps = λ from group slot sent_ sets r mails h later off k. (f.jumps from group slot sent_ sets r mails h.0 later off k.0, jumps_so slot sent_ sets from r mails off k.1);
    refuses = λ from group who number op answer r mails h e k. (f.refuses from group who number op answer r mails h.0 e k.0, says r mails (client_actor who) (Answer (name_of r) number answer) tt (ap client_actor h.1.0.0) tt k.1);
    requested = λ from group who number op r mails h e none k. (
      f.requested from group who number op r mails h.0 e none k.0,
      queues r mails (r.backlog ++ Call who number op ∷ []) (λ on. Each-append Mine r.backlog (Call who number op ∷ []) (k.1.0.leads on).backlog (h.1.0, tt)) k.1,
    );
    requested_again = λ from group who number other op r mails h e some more k. (
      f.requested_again from group who number other op r mails h.0 e some more k.0,
      queues r mails (without_request r.backlog who ++ Call who number op ∷ []) (λ on. Each-append Mine (without_request r.backlog who) (Call who number op ∷ []) (held.without_held Mine r.backlog who (k.1.0.leads on).backlog) (h.1.0, tt)) k.1,
    );
  }
