-- What an executed entry leaves in a replica, and what is sent for it.
use Rattle.std.proofs.Common.{ℕ, ◌-◌, nat_lt, eqb, Bool, List, [], ◌∷◌, Option, subst}
use Rattle.sc_node_table.specs.Values.{Draw, Command, Join, Leave, Effect, OrderResult, AnswerBody, Mail, Answer, Prepare, Learn, Install, Learnt}
use Rattle.sc_words.specs.declared.commands.effects.Effect.TheVariants as Was
use Rattle.sc_words.specs.commands.CommandDefinitions.{result_of}
use Rattle.sc_group_table.specs.machine.MachineDefinitions.{base_of, applied}
use Rattle.sc_words.proofs.PaxosProofs.PaxosLemmas.{Each-append}
use Rattle.sc_words.specs.paxos.PaxosDefinitions.{without_flight_at, LogState, next_of}
use Rattle.sc_node_table.specs.NodeDefinitions.{without_slot, ReplicaState, name_of, next, order_number, with_entry, entered, answer_of, order_result, before_of}
use Rattle.sc_law_entries.specs.names.NameDefinitions.{Opt, CommandNames, EffectNames, AnswerNames, ResultNames}
use Rattle.sc_law_entries.proofs.NamesProofs.EachFound.{slot_without, flight_without}
use Rattle.sc_law_entries.proofs.NamesProofs.Machine.{applied_names}
use Rattle.sc_law_walks.proofs.WalkLemmas.{either_way, entered_place, TableEntry, entry_holds}
use Rattle.sc_law_entries.proofs.NamesProofs.Sent.{sent_names, reported_names, before_names, spoken_names}
use Rattle.sc_law_entries.proofs.NamesProofs.HeldNames.{Fine, Cmds, Cmd, R, held_of, back_names, forgotten_names}
use Rattle.sc_law_entries.proofs.NamesProofs.HeldCommands.{flying_held}

module _ (K : Draw → Type 0) where
  abbrev Logs : LogState Command → Type 0
  Logs log = Cmds K log.entries

  entry_names : (command : Command) (log : LogState Command) → CommandNames K command → Logs log → Logs (with_entry command log)
  entry_names command log c l =
      either_way (λ (x : Learnt × LogState Command). Logs x.1) (eqb (next_of log) (next_of log)) _ _ (Each-append (CommandNames K) log.entries (command ∷ []) l (c, tt))
      (either_way (λ (x : Learnt × LogState Command). Logs x.1) (nat_lt (next_of log) (next_of log)) _ _ l l)

  entered_names : (command : Command) (r : ReplicaState) → CommandNames K command → R K r → R K (entered command r)
  unfolding entered
  entered_names command r c k =
      forgotten_names K (next r) _
      (record { core = (applied_names K r.group command k.core c).core; log = entry_names command r.log c k.log; accepted = k.accepted; reports = k.reports; flights = k.flights; ready = k.ready; acts = k.acts; backlog = k.backlog })

  answer_names : (effect : Effect) → EffectNames K effect → Opt (AnswerNames K) (answer_of effect)
  answer_names (Was.Done reply) e = tt
  answer_names (Was.Again reply) e = tt
  answer_names (Was.Stale last) e = tt
  answer_names (Was.NotMine arc succ) e = e
  answer_names (Was.Gone into) e = e
  answer_names _ e = tt

  result_names : (effect : Effect) → EffectNames K effect → Opt (ResultNames K) (result_of effect)
  result_names (Was.Refused why) e = e
  result_names _ e = tt

  order_result_names : (command : Command) (effect : Effect) → EffectNames K effect → Opt (ResultNames K) (order_result command effect)
  order_result_names (Join node order) effect e = result_names effect e
  order_result_names (Leave node order) effect e = result_names effect e
  order_result_names _ effect e = tt

  cleared_names : (slot : ℕ) (r : ReplicaState) → R K r → R K (record r { leader = without_flight_at slot r.leader; ready = without_slot r.ready slot })
  cleared_names slot r k = record {
    core = k.core;
    log = k.log;
    accepted = k.accepted;
    reports = k.reports;
    flights = flight_without (CommandNames K) slot r.leader.flights k.flights;
    ready = slot_without (CommandNames K) r.ready slot k.ready;
    acts = k.acts;
    backlog = k.backlog;
  }

  -- what an entry keeps, counted or learnt, with what is sent for it
  entry_parts : (counted : Bool) (command : Command) (start : ReplicaState) → CommandNames K command → R K start → TableEntry counted command start (Fine K) (Fine K)
  entry_parts counted command start c s =
      let effect : Effect = (applied start.group command).1 in
      let e : EffectNames K effect = (applied_names K start.group command s.core c).effect in
      record {
        Lost = λ other. CommandNames K other;
        entered = λ mails f. (entered_names command start c f.0, f.1);
        answers = λ client seq op answer r mails t same a f. (f.0, sent_names K r.me _ (Answer (name_of r) seq answer) mails (f.0.core.id, subst (λ (o : Option AnswerBody). Opt (AnswerNames K) o) a (answer_names effect e)) f.1);
        returned = λ r mails t f. (back_names K command r c f.0, f.1);
        reports = λ result r mails a f. (f.0, reported_names K r.me (order_number command) result mails (subst (λ (o : Option OrderResult). Opt (ResultNames K) o) a (order_result_names command effect e)) f.1);
        speaks = λ r mails f. (f.0, spoken_names K counted r.me r.group (before_of start.group.core) effect command mails f.0.core (before_names K start.group.core s.core) e c f.1);
        teaches = λ to r mails t a f. (f.0, sent_names K r.me to (Learn (name_of r) (next start) command) mails (f.0.core.id, c) f.1);
        installs = λ to r mails t new f. (f.0, sent_names K r.me to (Install (name_of r) (next r - 1) (base_of r.group) r.sets) mails (f.0.core.id, f.0.core) f.1);
        repolls = λ to r mails t new f. (f.0, sent_names K r.me to (Prepare (name_of r) r.leader.ballot (next r)) mails f.0.core.id f.1);
        flies = λ other r mails fly f. subst (λ (o : Option Command). Cmd K o) fly (flying_held (CommandNames K) r (next start) (held_of K r f.0));
        landed = λ place f. (cleared_names (next start) place.0 f.0, f.1);
        back = λ other r mails l f. (back_names K other r l f.0, f.1);
      }

  pub entry_fine : (counted : Bool) (command : Command) (r : ReplicaState) (mails : List Mail) → CommandNames K command → Fine K (r, mails) → Fine K (entered_place counted command (r, mails))
  entry_fine counted command r mails c f = entry_holds counted command r (Fine K) (Fine K) (entry_parts counted command r c f.0) mails f
