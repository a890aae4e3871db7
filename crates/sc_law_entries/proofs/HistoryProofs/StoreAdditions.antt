-- What each command adds to what the log makes of the store.
use Rattle.std.proofs.Common.{◌≡◌, ℕ, zero, suc, ◌<◌, ◌≤◌, cond, eqb, nat_lt, List, [], ◌∷◌, ◌++◌, Option, Some, None, ◌⊎◌, inl, inr, refl, sym, ◌∙◌, ap, subst, append-nil, append_assoc, arith}
use Rattle.std.specs.Cmp.{nat_cmp_total, unsigned_tied}
use Rattle.std.specs.Ordering.{nat_cmp}
use Rattle.std.specs.FinMap.{empty, get, insert, get-insert, get-empty}
use Rattle.std.proofs.lemmas.Bool.{cases_Bool, eqb-true, eq-eqb, ltb-true, cond_both, cond-true, cond-false}
use Rattle.sc_base.specs.declared.names.Draw.{Draw}
use Rattle.sc_base.specs.declared.ops.Op.{Op}
use Rattle.sc_base.specs.declared.ops.Reply.{Reply}
use Rattle.sc_base.specs.declared.ops.Noted.{Noted}
use Rattle.sc_words.specs.ideal.IdealDefinitions.{Contents, key_of, reply_of, after, holds_key, HasEntry, HasStoreReplies, contents_after}
use Rattle.sc_words.specs.declared.ideal.Entry.{Entry}
use Rattle.sc_words.specs.declared.commands.links.Route.{Route}
use Rattle.sc_words.specs.declared.commands.cores.Lock.{Lock}
use Rattle.sc_words.specs.declared.commands.cores.Lock.TheVariants.{Free, Coordinating, Promised, Watching}
use Rattle.sc_words.specs.declared.commands.commands.Command.{Command}
use Rattle.sc_words.specs.declared.commands.commands.Command.TheVariants.{Noop, Call, Join, Leave}
use Rattle.sc_words.specs.declared.commands.effects.Effect.{Effect}
use Rattle.sc_words.specs.declared.commands.effects.Effect.TheVariants.{Done, Again, Stale, NotMine, Gone, NoEffect}
use Rattle.sc_group_table.specs.machine.MachineDefinitions.{Group, applied, done, served_by_note, served, called, refusal_of, with_node, without_node, state_after, entry_by, entry_of, done_by}
use Rattle.sc_base.specs.Definitions.{Among, Each}
use Rattle.sc_words.proofs.PaxosProofs.PaxosLemmas.{Each-among}
use Rattle.sc_paxos_law.proofs.Lemmas.{Among-left, Among-right, Among-either}
use Rattle.sc_law_entries.specs.history.HistoryDefinitions.{HoldsNothing, IsNoted, IsReplied, IsDone, LeavesWhole, LogsMakeHistories}
use Rattle.sc_group_table.proofs.MachineProofs.Lemmas.{done_push}
use Rattle.sc_law_entries.proofs.HistoryProofs.Logs.{ordered_either}
use Rattle.sc_law_entries.proofs.HistoryProofs.Kept.{IsApart, all_pairs, apart_push, apart_right}

-- one entry more has its reply, and leaves its map
pub replay_push : (contents : Contents) (entries : List Entry) (e : Entry) → HasStoreReplies contents entries → e.reply ≡ reply_of e.op (contents_after contents entries) → HasStoreReplies contents (entries ++ e ∷ [])
replay_push contents [] e r fact = (fact, tt)
replay_push contents (x ∷ xs) e r fact = (r.0, replay_push (after x.op contents) xs e r.1 fact)

pub after_push : (contents : Contents) (entries : List Entry) (e : Entry) → contents_after contents (entries ++ e ∷ []) ≡ after e.op (contents_after contents entries)
after_push contents [] e = refl
after_push contents (x ∷ xs) e = after_push (after x.op contents) xs e

-- what the log makes of the store, with the other form of its entries being apart
pub record StoreFacts (entries : List Entry) (group : Group) : Type 0 where
  pub replay : HasStoreReplies empty entries
  pub apart : IsApart entries
  pub pairs : contents_after empty entries ≡ group.pairs
  pub noted : (client : ℕ) (noted : Noted) → get group.clients client ≡ Some noted → HasEntry entries client noted.seq noted.reply
  pub latest : (entry : Entry) → Among entry entries → IsNoted group entry

pub entry_later : (entries more : List Entry) (client seq : ℕ) (reply : Reply) → HasEntry entries client seq reply → HasEntry (entries ++ more) client seq reply
entry_later entries more client seq reply h =
    record { entry = h.entry; stands = Among-left h.entry entries more h.stands; client_is = h.client_is; seq_is = h.seq_is; reply_is = h.reply_is }

-- what comes of a request: the group, and its effect
record IsGood (entries : List Entry) (client seq : ℕ) (op : Op) (x : Group × Effect) : Type 0 where
  recorded : StoreFacts (entries ++ entry_by client seq op x.1) x.0
  replies : (reply : Reply) → IsReplied x.1 reply → HasEntry (entries ++ entry_by client seq op x.1) client seq reply

module _ (entries : List Entry) (group : Group) (client seq : ℕ) (op : Op) (recorded : StoreFacts entries group) where
  nothing : (effect : Effect) → entry_by client seq op effect ≡ [] → ((reply : Reply) → IsReplied effect reply → HasEntry entries client seq reply) → IsGood entries client seq op (group, effect)
  nothing effect none replies =
      let same : entries ≡ entries ++ entry_by client seq op effect = sym (append-nil entries) ∙ ap (λ es. entries ++ es) (sym none) in
      record {
        recorded = subst (λ es. StoreFacts es group) same recorded;
        replies = λ reply e. subst (λ es. HasEntry es client seq reply) same (replies reply e);
      }

  abbrev new : Entry
  new = record { client = client; seq = seq; op = op; reply = reply_of op group.pairs }

  abbrev note : Noted
  note = record { seq = seq; reply = reply_of op group.pairs }

  last_is : HasEntry (entries ++ new ∷ []) client seq (reply_of op group.pairs)
  last_is = record { entry = new; stands = Among-right new entries (new ∷ []) (inl refl); client_is = refl; seq_is = refl; reply_is = refl }

  found_at : (who : ℕ) → get (insert group.clients client note) who ≡ cond (eqb who client) (Some note) (get group.clients who)
  found_at who = get-insert nat_cmp_total group.clients client note who ∙ ap (λ b. cond b (Some note) (get group.clients who)) (unsigned_tied who client)

  -- no entry of the client is as high
  module _ (higher : (e : Entry) → Among e entries → e.client ≡ client → e.seq < seq) where
    noted_after : (who : ℕ) (n : Noted) → get (insert group.clients client note) who ≡ Some n → HasEntry (entries ++ new ∷ []) who n.seq n.reply
    noted_after who n e =
        elim (cases_Bool (eqb who client)) [
          | inl t ↦ (
              let got : Some note ≡ Some n = sym (found_at who ∙ cond-true (eqb who client) (Some note) (get group.clients who) t) ∙ e in
              let same : note ≡ n = cc in
              subst (λ (x : Noted). HasEntry (entries ++ new ∷ []) who x.seq x.reply) same
              (subst (λ c. HasEntry (entries ++ new ∷ []) c seq (reply_of op group.pairs)) (sym (eqb-true who client t)) last_is))
          | inr f ↦ entry_later entries (new ∷ []) who n.seq n.reply
              (recorded.noted who n (sym (found_at who ∙ cond-false (eqb who client) (Some note) (get group.clients who) f) ∙ e))
        ]

    latest_old : (e : Entry) → Among e entries → IsNoted (done group client seq op).0 e
    latest_old e a =
        let before = recorded.latest e a in
        elim (cases_Bool (eqb e.client client)) [
          | inl t ↦ (let less = higher e a (eqb-true e.client client t) in
              record { noted = note; found = found_at e.client ∙ cond-true (eqb e.client client) (Some note) (get group.clients e.client) t; most = omega (arith, less) })
          | inr f ↦ record { noted = before.noted; found = found_at e.client ∙ cond-false (eqb e.client client) (Some note) (get group.clients e.client) f ∙ before.found; most = before.most }
        ]

    latest_after : (e : Entry) → Among e entries ⊎ Among e (new ∷ []) → IsNoted (done group client seq op).0 e
    latest_after e (inl a) = latest_old e a
    latest_after e (inr (inl same)) =
        subst (IsNoted (done group client seq op).0) same
        (record { noted = note; found = found_at client ∙ cond-true (eqb client client) (Some note) (get group.clients client) (eq-eqb client client refl); most = omega arith })
    latest_after e (inr (inr n)) = absurd n

    new_done : IsGood entries client seq op (done group client seq op)
    new_done = record {
      recorded = record {
        replay = replay_push empty entries new recorded.replay (ap (reply_of op) (sym recorded.pairs));
        apart = apart_push entries new recorded.apart (λ e a same number. (let less = higher e a same in omega (arith, less, number)));
        pairs = after_push empty entries new ∙ ap (after op) recorded.pairs;
        noted = noted_after;
        latest = λ e a. latest_after e (Among-either e entries (new ∷ []) a);
      };
      replies = λ reply r. elim r [
        | inl e ↦ (let same : reply_of op group.pairs ≡ reply = cc in subst (HasEntry (entries ++ new ∷ []) client seq) same last_is)
        | inr e ↦ cc
      ];
    }

  by_note : (o : Option Noted) → get group.clients client ≡ o → IsGood entries client seq op (served_by_note o group client seq op)
  by_note None none = new_done (λ e a same. (
      let before = recorded.latest e a in
      let got : Some before.noted ≡ None = sym before.found ∙ ap (get group.clients) same ∙ none in
      absurd (cc)))
  by_note (Some n) some =
      cond_both (nat_lt n.seq seq) _ _ (IsGood entries client seq op)
      (λ lt. new_done (λ e a same. (
      let before = recorded.latest e a in
      let less = ltb-true n.seq seq lt in
      let got : Some before.noted ≡ Some n = sym before.found ∙ ap (get group.clients) same ∙ some in
      let fact : before.noted ≡ n = cc in
      let most : e.seq ≤ n.seq = subst (λ (x : Noted). e.seq ≤ x.seq) fact before.most in
      omega (arith, less, most))))
      (λ _. cond_both (eqb n.seq seq) _ _ (IsGood entries client seq op)
      (λ t. nothing (Again n.reply) refl (λ reply r. elim r [
        | inl e ↦ cc
        | inr e ↦ (
            let same : n.reply ≡ reply = cc in
            subst (HasEntry entries client seq) same (subst (λ m. HasEntry entries client m n.reply) (eqb-true n.seq seq t) (recorded.noted client n some)))
      ]))
      (λ _. nothing (Stale n.seq) refl (λ reply r. elim r [ inl e ↦ cc | inr e ↦ cc ])))

  by_arc : IsGood entries client seq op (served group client seq op)
  by_arc =
      cond_both (holds_key group.core.arc (key_of op)) _ _ (IsGood entries client seq op)
      (λ _. by_note (get group.clients client) refl)
      (λ _. nothing (NotMine group.core.arc group.core.succ) refl (λ reply r. elim r [ inl e ↦ cc | inr e ↦ cc ]))

  no_effect : (tx : Draw) → IsGood entries client seq op (group, NoEffect tx)
  no_effect tx = nothing (NoEffect tx) refl (λ reply r. elim r [ inl e ↦ cc | inr e ↦ cc ])

  by_lock : (gone : Option Route) (lock : Lock) → IsGood entries client seq op (called gone lock group client seq op)
  by_lock (Some into) lock = nothing (Gone into) refl (λ reply r. elim r [ inl e ↦ cc | inr e ↦ cc ])
  by_lock None Free = by_arc
  by_lock None (Watching tx watch) = by_arc
  by_lock None (Coordinating tx body order heard) = no_effect tx
  by_lock None (Promised tx offer) = no_effect tx

-- ---- a log

of_same : (entries : List Entry) (group other : Group) → other.pairs ≡ group.pairs → other.clients ≡ group.clients → StoreFacts entries group → StoreFacts entries other
of_same entries group other pairs clients recorded = record {
  replay = recorded.replay;
  apart = recorded.apart;
  pairs = recorded.pairs ∙ sym pairs;
  noted = λ client noted e. recorded.noted client noted (sym (ap (λ t. get t client) clients) ∙ e);
  latest = λ entry a. (let k = recorded.latest entry a in record { noted = k.noted; found = ap (λ t. get t entry.client) clients ∙ k.found; most = k.most });
}

idle : (entries : List Entry) (group : Group) → StoreFacts entries group → StoreFacts (entries ++ []) group
idle entries group recorded = subst (λ es. StoreFacts es group) (sym (append-nil entries)) recorded

-- an order changes neither pairs nor client table
one_more : (entries : List Entry) (group : Group) (c : Command) → LeavesWhole c → StoreFacts entries group → StoreFacts (entries ++ entry_of c (applied group c).1) (applied group c).0
one_more entries group (Call client seq op) keeps recorded = (by_lock entries group client seq op recorded group.core.gone group.core.lock).recorded
one_more entries group (Join node order) keeps recorded =
    ordered_either (StoreFacts (entries ++ [])) group.core.gone (refusal_of group.core (Join node order)) (with_node group node) group
    (idle entries (with_node group node) (of_same entries group (with_node group node) refl refl recorded)) (idle entries group recorded)
one_more entries group (Leave node order) keeps recorded =
    ordered_either (StoreFacts (entries ++ [])) group.core.gone (refusal_of group.core (Leave node order)) (without_node group node) group
    (idle entries (without_node group node) (of_same entries group (without_node group node) refl refl recorded)) (idle entries group recorded)
one_more entries group Noop keeps recorded = idle entries group recorded
one_more entries group _ keeps recorded = absurd keeps

recorded_next : (entries : List Entry) (group : Group) (log : List Command) → Each LeavesWhole log → StoreFacts entries group → StoreFacts (entries ++ done_by group log) (state_after group log)
recorded_next entries group [] keeps recorded = idle entries group recorded
recorded_next entries group (c ∷ log) keeps recorded =
    let new = entry_of c (applied group c).1 in
    subst (λ es. StoreFacts es (state_after group (c ∷ log))) (append_assoc entries new (done_by (applied group c).0 log))
    (recorded_next (entries ++ new) (applied group c).0 log keeps.1 (one_more entries group c keeps.0 recorded))

at_start : (group : Group) → HoldsNothing group → StoreFacts [] group
at_start group none = record {
  replay = tt;
  apart = tt;
  pairs = sym none.pairs;
  noted = λ client n e. (let got : None ≡ Some n = sym (get-empty nat_cmp client) ∙ sym (ap (λ t. get t client) none.clients) ∙ e in absurd (cc));
  latest = λ e a. absurd a;
}

entry_by_call : (client seq : ℕ) (op : Op) (effect : Effect) (e : Entry) → Among e (entry_by client seq op effect) → Call client seq op ≡ Call e.client e.seq e.op
entry_by_call client seq op (Done reply) e (inl same) = ap (λ (x : Entry). Call x.client x.seq x.op) same
entry_by_call client seq op (Done reply) e (inr n) = absurd n
entry_by_call client seq op _ e a = absurd a

of_command : (c : Command) (effect : Effect) (e : Entry) → Among e (entry_of c effect) → c ≡ Call e.client e.seq e.op
of_command (Call client seq op) effect e a = entry_by_call client seq op effect e a
of_command _ effect e a = absurd a

pub calls_of : (group : Group) (log : List Command) (e : Entry) → Among e (done_by group log) → Among (Call e.client e.seq e.op) log
calls_of group [] e a = absurd a
calls_of group (c ∷ log) e a =
    elim (Among-either e (entry_of c (applied group c).1) (done_by (applied group c).0 log) a) [
      | inl b ↦ inl (of_command c (applied group c).1 e b)
      | inr b ↦ inr (calls_of (applied group c).0 log e b)
    ]

-- ---- places

entry_parts : (client seq : ℕ) (op : Op) (effect : Effect) (e : Entry) → Among e (entry_by client seq op effect) → (reply : Reply) × (effect ≡ Done reply) × (Call client seq op ≡ Call e.client e.seq op)
entry_parts client seq op (Done reply) e (inl same) = (reply, refl, ap (λ (x : Entry). Call x.client x.seq op) same)
entry_parts client seq op (Done reply) e (inr n) = absurd n
entry_parts client seq op _ e a = absurd a

command_parts : (c : Command) (effect : Effect) (e : Entry) → Among e (entry_of c effect) → (op : Op) × (reply : Reply) × (c ≡ Call e.client e.seq op) × (effect ≡ Done reply)
command_parts (Call client seq op) effect e a = let k = entry_parts client seq op effect e a in (op, k.0, k.2, k.1)
command_parts _ effect e a = absurd a

place_of : (group : Group) (log : List Command) (e : Entry) → Among e (done_by group log) → (place : ℕ) × IsDone group log place e.client e.seq
place_of group [] e a = absurd a
place_of group (c ∷ log) e a =
    elim (Among-either e (entry_of c (applied group c).1) (done_by (applied group c).0 log) a) [
      | inl b ↦ (let k = command_parts c (applied group c).1 e b in (0, record { op = k.0; reply = k.1; call = ap Some k.2; effect = ap Some k.3 }))
      | inr b ↦ (let k = place_of (applied group c).0 log e b in (suc k.0, record { op = k.1.op; reply = k.1.reply; call = k.1.call; effect = k.1.effect }))
    ]

done_entry : (c : Command) (effect : Effect) (client seq : ℕ) (op : Op) (reply : Reply) → c ≡ Call client seq op → effect ≡ Done reply
    → entry_of c effect ≡ (let e : Entry = record { client = client; seq = seq; op = op; reply = reply } in e) ∷ []
done_entry c effect client seq op reply e f = ap (λ d. entry_of d effect) e ∙ ap (λ x. entry_by client seq op x) f

entry_there : (group : Group) (log : List Command) (place client seq : ℕ) → IsDone group log place client seq → (e : Entry) × Among e (done_by group log) × (e.client ≡ client) × (e.seq ≡ seq)
entry_there group [] place client seq d = (let no_way : None ≡ Some (Call client seq d.op) = d.call in absurd (cc))
entry_there group (c ∷ log) zero client seq d =
    let e : Entry = record { client = client; seq = seq; op = d.op; reply = d.reply } in
    let call : Some c ≡ Some (Call client seq d.op) = d.call in
    let effect : Some (applied group c).1 ≡ Some (Done d.reply) = d.effect in
    let call_is : c ≡ Call client seq d.op = cc in
    let effect_is : (applied group c).1 ≡ Done d.reply = cc in
    let fact = done_entry c (applied group c).1 client seq d.op d.reply call_is effect_is in
    (e, Among-left e (entry_of c (applied group c).1) (done_by (applied group c).0 log) (subst (Among e) (sym fact) (inl refl)), refl, refl)
entry_there group (c ∷ log) (suc place) client seq d =
    let k = entry_there (applied group c).0 log place client seq (record { op = d.op; reply = d.reply; call = d.call; effect = d.effect }) in
    (k.0, Among-right k.0 (entry_of c (applied group c).1) (done_by (applied group c).0 log) k.1, k.2, k.3)

not_later : (group : Group) (c : Command) (log : List Command) (place client seq : ℕ) → IsApart (done_by group (c ∷ log)) → IsDone group (c ∷ log) 0 client seq → IsDone (applied group c).0 log place client seq → ⊥
not_later group c log place client seq a d later =
    let call : Some c ≡ Some (Call client seq d.op) = d.call in
    let effect : Some (applied group c).1 ≡ Some (Done d.reply) = d.effect in
    let call_is : c ≡ Call client seq d.op = cc in
    let effect_is : (applied group c).1 ≡ Done d.reply = cc in
    let fact = done_entry c (applied group c).1 client seq d.op d.reply call_is effect_is in
    let other = entry_there (applied group c).0 log place client seq later in
    let apart = subst (λ es. IsApart (es ++ done_by (applied group c).0 log)) fact a in
    Each-among _ (done_by (applied group c).0 log) other.0 apart.0 other.1 (sym other.2) (sym other.3)

one_place : (group : Group) (log : List Command) → IsApart (done_by group log) → (place other client seq : ℕ) → IsDone group log place client seq → IsDone group log other client seq → place ≡ other
one_place group [] a place other client seq d f = (let no_way : None ≡ Some (Call client seq d.op) = d.call in absurd (cc))
one_place group (c ∷ log) a zero zero client seq d f = refl
one_place group (c ∷ log) a zero (suc other) client seq d f = absurd (not_later group c log other client seq a d (record { op = f.op; reply = f.reply; call = f.call; effect = f.effect }))
one_place group (c ∷ log) a (suc place) zero client seq d f = absurd (not_later group c log place client seq a f (record { op = d.op; reply = d.reply; call = d.call; effect = d.effect }))
one_place group (c ∷ log) a (suc place) (suc other) client seq d f =
    ap suc (one_place (applied group c).0 log (apart_right (entry_of c (applied group c).1) (done_by (applied group c).0 log) a) place other client seq
    (record { op = d.op; reply = d.reply; call = d.call; effect = d.effect }) (record { op = f.op; reply = f.reply; call = f.call; effect = f.effect }))

-- each log of calls, joins and leaves makes a history
pub log_makes_history : LogsMakeHistories
log_makes_history group none log keeps =
    let recorded = recorded_next [] group log keeps (at_start group none) in
    record {
      tells = record { legal = record { replay = recorded.replay; once = all_pairs (done_by group log) recorded.apart }; pairs = recorded.pairs; noted = recorded.noted; latest = recorded.latest };
      backlog = calls_of group log;
      replies = λ client seq op reply r.
          (let after = state_after group log in
          subst (λ es. HasEntry es client seq reply) (sym (done_push group log (Call client seq op)))
          ((by_lock (done_by group log) after client seq op recorded after.core.gone after.core.lock).replies reply r));
      places = place_of group log;
      once = one_place group log recorded.apart;
    }
