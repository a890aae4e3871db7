-- A state that is sent: a replica that takes it over, and one that is made of it.
use Rattle.std.proofs.Common.{◌≡◌, ℕ, ◌+◌, ◌≤◌, true, false, List, [], ◌++◌, length, Some, refl, sym, ◌∙◌, ap, subst, arith}
use Rattle.std.proofs.lemmas.List.{drop_all}
use Rattle.sc_node_table.specs.Values.{Ballot, Draw, Command, Base, Mail, MailBody}
use Rattle.sc_group_table.specs.machine.MachineDefinitions.{Group, group_of}
use Rattle.sc_base.specs.Definitions.{Among}
use Rattle.sc_words.specs.paxos.PaxosDefinitions.{born_acceptor, installed, first_leader}
use Rattle.sc_words.proofs.PaxosProofs.PaxosLemmas.{Each-among}
use Rattle.sc_paxos_law.specs.PaxosLawDefinitions.{Offered, IsLawfulHistory}
use Rattle.sc_node_table.specs.NodeDefinitions.{ReplicaState, Place, first_ballot, name_of, next, forgotten, waits_in, installed_replica, named, jumped}
use Rattle.sc_law_entries.proofs.HistoryProofs.HistoryLemmas.{state_same}
use Rattle.sc_meaning.specs.sound.SoundDefinitions.{Ahead}
use Rattle.sc_law_groups.proofs.GroupProofs.Growth.{IsFresh, fresh_state}
use Rattle.sc_law_groups.proofs.GroupProofs.ForgottenEntries.{Mirrors, mirrors_itself, floor_low}
use Rattle.sc_law_groups.proofs.GroupProofs.Invariant.{Steps, rule, first, birth, AreSets, HasLog, IsReplica, next_after, forgotten_replica, IsState, grown_state}
use Rattle.sc_law_groups.proofs.GroupProofs.Midway.{Fine, turn}
use Rattle.sc_law_groups.proofs.GroupProofs.Sending.{name_is}

module _ (ahead : Ahead) (base : Base) (made : Command → Type 0) (heard : MailBody → Type 0) (me : ℕ) (older : List Mail) (before : Steps) where
  abbrev Ok : Place → Type 0
  Ok = Fine ahead base made heard me older before

  abbrev Replica : Steps → ReplicaState → Type 0
  Replica h r = IsReplica ahead base made h me r

  -- the state that was sent is the whole log up to its slot, of which nothing is held
  state_has : (h : Steps) (slot : ℕ) (from : Base) (sets : List (List ℕ)) (t : IsState ahead base made h slot from sets) → HasLog ahead base made h t.log (installed slot) (group_of from)
  state_has h slot from sets t =
      let count = t.count in
      record {
        low = omega (arith, count);
        entries_are = sym (drop_all slot t.log (omega (arith, count)));
        group_is = t.group_is;
        is_log = t.is_log;
        all_made = t.all_made;
      }

  state_sets : (h : Steps) (slot : ℕ) (from : Base) (sets : List (List ℕ)) (t : IsState ahead base made h slot from sets) → AreSets ahead base t.log (length t.log + 1) sets
  state_sets h slot from sets t = subst (λ n. AreSets ahead base t.log (n + 1) sets) (sym t.count) t.sets_are

  -- it has the group's name, so it stays what it is under that name
  state_named : (g : Draw) (h : Steps) (slot : ℕ) (state : Base) (sets : List (List ℕ)) → g ≡ base.core.id → IsState ahead base made h slot state sets → named g state ≡ state
  state_named g h slot state sets e t =
      let same = ap (λ (g : Group). g.core.id) t.group_is ∙ (state_same (birth ahead base) t.log).0 in
      ap (λ d. named d state) (e ∙ sym same)

  -- ---- a replica jumps to it

  jumped_to : (h : Steps) (slot : ℕ) (from : Base) (sets : List (List ℕ)) (waits : ℕ) (r : ReplicaState) → Replica h r → r.running ≡ false → length sets ≡ length r.sets → next r ≤ slot → IsState ahead base made h slot from sets
      → Replica h (forgotten slot (record r { group = group_of from; log = installed slot; sets = sets; waits = waits }))
  jumped_to h slot from sets waits r k still many up t =
      let at = next_after ahead base made h me r k in
      let count = t.count in
      let low = floor_low slot in
      let here : Replica h (record r { group = group_of from; log = installed slot; sets = sets; waits = waits }) = record {
        me_is = k.me_is;
        whole = t.log;
        log_is = state_has h slot from sets t;
        acceptor_is = k.acceptor_is;
        tops = k.tops;
        prepares = λ b start a own. (let le = k.prepares b start a own in omega (arith, le, at, up, count));
        count = many ∙ k.count;
        sets = state_sets h slot from sets t;
        backlog = k.backlog;
        acts = k.acts;
        flights = k.flights;
        ready = k.ready;
        leads = λ runs. (let no_way : true ≡ false = sym runs ∙ still in absurd (cc));
      } in
      forgotten_replica ahead base made h me slot _ here (omega (arith, low, count))

  -- a state that is taken over keeps what holds
  pub fine_jumped : (slot : ℕ) (state : Base) (sets : List (List ℕ)) (r : ReplicaState) (mails : List Mail) → r.running ≡ false → length sets ≡ length r.sets → next r ≤ slot → IsState ahead base made before slot state sets → Ok (r, mails) → Ok (jumped slot state sets r, mails)
  unfolding jumped
  fine_jumped slot state sets r mails still many up t f =
      let h = f.newer ++ before in
      let now = grown_state ahead base made made (λ c m. m) f.newer before slot state sets t in
      turn ahead base made heard me older before r (jumped slot state sets r) mails f
      (subst (λ (s : Base). Replica h (forgotten slot (record r { group = group_of s; log = installed slot; sets = sets; waits = waits_in state.core.lock r.waits })))
      (sym (state_named (name_of r) h slot state sets (name_is ahead base made heard me older before h r f.replica) now))
      (jumped_to h slot state sets (waits_in state.core.lock r.waits) r f.replica still many up now))

  -- ---- a replica is made of it

  state_first : (h : Steps) (slot : ℕ) (state : Base) (sets : List (List ℕ)) → IsState ahead base made h slot state sets → first_ballot state.core ≡ first ahead base
  state_first h slot state sets t =
      let same = ap (λ (g : Group). g.core.first) t.group_is ∙ (state_same (birth ahead base) t.log).1 in
      ap (λ n. (let b : Ballot = record { round = 1; node = n } in b)) same

  installed_is : (own slot : ℕ) (state : Base) (sets : List (List ℕ)) → own ≡ me → IsFresh me before → length sets ≡ ahead.slots → IsState ahead base made before slot state sets
      → Replica before (installed_replica own slot state sets)
  installed_is own slot state sets mine fresh many t =
      let count = t.count in
      let low = floor_low slot in
      let ballot = state_first before slot state sets t in
      let here : Replica before (record {
        me = own;
        group = group_of state;
        log = installed slot;
        acceptor = born_acceptor (first_ballot state.core);
        hint = Some state.core.first;
        top = first_ballot state.core;
        running = false;
        leader = first_leader (first_ballot state.core);
        ready = [];
        sets = sets;
        acts = [];
        backlog = [];
        waits = 0;
      }) = record {
        me_is = mine;
        whole = t.log;
        log_is = state_has before slot state sets t;
        acceptor_is = subst (Mirrors (born_acceptor (first_ballot state.core))) (ap (λ b. born_acceptor b) ballot ∙ sym (fresh_state (first ahead base) me before fresh)) (mirrors_itself (born_acceptor (first_ballot state.core)));
        tops = λ b at c a yes. absurd (Each-among _ before (Offered b at c) fresh a yes);
        prepares = λ b start a yes. absurd (Each-among _ before _ fresh a yes);
        count = many;
        sets = state_sets before slot state sets t;
        backlog = tt;
        acts = tt;
        flights = tt;
        ready = tt;
        leads = λ e. cc;
      } in
      forgotten_replica ahead base made before me slot _ here (omega (arith, low, count))

  -- a replica that is made of a true state is as the steps say
  pub fine_installed : [] ≡ older ++ [] → (own : ℕ) (g : Draw) (slot : ℕ) (state : Base) (sets : List (List ℕ)) → own ≡ me → g ≡ base.core.id → IsFresh me before → IsLawfulHistory (rule ahead base) (first ahead base) before
      → ((b : Ballot) (at : ℕ) (c : Command) → Among (Offered b at c) before → made c) → IsState ahead base made before slot state sets → Ok (installed_replica own slot (named g state) sets, [])
  fine_installed none own g slot state sets mine e fresh lawful requested t =
      subst (λ (s : Base). Ok (installed_replica own slot s sets, [])) (sym (state_named g before slot state sets e t))
      (record { sent = []; sent_is = none; newer = []; are = refl; by = tt; lawful = lawful; requested = requested; replica = installed_is own slot state sets mine fresh t.many t; mails = λ m a. absurd a; own = λ m a. absurd a })
