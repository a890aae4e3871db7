-- The start of an execution: the entry of the next slot lengthens the log, and what is old is forgotten.
use Rattle.std.proofs.Common.{◌≡◌, ℕ, suc, ◌+◌, ◌<◌, ◌≤◌, List, [], ◌∷◌, ◌++◌, length, inl, inr, sym, ◌∙◌, ap, subst, arith}
use Rattle.std.proofs.lemmas.List.{length_push, take-append-le, take_all}
use Rattle.sc_node_table.specs.Values.{Command, Base}
use Rattle.sc_group_table.specs.machine.MachineDefinitions.{Group, applied}
use Rattle.sc_words.proofs.PaxosProofs.PaxosLemmas.{Each-weaker}
use Rattle.sc_paxos_law.specs.PaxosLawDefinitions.{needed, members_of, IsChosenAfter}
use Rattle.sc_paxos_law.proofs.Lemmas.{longer_log, get_pushed}
use Rattle.sc_node_table.specs.NodeDefinitions.{rest_of, ReplicaState, next, floor_of, forgotten, waits_in, entered}
use Rattle.sc_meaning.specs.sound.SoundDefinitions.{Ahead}
use Rattle.sc_law_groups.proofs.GroupProofs.ForgottenEntries.{floor_low}
use Rattle.sc_law_groups.proofs.GroupProofs.Invariant.{Steps, rule, AreSets, HasLog, next_is, pushed_has, cut_has, IsReplica, next_after, forgotten_replica}
use Rattle.sc_law_groups.proofs.GroupProofs.WithoutOne.{rest_length, rest_count, rest_get}
use Rattle.sc_law_walks.proofs.WalkLemmas.{entry_is as with_entry-is}
pub use Rattle.sc_law_walks.proofs.WalkLemmas.{entered_running as entered_runs}

module _ (ahead : Ahead) (base : Base) where
  -- ---- the log and the open slots with one entry more

  members_later : (log : List Command) (c : Command) (slot : ℕ) → needed (rule ahead base) slot ≤ length log → members_of (rule ahead base) log slot ≡ members_of (rule ahead base) (log ++ c ∷ []) slot
  members_later log c slot le = ap (rule ahead base).members (sym (take-append-le (needed (rule ahead base) slot) log (c ∷ []) le))

  more_sets : (log : List Command) (c : Command) (sets : List (List ℕ)) (set : List ℕ) → length sets ≡ ahead.slots → set ≡ (rule ahead base).members (log ++ c ∷ [])
      → AreSets ahead base log (length log + 1) sets → AreSets ahead base (log ++ c ∷ []) (length log + 1 + 1) (rest_of sets ++ set ∷ [])
  more_sets log c sets set count last are k other at =
      let longer = length_push log c in
      elim (get_pushed (rest_of sets) set k other at) [
        | inl old ↦ (
            let here = are (suc k) other (rest_get sets k other old) in
            let same : length log + 1 + suc k ≡ length log + 1 + 1 + k = omega arith in
            subst (λ n. (other ≡ members_of (rule ahead base) (log ++ c ∷ []) n) × (needed (rule ahead base) n ≤ length (log ++ c ∷ []))) same
            (here.0 ∙ members_later log c (length log + 1 + suc k) here.1, (let le = here.1 in omega (arith, le, longer))))
        | inr (end, same) ↦ (
            let one = ahead.some in
            let rest = rest_count sets (omega (arith, count, one)) in
            let slots : needed (rule ahead base) (length log + 1 + 1 + k) ≡ length (log ++ c ∷ []) = omega (arith, end, rest, count, longer) in (
              sym same ∙ last ∙ ap (rule ahead base).members (sym (take_all (needed (rule ahead base) (length log + 1 + 1 + k)) (log ++ c ∷ []) (omega (arith, slots)))),
              omega (arith, slots),
            ))
      ]

module _ (ahead : Ahead) (base : Base) (made : Command → Type 0) (me : ℕ) where
  abbrev Replica : Steps → ReplicaState → Type 0
  Replica h r = IsReplica ahead base made h me r

  -- ---- 1. the entry is applied and kept, and what is old is forgotten

  -- the log and the group with the entry
  pub entered_has : (h : Steps) (c : Command) (r : ReplicaState) (k : Replica h r) → made c → IsChosenAfter (rule ahead base) h k.whole (length k.whole + 1) c
      → HasLog ahead base made h (k.whole ++ c ∷ []) (record r.log { entries = r.log.entries ++ c ∷ [] }) (applied r.group c).0
  entered_has h c r k m chosen = pushed_has ahead base made h k.whole r.log r.group c k.log_is m (longer_log (rule ahead base) h k.whole c k.log_is.is_log chosen)

  entered_to : (h : Steps) (c : Command) (waits : ℕ) (r : ReplicaState) (k : Replica h r) → made c → IsChosenAfter (rule ahead base) h k.whole (length k.whole + 1) c
      → Replica h (forgotten (next r) (record r { group = (applied r.group c).0; log = record r.log { entries = r.log.entries ++ c ∷ [] }; sets = rest_of r.sets ++ (applied r.group c).0.core.members ∷ []; waits = waits }))
  entered_to h c waits r k m chosen =
      let log = k.whole in
      let longer = length_push log c in
      let count = k.count in
      let one = ahead.some in
      let has = entered_has h c r k m chosen in
      let at = next_after ahead base made h me r k in
      let low = floor_low (next r) in
      let here : Replica h (record r { group = (applied r.group c).0; log = record r.log { entries = r.log.entries ++ c ∷ [] }; sets = rest_of r.sets ++ (applied r.group c).0.core.members ∷ []; waits = waits }) = record {
        me_is = k.me_is;
        whole = log ++ c ∷ [];
        log_is = has;
        acceptor_is = k.acceptor_is;
        tops = k.tops;
        prepares = λ b from a own. (let le = k.prepares b from a own in omega (arith, le, longer));
        count = rest_length r.sets (applied r.group c).0.core.members (omega (arith, count, one)) ∙ k.count;
        sets = subst (λ n. AreSets ahead base (log ++ c ∷ []) (n + 1) (rest_of r.sets ++ (applied r.group c).0.core.members ∷ [])) (sym longer)
            (more_sets ahead base log c r.sets (applied r.group c).0.core.members k.count (ap (λ (g : Group). g.core.members) has.group_is) k.sets);
        backlog = k.backlog;
        acts = k.acts;
        flights = k.flights;
        ready = k.ready;
        leads = λ runs. (let l = k.leads runs in
            record {
              own = l.own;
              low = l.low;
              first_is = l.first_is;
              votes = l.votes;
              promisers = l.promisers;
              reports = l.reports;
              made = Each-weaker _ _ (λ v p. (p.0, (let le = p.1 in omega (arith, le, longer)))) l.votes l.made;
              offers = λ slot d a. elim (l.offers slot d a) [ inl lt ↦ inl (omega (arith, lt, longer)) | inr t ↦ inr t ];
            });
      } in
      forgotten_replica ahead base made h me (next r) _ here (omega (arith, low, at, longer))

  entered_is : (c : Command) (r : ReplicaState)
      → entered c r ≡ forgotten (next r) (record r { group = (applied r.group c).0; log = record r.log { entries = r.log.entries ++ c ∷ [] }; sets = rest_of r.sets ++ (applied r.group c).0.core.members ∷ []; waits = waits_in (applied r.group c).0.core.lock r.waits })
  unfolding entered
  entered_is c r = ap (λ l. forgotten (next r) (record r { group = (applied r.group c).0; log = l; sets = rest_of r.sets ++ (applied r.group c).0.core.members ∷ []; waits = waits_in (applied r.group c).0.core.lock r.waits })) (with_entry-is c r.log)

  -- a replica that has executed a chosen command is as the steps say
  pub entered_replica : (h : Steps) (c : Command) (r : ReplicaState) (k : Replica h r) → made c → IsChosenAfter (rule ahead base) h k.whole (length k.whole + 1) c → Replica h (entered c r)
  entered_replica h c r k m chosen = subst (Replica h) (sym (entered_is c r)) (entered_to h c (waits_in (applied r.group c).0.core.lock r.waits) r k m chosen)

  -- the next slot is the one after the entry's
  pub entered_next : (h : Steps) (c : Command) (r : ReplicaState) (k : Replica h r) → made c → IsChosenAfter (rule ahead base) h k.whole (length k.whole + 1) c → next r < next (entered c r)
  unfolding forgotten
  entered_next h c r k m chosen =
      let has = entered_has h c r k m chosen in
      let longer = length_push k.whole c in
      let at = next_after ahead base made h me r k in
      let low = floor_low (next r) in
      let cut = cut_has ahead base made h (k.whole ++ c ∷ []) _ _ (floor_of (next r)) (omega (arith, low, at, longer)) has in
      let after = next_is ahead base made h (k.whole ++ c ∷ []) _ _ cut in
      let same : next (entered c r) ≡ length (k.whole ++ c ∷ []) + 1 = ap (λ (s : ReplicaState). next s) (entered_is c r) ∙ after in
      omega (arith, same, at, longer)
