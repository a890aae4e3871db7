-- What a group's lock, votes and decisions say of the entries of its log, whatever the log has.
use Rattle.std.proofs.Common.{◌≡◌, ◌||◌, Bool, true, false, cond, List, [], ◌∷◌, ◌++◌, map, Option, Some, None, ◌⊎◌, inl, inr, refl, sym, ◌∙◌, ap, subst, find, option_map}
use Rattle.std.specs.List.{list_any}
use Rattle.std.proofs.lemmas.Bool.{cond-true, cond-false, cond_both}
use Rattle.sc_base.specs.Definitions.{Among, same_draw}
use Rattle.sc_node_table.specs.Values.{Draw, Offer, Watch, Command, Join, Leave, Watched, Core, Lock, Free, Coordinating, Promised, Watching, Effect, No, Outcome, Past}
use Rattle.sc_base.proofs.Lemmas.{draw_is, same_name}
use Rattle.sc_words.specs.declared.commands.effects.Effect.TheVariants as Was
use Rattle.sc_words.specs.declared.commands.votes.Past.TheVariants as Cast
use Rattle.sc_group_table.specs.machine.MachineDefinitions.{closed, Group, state_after, applied, refusal_of, with_node, without_node, has_voted, offer_no, watch_no, vote_of, watch_vote_of, past_of, bound_by}
use Rattle.sc_paxos_law.proofs.Lemmas.{Among-either}
use Rattle.sc_law_groups.proofs.GroupProofs.GroupLemmas.{ordered_if}
use Rattle.sc_law_entries.proofs.HistoryProofs.HistoryLemmas.{free_by, free_by_no}
use Rattle.sc_law_groups.proofs.WholeProofs.Coming.{Binds, comes}
use Rattle.sc_law_walks.proofs.WalkLemmas.{EndsIt}

-- ---- what once came of an entry

-- an entry of a log of which this holds, after the entries before it
pub record Ever (Did : Group → Command → Type 0) (group : Group) (log : List Command) : Type 0 where
  pub prefix : List Command
  pub entry : Command
  pub later : List Command
  pub fact : log ≡ prefix ++ entry ∷ later
  pub did : Did (state_after group prefix) entry

-- what a log brings about held before it, or an entry brought it about
pub ever : (Q : Group → Type 0) (Did : Group → Command → Type 0) → ((group : Group) (c : Command) → Q (applied group c).0 → Q group ⊎ Did group c) → (group : Group) (log : List Command)
    → Q (state_after group log) → Q group ⊎ Ever Did group log
ever Q Did step group [] q = inl q
ever Q Did step group (c ∷ log) q =
    elim (ever Q Did step (applied group c).0 log q) [
      | inl here ↦ elim (step group c here) [
        | inl old ↦ inl old
        | inr did ↦ inr (record { prefix = []; entry = c; later = log; fact = refl; did = did })
      ]
      | inr e ↦ inr (record { prefix = c ∷ e.prefix; entry = e.entry; later = e.later; fact = ap (λ cs. c ∷ cs) e.fact; did = e.did })
    ]

-- what each entry keeps holds after a log
pub always : (Q : Group → Type 0) → ((group : Group) (c : Command) → Q group → Q (applied group c).0) → (group : Group) (log : List Command) → Q group → Q (state_after group log)
always Q step group [] q = q
always Q step group (c ∷ log) q = always Q step (applied group c).0 log (step group c q)

-- ---- a watcher

-- a watcher's Yes
pub record WatchesIt (tx : Draw) (watch : Watch) (group : Group) (c : Command) : Type 0 where
  pub command : c ≡ Watched tx watch
  pub effect : (applied group c).1 ≡ Was.Voted Cast.Yes

module _ (tx : Draw) (watch : Watch) where
  -- a vote on an offer binds no watcher
  offered_lock : (why : Option No) (t : Draw) (offer : Offer) (lock : Lock) → bound_by why (Promised t offer) lock ≡ Watching tx watch → lock ≡ Watching tx watch
  offered_lock None t offer lock e = cc
  offered_lock (Some reason) t offer lock e = e

  -- a vote on a question leaves the watcher, or is its Yes
  asked_lock : (why : Option No) (t : Draw) (w : Watch) (lock : Lock) → bound_by why (Watching t w) lock ≡ Watching tx watch
      → (lock ≡ Watching tx watch) ⊎ ((Watched t w ≡ Watched tx watch) × (Was.Voted (past_of why) ≡ Was.Voted Cast.Yes))
  asked_lock None t w lock e = (
      let one : t ≡ tx = cc in
      let other : w ≡ watch = cc in
      inr (ap (λ d. Watched d w) one ∙ ap (λ v. Watched tx v) other, refl))
  asked_lock (Some reason) t w lock e = inl e

  -- what came of a command
  abbrev Came : Group → Command → Group × Effect → Type 0
  Came group d x = x.0.core.lock ≡ Watching tx watch → (group.core.lock ≡ Watching tx watch) ⊎ ((d ≡ Watched tx watch) × (x.1 ≡ Was.Voted Cast.Yes))

  -- with one command more
  watching_step : (group : Group) (c : Command) → (applied group c).0.core.lock ≡ Watching tx watch → (group.core.lock ≡ Watching tx watch) ⊎ WatchesIt tx watch group c
  watching_step group c e =
      elim (comes group (Came group)
      (record {
        same = λ d effect dull e. inl e;
        served = λ client seq op after effect fact e. inl (subst (λ (core : Core). core.lock ≡ Watching tx watch) fact e);
        joined = λ node order. ordered_if (λ g. Came group (Join node order) (g, (applied group (Join node order)).1)) group.core.gone (refusal_of group.core (Join node order)) (with_node group node) group (λ _ e. inl e) (λ e. inl e);
        left = λ node order. ordered_if (λ g. Came group (Leave node order) (g, (applied group (Leave node order)).1)) group.core.gone (refusal_of group.core (Leave node order)) (without_node group node) group (λ _ e. inl e) (λ e. inl e);
        parted = λ at child order _ e. inl e;
        split = λ at child order _ e. cc;
        begun = λ t body order _ e. cc;
        offered = λ t offer _ e. inl (offered_lock (vote_of group.core offer) t offer group.core.lock e);
        asked = λ t w _ e. asked_lock (watch_vote_of group.core w) t w group.core.lock e;
        heard = λ t order got lock frozen by e. cc;
        ended = λ d t ends free after outcome r e. cc;
        finished = λ t binds after outcome r e. cc;
      }) c e) [
        | inl old ↦ inl old
        | inr (command, effect) ↦ inr (record { command = command; effect = effect })
      ]

  -- who watches has said Yes
  pub watching_since : (group : Group) (log : List Command) → group.core.lock ≡ Free → (state_after group log).core.lock ≡ Watching tx watch → Ever (WatchesIt tx watch) group log
  watching_since group log free e =
      elim (ever (λ g. g.core.lock ≡ Watching tx watch) (WatchesIt tx watch) watching_step group log e) [ inl old ↦ absurd (no_watch (sym free ∙ old)) | inr since ↦ since ]
    where
      no_watch : Free ≡ Watching tx watch → ⊥
      no_watch e = cc

-- ---- decisions

-- an entry that decides a transaction so
pub record DecidesIt (tx : Draw) (outcome : Outcome) (group : Group) (c : Command) : Type 0 where
  pub ends : EndsIt tx c
  pub effect : (applied group c).1 ≡ Was.Decided outcome

module _ (tx : Draw) (outcome : Outcome) where
  -- the decision stands in the group
  abbrev HasIt : Group → Type 0
  HasIt group = Among (tx, outcome) group.core.decided

  -- what came of a command
  abbrev CameOf : Group → Command → Group × Effect → Type 0
  CameOf group d x = HasIt x.0 → HasIt group ⊎ (EndsIt tx d × (x.1 ≡ Was.Decided outcome))

  one_more : (group : Group) (d : Command) (t : Draw) (o : Outcome) (old : List (Draw × Outcome)) → old ≡ group.core.decided → EndsIt t d → Among (tx, outcome) (old ++ (t, o) ∷ []) → HasIt group ⊎ (EndsIt tx d × (Was.Decided o ≡ Was.Decided outcome))
  one_more group d t o old fact ends a =
      elim (Among-either (tx, outcome) old ((t, o) ∷ []) a) [
        | inl b ↦ inl (subst (Among (tx, outcome)) fact b)
        | inr (inl e) ↦ inr (subst (λ n. EndsIt n d) (ap (λ (p : Draw × Outcome). p.0) e) ends, ap (λ (p : Draw × Outcome). Was.Decided p.1) e)
        | inr (inr none) ↦ absurd none
      ]

  -- with one command more
  decided_step : (group : Group) (c : Command) → HasIt (applied group c).0 → HasIt group ⊎ DecidesIt tx outcome group c
  decided_step group c a =
      elim (comes group (CameOf group)
      (record {
        same = λ d effect dull a. inl a;
        served = λ client seq op after effect fact a. inl (subst (λ (core : Core). Among (tx, outcome) core.decided) fact a);
        joined = λ node order. ordered_if (λ g. CameOf group (Join node order) (g, (applied group (Join node order)).1)) group.core.gone (refusal_of group.core (Join node order)) (with_node group node) group (λ _ a. inl a) (λ a. inl a);
        left = λ node order. ordered_if (λ g. CameOf group (Leave node order) (g, (applied group (Leave node order)).1)) group.core.gone (refusal_of group.core (Leave node order)) (without_node group node) group (λ _ a. inl a) (λ a. inl a);
        parted = λ at child order _ a. inl a;
        split = λ at child order _ a. inl a;
        begun = λ t body order _ a. inl a;
        offered = λ t offer _ a. inl a;
        asked = λ t w _ a. inl a;
        heard = λ t order got lock frozen by a. inl a;
        ended = λ d t ends free after o r a. one_more group d t o after.core.decided r.decided ends a;
        finished = λ t binds after o r a. inl (subst (Among (tx, outcome)) r.decided a);
      }) c a) [
        | inl old ↦ inl old
        | inr (ends, effect) ↦ inr (record { ends = ends; effect = effect })
      ]

  -- what a group has decided an entry of its log decided
  pub decided_since : (group : Group) (log : List Command) → group.core.decided ≡ [] → HasIt (state_after group log) → Ever (DecidesIt tx outcome) group log
  decided_since group log none a =
      elim (ever HasIt (DecidesIt tx outcome) decided_step group log a) [ inl old ↦ absurd (subst (Among (tx, outcome)) none old) | inr since ↦ since ]

-- ---- votes

module _ (tx : Draw) where
  -- the vote on the transaction
  abbrev noted : List (Draw × Past) → Option Past
  noted voted = option_map (λ (vote : Draw × Past). vote.1) (find (λ (vote : Draw × Past). same_draw vote.0 tx) voted)

  -- with one vote more
  noted_push : (voted : List (Draw × Past)) (t : Draw) (p : Past) → noted (voted ++ (t, p) ∷ []) ≡ Some Cast.Yes → (noted voted ≡ Some Cast.Yes) ⊎ ((t ≡ tx) × (p ≡ Cast.Yes))
  noted_push [] t p =
      cond_both (same_draw t tx) (Some (t, p)) None (λ (o : Option (Draw × Past)). option_map (λ (vote : Draw × Past). vote.1) o ≡ Some Cast.Yes → (None ≡ Some Cast.Yes) ⊎ ((t ≡ tx) × (p ≡ Cast.Yes)))
      (λ same e. inr (draw_is t tx same, cc)) (λ _ e. cc)
  noted_push (v ∷ voted) t p =
      cond_both (same_draw v.0 tx) (Some v) (find (λ (vote : Draw × Past). same_draw vote.0 tx) (voted ++ (t, p) ∷ []))
      (λ (o : Option (Draw × Past)). option_map (λ (vote : Draw × Past). vote.1) o ≡ Some Cast.Yes → (noted (v ∷ voted) ≡ Some Cast.Yes) ⊎ ((t ≡ tx) × (p ≡ Cast.Yes)))
      (λ same e. inl (ap (option_map (λ (vote : Draw × Past). vote.1)) (cond-true (same_draw v.0 tx) (Some v) _ same) ∙ e))
      (λ other e. elim (noted_push voted t p e) [
        | inl old ↦ inl (ap (option_map (λ (vote : Draw × Past). vote.1)) (cond-false (same_draw v.0 tx) (Some v) _ other) ∙ old)
        | inr new ↦ inr new
      ])

  -- what has ended is no Yes
  no_yes : (p : Past) → Some Cast.Ended ≡ Some Cast.Yes → ⊥
  no_yes p e = cc

  -- a Yes that stands when another transaction has ended
  closed_one : (t : Draw) (v : Draw × Past) (voted : List (Draw × Past)) → (b : Bool) → same_draw v.0 t ≡ b
      → (noted (map (closed t) voted) ≡ Some Cast.Yes → (noted voted ≡ Some Cast.Yes) × (t ≡ tx → ⊥)) → noted (map (closed t) (v ∷ voted)) ≡ Some Cast.Yes → (noted (v ∷ voted) ≡ Some Cast.Yes) × (t ≡ tx → ⊥)
  closed_one t v voted true e rest y =
      let here : closed t v ≡ (v.0, Cast.Ended) = cond-true (same_draw v.0 t) (v.0, Cast.Ended) v e in
      let got : noted ((v.0, Cast.Ended) ∷ map (closed t) voted) ≡ Some Cast.Yes = subst (λ w. noted (w ∷ map (closed t) voted) ≡ Some Cast.Yes) here y in
      cond_both (same_draw v.0 tx) (Some (v.0, Cast.Ended)) (find (λ (vote : Draw × Past). same_draw vote.0 tx) (map (closed t) voted))
      (λ (o : Option (Draw × Past)). option_map (λ (vote : Draw × Past). vote.1) o ≡ Some Cast.Yes → (noted (v ∷ voted) ≡ Some Cast.Yes) × (t ≡ tx → ⊥))
      (λ _ ended. absurd (no_yes Cast.Yes ended))
      (λ other more. (let k = rest more in (ap (option_map (λ (vote : Draw × Past). vote.1)) (cond-false (same_draw v.0 tx) (Some v) _ other) ∙ k.0, k.1))) got
  closed_one t v voted false e rest y =
      let here : closed t v ≡ v = cond-false (same_draw v.0 t) (v.0, Cast.Ended) v e in
      let got : noted (v ∷ map (closed t) voted) ≡ Some Cast.Yes = subst (λ w. noted (w ∷ map (closed t) voted) ≡ Some Cast.Yes) here y in
      cond_both (same_draw v.0 tx) (Some v) (find (λ (vote : Draw × Past). same_draw vote.0 tx) (map (closed t) voted))
      (λ (o : Option (Draw × Past)). option_map (λ (vote : Draw × Past). vote.1) o ≡ Some Cast.Yes → (noted (v ∷ voted) ≡ Some Cast.Yes) × (t ≡ tx → ⊥))
      (λ same got_it. (
        ap (option_map (λ (vote : Draw × Past). vote.1)) (cond-true (same_draw v.0 tx) (Some v) _ same) ∙ got_it,
        λ fact. (let no_way : true ≡ false = sym (same_name v.0 t (draw_is v.0 tx same ∙ sym fact)) ∙ e in absurd (cc)),
      ))
      (λ other more. (let k = rest more in (ap (option_map (λ (vote : Draw × Past). vote.1)) (cond-false (same_draw v.0 tx) (Some v) _ other) ∙ k.0, k.1))) got

  -- of no votes none is noted
  none_noted : noted [] ≡ Some Cast.Yes → ⊥
  none_noted e = cc

  -- a Yes among votes of which one was closed is another's
  closed_noted : (t : Draw) (voted : List (Draw × Past)) → noted (map (closed t) voted) ≡ Some Cast.Yes → (noted voted ≡ Some Cast.Yes) × (t ≡ tx → ⊥)
  closed_noted t [] y = absurd (none_noted y)
  closed_noted t (v ∷ voted) y = closed_one t v voted (same_draw v.0 t) refl (closed_noted t voted) y

  -- a vote that is noted is one of these
  noted_any : (voted : List (Draw × Past)) → noted voted ≡ Some Cast.Yes → list_any (λ (vote : Draw × Past). same_draw vote.0 tx) voted ≡ true
  noted_any [] y = absurd (none_noted y)
  noted_any (v ∷ voted) y =
      cond_both (same_draw v.0 tx) (Some v) (find (λ (vote : Draw × Past). same_draw vote.0 tx) voted)
      (λ (o : Option (Draw × Past)). option_map (λ (vote : Draw × Past). vote.1) o ≡ Some Cast.Yes → (same_draw v.0 tx || list_any (λ (vote : Draw × Past). same_draw vote.0 tx) voted) ≡ true)
      (λ same _. ap (λ b. b || list_any (λ (vote : Draw × Past). same_draw vote.0 tx) voted) same)
      (λ other more. ap (λ b. b || list_any (λ (vote : Draw × Past). same_draw vote.0 tx) voted) other ∙ noted_any voted more) y

  -- a Yes that is noted binds the group
  abbrev pub YesBinds : Group → Type 0
  YesBinds group = noted group.core.voted ≡ Some Cast.Yes → Binds group.core.lock tx

  -- a Yes binds with one vote more
  yes_of : (why : Option No) (bond lock : Lock) (voted : List (Draw × Past)) (t : Draw) → (why ≡ None → lock ≡ Free) → Binds bond t → (noted voted ≡ Some Cast.Yes → Binds lock tx)
      → noted (voted ++ (t, past_of why) ∷ []) ≡ Some Cast.Yes → Binds (bound_by why bond lock) tx
  yes_of None bond lock voted t free binds y e = elim (noted_push voted t Cast.Yes e) [
    | inl old ↦ absurd (subst (λ l. Binds l tx) (free refl) (y old))
    | inr (same, _) ↦ subst (Binds bond) same binds
  ]
  yes_of (Some reason) bond lock voted t free binds y e = elim (noted_push voted t (Cast.No reason) e) [ inl old ↦ y old | inr (same, p) ↦ cc ]

  -- a group is bound in one transaction
  one_bond : (lock : Lock) (t : Draw) → Binds lock t → Binds lock tx → t ≡ tx
  one_bond Free t a b = absurd a
  one_bond (Coordinating d body order got) t a b = absurd a
  one_bond (Promised d offer) t a b = sym a ∙ b
  one_bond (Watching d watch) t a b = sym a ∙ b

  -- no Yes is left where the vote of its transaction was closed
  freed : (voted : List (Draw × Past)) (t : Draw) (lock : Lock) → Binds lock t → (noted voted ≡ Some Cast.Yes → Binds lock tx) → (b : Bool) → list_any (λ (vote : Draw × Past). same_draw vote.0 t) voted ≡ b
      → noted (cond b (map (closed t) voted) (voted ++ (t, Cast.Ended) ∷ [])) ≡ Some Cast.Yes → ⊥
  freed voted t lock binds y true has e =
      let k = closed_noted t voted e in
      k.1 (one_bond lock t binds (y k.0))
  freed voted t lock binds y false has e = elim (noted_push voted t Cast.Ended e) [
    | inl old ↦ (
        let same = one_bond lock t binds (y old) in
        let there = subst (λ d. list_any (λ (vote : Draw × Past). same_draw vote.0 d) voted ≡ true) (sym same) (noted_any voted old) in
        let no_way : true ≡ false = sym there ∙ has in
        absurd (cc))
    | inr (same, p) ↦ cc
  ]

  -- with one command more
  yes_step : (group : Group) (c : Command) → YesBinds group → YesBinds (applied group c).0
  yes_step group c y =
      comes group (λ d x. YesBinds x.0)
      (record {
        same = λ d effect dull. y;
        served = λ client seq op after effect fact. subst (λ (core : Core). noted core.voted ≡ Some Cast.Yes → Binds core.lock tx) (sym fact) y;
        joined = λ node order. ordered_if YesBinds group.core.gone _ (with_node group node) group (λ _. y) y;
        left = λ node order. ordered_if YesBinds group.core.gone _ (without_node group node) group (λ _. y) y;
        parted = λ at child order _. y;
        split = λ at child order e n. subst (λ l. Binds l tx) (free_by group.core.lock group.core _ e) (y n);
        begun = λ t body order e n. subst (λ l. Binds l tx) (free_by group.core.lock group.core _ e) (y n);
        offered = λ t offer _. yes_of (vote_of group.core offer) (Promised t offer) group.core.lock group.core.voted t (free_by_no group.core.gone group.core.lock (offer_no group.core offer)) refl y;
        asked = λ t w _. yes_of (watch_vote_of group.core w) (Watching t w) group.core.lock group.core.voted t (free_by_no group.core.gone group.core.lock (watch_no group.core w)) refl y;
        heard = λ t order got lock frozen by n. subst (λ l. Binds l tx) lock (y n);
        ended = λ d t ends free after o r n. absurd (free tx (y (subst (λ v. noted v ≡ Some Cast.Yes) r.voted n)));
        finished = λ t binds after o r n. absurd (freed after.core.voted t group.core.lock binds (λ m. y (subst (λ v. noted v ≡ Some Cast.Yes) r.voted m)) (has_voted after.core t) refl n);
      }) c

  -- after every log
  pub yes_binds : (group : Group) (log : List Command) → group.core.voted ≡ [] → YesBinds (state_after group log)
  yes_binds group log none = always YesBinds yes_step group log (λ n. absurd (none_noted (subst (λ v. noted v ≡ Some Cast.Yes) none n)))
