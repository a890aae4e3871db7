-- What an invariant of a group's record needs: that each part of it that a command changes keeps the invariant. The lock is what the group begins, hears, is bound by or is freed of.
use Rattle.std.specs.FinMap.{get}
use Rattle.std.proofs.Common.{◌≡◌, ℕ, nat_lt, eqb, ◌+◌, List, [], ◌∷◌, ◌++◌, map, Option, Some, None, refl}
use Rattle.std.proofs.lemmas.Bool.{cond_both}
use Rattle.sc_base.specs.Definitions.{Arc, before, from, joined, united, with_member, without_member}
use Rattle.sc_node_table.specs.Values.{Draw, Noted, Op, Body, Effect, Offer, Watch, Command, Core, Join, Leave, Split, Begin, Lock, Free, Coordinating, Promised, Watching, Link, Route, Frozen, Heard, No, Outcome, Past}
use Rattle.sc_words.specs.declared.commands.bodies.Body.TheVariants as By
use Rattle.sc_words.specs.declared.commands.votes.Outcome.TheVariants as Is
use Rattle.sc_words.specs.declared.commands.votes.Past.TheVariants as Cast
use Rattle.sc_group_table.specs.machine.MachineDefinitions.{called, served, served_by_note, Group, applied, locked_in, refused_in, refusal_of, left_members, no_of, vote_of, watch_vote_of, offer_no, watch_no, past_of, bound_by, has_voted, closed, voted_after, left_core, right_link, merged_core, merged_succ, merged_link, kept_arc, succ_with, pred_after}
use Rattle.sc_group_table.specs.machine.Plans.{repart_core}
use Rattle.sc_group_table.specs.machine.Splits.{left_pred}
use Rattle.sc_words.specs.ideal.IdealDefinitions.{key_of, holds_key}
use Rattle.sc_law_walks.proofs.Ways.{either_way}
use Rattle.sc_law_walks.proofs.MachineWalks.{MachineWalk}
use Rattle.sc_law_walks.proofs.MachineSteps.{machine_step}

-- ---- what a lock allows

-- a lock in no transaction
pub none_locked : (lock : Lock) → locked_in lock ≡ None → lock ≡ Free
none_locked Free e = refl
none_locked (Coordinating tx body order got) e = cc
none_locked (Promised tx offer) e = cc
none_locked (Watching tx watch) e = cc

unrefused : (o : Option Draw) (core : Core) (c : Command) → refused_in o core c ≡ None → o ≡ None
unrefused None core c e = refl
unrefused (Some tx) core c e = cc

-- an order that is not refused in this lock meets none
pub free_by : (lock : Lock) (core : Core) (c : Command) → refused_in (locked_in lock) core c ≡ None → lock ≡ Free
free_by lock core c e = none_locked lock (unrefused (locked_in lock) core c e)

-- an order that is not refused meets no lock
pub unrefused_free : (core : Core) (c : Command) → refusal_of core c ≡ None → core.lock ≡ Free
unrefused_free core c e = free_by core.lock core c e

unlocked : (gone : Option Route) (o : Option Draw) (why : Option No) → no_of gone o why ≡ None → o ≡ None
unlocked (Some into) o why e = cc
unlocked None (Some tx) why e = cc
unlocked None None why e = refl

-- nor does a Yes
pub yes_free : (gone : Option Route) (lock : Lock) (why : Option No) → no_of gone (locked_in lock) why ≡ None → lock ≡ Free
yes_free gone lock why e = none_locked lock (unlocked gone (locked_in lock) why e)

-- ---- a request leaves the record

pub noted_core : (o : Option Noted) (group : Group) (client seq : ℕ) (op : Op) → (served_by_note o group client seq op).0.core ≡ group.core
noted_core None group client seq op = refl
noted_core (Some noted) group client seq op = either_way (λ (x : Group × Effect). x.0.core ≡ group.core) (nat_lt noted.seq seq) _ _ refl (either_way (λ (x : Group × Effect). x.0.core ≡ group.core) (eqb noted.seq seq) _ _ refl refl)

pub served_core : (group : Group) (client seq : ℕ) (op : Op) → (served group client seq op).0.core ≡ group.core
served_core group client seq op = either_way (λ (x : Group × Effect). x.0.core ≡ group.core) (holds_key group.core.arc (key_of op)) _ _ (noted_core (get group.clients client) group client seq op) refl

-- whatever the group is, a request leaves its record
pub called_core : (gone : Option Route) (lock : Lock) (group : Group) (client seq : ℕ) (op : Op) → (called gone lock group client seq op).0.core ≡ group.core
called_core (Some into) lock group client seq op = refl
called_core None Free group client seq op = served_core group client seq op
called_core None (Watching tx watch) group client seq op = served_core group client seq op
called_core None (Coordinating tx body order heard) group client seq op = refl
called_core None (Promised tx offer) group client seq op = refl

-- ---- the parts of a record

-- That each part that a command changes keeps an invariant of the record, from the record that the command finds.
pub record CoreParts (start : Core) (P : Core → Type 0) : Type 0 where
  pub begun : P start
  pub arcs : (core : Core) (arc : Arc) → P core → P (record core { arc = arc })
  pub succs : (core : Core) (link : Link) → P core → P (record core { succ = link })
  pub preds : (core : Core) (link : Link) → P core → P (record core { pred = link })
  pub children : (core : Core) (child : Draw) → P core → P (record core { born = core.born ++ child ∷ [] })
  -- members
  pub joins : (node : ℕ) → start.lock ≡ Free → P (record start { members = with_member start.members node })
  pub leaves : (node : ℕ) → (start.lock ≡ Free) → P (record start { members = without_member start.members node })
  pub stay : (core : Core) → P core → P (record core { members = left_members core.members })
  pub unite : (core : Core) (others : List ℕ) → P core → P (record core { members = united core.members others })
  pub hands : (core : Core) (node : ℕ) → P core → P (record core { members = without_member core.members node })
  -- the lock
  pub begins : (tx : Draw) (body : Body) (order : ℕ) → start.lock ≡ Free → P (record start { lock = Coordinating tx body order None; begun = start.begun + 1 })
  pub hears : (tx : Draw) (order : ℕ) (heard : Heard) → start.lock ≡ Coordinating tx By.Merge order None → P (record start { lock = Coordinating tx By.Merge order (Some heard) })
  pub promises : (tx : Draw) (offer : Offer) → start.lock ≡ Free → P (record start { lock = Promised tx offer })
  pub watches : (tx : Draw) (watch : Watch) → start.lock ≡ Free → P (record start { lock = Watching tx watch })
  pub frees : (core : Core) → P core → P (record core { lock = Free })
  -- what is noted
  pub decides : (core : Core) (tx : Draw) (outcome : Outcome) → P core → P (record core { decided = core.decided ++ (tx, outcome) ∷ [] })
  pub votes : (core : Core) (tx : Draw) (vote : Past) → P core → P (record core { voted = core.voted ++ (tx, vote) ∷ [] })
  pub ends_votes : (core : Core) (tx : Draw) → P core → P (record core { voted = map (closed tx) core.voted })
  pub goes : (core : Core) (into : Route) → P core → P (record core { gone = Some into })

module _ (group : Group) (P : Core → Type 0) (k : CoreParts group.core P) where
  -- a decision frees
  decided_so : (core : Core) (tx : Draw) (outcome : Outcome) → P core → P (record core { lock = Free; decided = core.decided ++ (tx, outcome) ∷ [] })
  decided_so core tx outcome p = k.frees _ (k.decides core tx outcome p)

  -- so does the end of a party's transaction
  freed_so : (core : Core) (tx : Draw) → P core → P (record core { lock = Free; voted = voted_after core tx })
  freed_so core tx p =
      k.frees _ (cond_both (has_voted core tx) (map (closed tx) core.voted) (core.voted ++ (tx, Cast.Ended) ∷ []) (λ voted. P (record core { voted = voted })) (λ _. k.ends_votes core tx p) (λ _. k.votes core tx Cast.Ended p))

  bound_so : (why : Option No) (bond : Lock) → (why ≡ None → P (record group.core { lock = bond })) → P (record group.core { lock = bound_by why bond group.core.lock })
  bound_so None bond p = p refl
  bound_so (Some why) bond p = k.begun

  left_so : (core : Core) (at : ℕ) (child : Draw) → P core → P (left_core core at child)
  left_so core at child p = k.children _ child (k.preds _ (left_pred core child) (k.succs _ (right_link core child) (k.arcs _ (before core.arc at) (k.stay core p))))

  merged_so : (frozen : Frozen) → P (merged_core group.core frozen)
  merged_so frozen = k.succs _ (merged_succ group.core frozen) (k.arcs _ (joined group.core.arc frozen.arc) (k.unite group.core frozen.members k.begun))

  moved_so : (at : ℕ) (frozen : Frozen) → P (repart_core group.core at frozen)
  moved_so at frozen = k.succs _ (succ_with group.core frozen.members) (k.arcs group.core (kept_arc group.core at frozen) k.begun)

  -- the walk of the machine's table that carries it
  pub core_walk : MachineWalk group (λ c x. P x.0.core)
  core_walk = record {
    same = λ c effect _. k.begun;
    serves = λ client seq op. k.begun;
    joins = λ node order a. k.joins node (unrefused_free group.core (Join node order) a.taken);
    leaves = λ node order a. k.leaves node (unrefused_free group.core (Leave node order) a.taken);
    splits = λ at child order a new alone. left_so group.core at child k.begun;
    begins_split = λ at child order a new other. k.begins child (By.Split at child) order (unrefused_free group.core (Split at child order) a.taken);
    begins = λ tx body order a new. k.begins tx body order (unrefused_free group.core (Begin tx body order) a.taken);
    offers = λ tx offer new. k.votes _ tx (past_of (vote_of group.core offer)) (bound_so (vote_of group.core offer) (Promised tx offer) (λ e. k.promises tx offer (yes_free group.core.gone group.core.lock (offer_no group.core offer) e)));
    watches = λ tx watch new. k.votes _ tx (past_of (watch_vote_of group.core watch)) (bound_so (watch_vote_of group.core watch) (Watching tx watch) (λ e. k.watches tx watch (yes_free group.core.gone group.core.lock (watch_no group.core watch) e)));
    hears = λ tx order lock frozen by other. k.hears tx order (record { frozen = frozen; by = by }) lock;
    aborts = λ c tx ends body order got lock. decided_so group.core tx Is.Abort k.begun;
    divides = λ tx at child order got lock by can. decided_so _ tx Is.Divided (left_so group.core at child k.begun);
    merges = λ tx order heard lock by may. decided_so _ tx _ (merged_so heard.frozen);
    closes = λ tx order lock frozen by two may. decided_so _ tx _ (k.preds _ (merged_link group.core frozen) (merged_so frozen));
    gives = λ tx at order lock frozen by here can. decided_so _ tx _ (moved_so at frozen);
    takes = λ tx at order lock frozen by there can. decided_so _ tx _ (moved_so at frozen);
    migrates = λ tx node order lock frozen by can. decided_so _ tx _ (k.succs _ (succ_with group.core (united frozen.members (node ∷ []))) (k.hands group.core node k.begun));
    stays = λ tx offer lock. freed_so group.core tx k.begun;
    goes = λ tx offer lock into. freed_so _ tx (k.goes group.core into k.begun);
    gains = λ tx offer lock at gift can. freed_so _ tx (k.arcs group.core (joined (from offer.arc at) group.core.arc) k.begun);
    loses = λ tx offer lock at can. freed_so _ tx (k.arcs group.core (from group.core.arc at) k.begun);
    welcomes = λ tx offer lock node few. freed_so _ tx (k.unite group.core (node ∷ []) k.begun);
    sees_end = λ tx watch lock outcome. freed_so _ tx (k.preds group.core (pred_after outcome watch.next group.core.pred) k.begun);
  }

  -- so a command keeps it
  pub core_step : (c : Command) → P (applied group c).0.core
  core_step = machine_step group (λ c x. P x.0.core) core_walk

-- ---- an invariant that reads few parts

-- What an invariant needs that reads the name, the first leader and the lock alone.
pub record LockParts (start : Core) (Q : Draw → ℕ → Lock → Type 0) : Type 0 where
  pub begun : Q start.id start.first start.lock
  pub begins : (tx : Draw) (body : Body) (order : ℕ) → start.lock ≡ Free → Q start.id start.first (Coordinating tx body order None)
  pub hears : (tx : Draw) (order : ℕ) (heard : Heard) → start.lock ≡ Coordinating tx By.Merge order None → Q start.id start.first (Coordinating tx By.Merge order (Some heard))
  pub promises : (tx : Draw) (offer : Offer) → start.lock ≡ Free → Q start.id start.first (Promised tx offer)
  pub watches : (tx : Draw) (watch : Watch) → start.lock ≡ Free → Q start.id start.first (Watching tx watch)
  pub frees : Q start.id start.first Free

-- the other parts keep it
pub lock_parts : (start : Core) (Q : Draw → ℕ → Lock → Type 0) → LockParts start Q → CoreParts start (λ core. Q core.id core.first core.lock × Q core.id core.first Free)
lock_parts start Q k = record {
  begun = (k.begun, k.frees);
  arcs = λ core arc p. p;
  succs = λ core link p. p;
  preds = λ core link p. p;
  children = λ core child p. p;
  joins = λ node free. (k.begun, k.frees);
  leaves = λ node free. (k.begun, k.frees);
  stay = λ core p. p;
  unite = λ core others p. p;
  hands = λ core node p. p;
  begins = λ tx body order free. (k.begins tx body order free, k.frees);
  hears = λ tx order heard lock. (k.hears tx order heard lock, k.frees);
  promises = λ tx offer free. (k.promises tx offer free, k.frees);
  watches = λ tx watch free. (k.watches tx watch free, k.frees);
  frees = λ core p. (p.1, p.1);
  decides = λ core tx outcome p. p;
  votes = λ core tx vote p. p;
  ends_votes = λ core tx p. p;
  goes = λ core into p. p;
}

-- so a command keeps it
pub lock_step : (group : Group) (Q : Draw → ℕ → Lock → Type 0) → LockParts group.core Q → (c : Command) → Q (applied group c).0.core.id (applied group c).0.core.first (applied group c).0.core.lock
lock_step group Q k c = (core_step group (λ core. Q core.id core.first core.lock × Q core.id core.first Free) (lock_parts group.core Q k) c).0

-- what is said of the name and the first leader alone stays
pub name_step : (group : Group) (Q : Draw → ℕ → Type 0) → Q group.core.id group.core.first → (c : Command) → Q (applied group c).0.core.id (applied group c).0.core.first
name_step group Q q =
    lock_step group (λ id first lock. Q id first) (record { begun = q; begins = λ tx body order free. q; hears = λ tx order heard lock. q; promises = λ tx offer free. q; watches = λ tx watch free. q; frees = q })
