-- The group machine names nothing new: what stands in a group after a command, and in its effect, stood in the group before, or in the command.
use Rattle.std.proofs.Common.{ℕ, ◌&&◌, ◌||◌, not, nat_le, nat_lt, eqb, List, [], ◌∷◌, length, map, Option, Some, None, inl, inr, sym, subst}
use Rattle.sc_base.specs.Definitions.{Each, holds, end_of, same_draw, is_member, united}
use Rattle.sc_node_table.specs.Values.{Draw, Body, Offer, Watch, Command, Join, Leave, Split, Begin, Prepared, RecordVote, GiveUp, Finish, Watched, RecordWatch, Base, Core, Lock, Free, Coordinating, Promised, Watching, Effect, Link, Route, OrderRefusal, Frozen, No, Outcome, Past}
use Rattle.sc_words.specs.commands.CommandDefinitions.{is_alone}
use Rattle.sc_words.specs.declared.commands.bodies.Body.TheVariants as At
use Rattle.sc_words.specs.declared.commands.effects.Effect.TheVariants as Was
use Rattle.sc_words.specs.declared.commands.votes.Outcome.TheVariants as Is
use Rattle.sc_words.specs.declared.commands.votes.Past.TheVariants as Cast
use Rattle.sc_words.proofs.PaxosProofs.PaxosLemmas.{Each-append}
use Rattle.sc_group_table.specs.machine.MachineDefinitions.{gone_group, gained_group, lost_group, welcomed_group, closing_group, merged_group, giving_group, taking_group, migrated_group, ordered_child, released_child, answered_child, watched_child, child_by, Group, applied, locked_in, limit_refused, body_refused, refused_free, refused_in, refusal_of, with_node, without_node, splits_at_once, left_link, right_link, left_group, child_of, has_named, can_split, merged_core, merged_link, begun_group, decided, has_voted, size_no, body_no, offer_no, watch_no, no_of, vote_of, watch_vote_of, past_of, bound_by, pred_after, watcher_after, closed, party_freed}
use Rattle.sc_law_walks.proofs.WalkLemmas.{either_way, Names, ChangesNothing, voting_group, MachineWalk, machine_step}
use Rattle.sc_law_entries.specs.names.NameDefinitions.{Opt, BodyNames, WatchNames, NoNames, PastNames, OutcomeNames, LockNames, CoreNames, CommandNames, RefusalNames, EffectNames}

-- of each of a list that is mapped
pub Each-map : {X Y : Type 0} (P : X → Type 0) (Q : Y → Type 0) (f : X → Y) → ((x : X) → P x → Q (f x)) → (xs : List X) → Each P xs → Each Q (map f xs)
Each-map P Q f keep [] e = tt
Each-map P Q f keep (x ∷ xs) e = (keep x e.0, Each-map P Q f keep xs e.1)

module _ (K : Draw → Type 0) where
  -- a group and an effect
  pub record StepNames (p : Group × Effect) : Type 0 where
    pub core : CoreNames K p.0.core
    pub effect : EffectNames K p.1

  abbrev NoOf : Option No → Type 0
  NoOf o = Opt (NoNames K) o

  abbrev RefusedOf : Option OrderRefusal → Type 0
  RefusedOf o = Opt (RefusalNames K) o

  abbrev TxOf : Option Draw → Type 0
  TxOf o = Opt K o

  abbrev GoneOf : Option Route → Type 0
  GoneOf o = Opt (λ (into : Route). K into.group) o

  -- ---- orders

  locked_names : (lock : Lock) → LockNames K lock → TxOf (locked_in lock)
  locked_names Free l = tt
  locked_names (Coordinating tx body order heard) l = l.0
  locked_names (Promised tx offer) l = l.0
  locked_names (Watching tx watch) l = l.0

  limit_names : (core : Core) → RefusedOf (limit_refused core)
  limit_names core = either_way RefusedOf (nat_le 256 core.begun) _ _ tt tt

  body_refusal : (body : Body) (core : Core) → RefusedOf (body_refused body core)
  body_refusal At.Merge core = limit_names core
  body_refusal (At.Repart at) core = either_way RefusedOf (eqb at core.arc.lo || eqb at (end_of core.arc)) _ _ tt (limit_names core)
  body_refusal (At.Migrate node) core = either_way RefusedOf (not (is_member core.members node)) _ _ tt (either_way RefusedOf (eqb (length core.members) 1) _ _ tt (limit_names core))
  body_refusal (At.Split at child) core = limit_names core

  free_refusal : (core : Core) (command : Command) → RefusedOf (refused_free core command)
  free_refusal core (Join node order) = either_way RefusedOf (eqb (length core.members) 9 && not (is_member core.members node)) _ _ tt (either_way RefusedOf (is_member core.members node) _ _ tt tt)
  free_refusal core (Leave node order) = either_way RefusedOf (not (is_member core.members node)) _ _ tt (either_way RefusedOf (eqb (length core.members) 1) _ _ tt tt)
  free_refusal core (Split at child order) = either_way RefusedOf (eqb at core.arc.lo || not (holds core.arc at)) _ _ tt (either_way RefusedOf (eqb (length core.members) 1) _ _ tt (either_way RefusedOf (not (is_alone core) && nat_le 256 core.begun) _ _ tt tt))
  free_refusal core (Begin tx body order) = either_way RefusedOf (is_alone core) _ _ tt (body_refusal body core)
  free_refusal core _ = tt

  refusal_in : (o : Option Draw) (core : Core) (command : Command) → TxOf o → RefusedOf (refused_in o core command)
  refusal_in (Some tx) core command t = t
  refusal_in None core command t = free_refusal core command

  -- why an order is refused
  pub refusal_names : (core : Core) (command : Command) → CoreNames K core → RefusedOf (refusal_of core command)
  refusal_names core command k = refusal_in (locked_in core.lock) core command (locked_names core.lock k.lock)

  begun_names : (group : Group) (tx : Draw) (body : Body) (order : ℕ) → K tx → BodyNames K body → CoreNames K group.core → CoreNames K (begun_group group tx body order).core
  begun_names group tx body order t b k = record { id = k.id; succ = k.succ; pred = k.pred; lock = (t, b, tt); decided = k.decided; voted = k.voted; born = k.born; gone = k.gone }

  abbrev LinkOf : Link → Type 0
  LinkOf link = K link.group

  left_names : (group : Group) (at : ℕ) (child : Draw) → K child → CoreNames K group.core → CoreNames K (left_group group at child).core
  left_names group at child c k = record {
    id = k.id;
    succ = c;
    pred = either_way LinkOf (splits_at_once group.core) (right_link group.core child) group.core.pred c k.pred;
    lock = k.lock;
    decided = k.decided;
    voted = k.voted;
    born = Each-append K group.core.born (child ∷ []) k.born (c, tt);
    gone = k.gone;
  }

  -- the child of a group
  pub child_names : (group : Group) (at : ℕ) (child : Draw) → K child → CoreNames K group.core → CoreNames K (child_of group at child).core
  child_names group at child c k = record {
    id = c;
    succ = either_way LinkOf (splits_at_once group.core) (left_link group.core) group.core.succ k.id k.succ;
    pred = k.id;
    lock = tt;
    decided = tt;
    voted = tt;
    born = tt;
    gone = tt;
  }

  with_names : (group : Group) (node : ℕ) → CoreNames K group.core → CoreNames K (with_node group node).core
  with_names group node k = record { id = k.id; succ = k.succ; pred = k.pred; lock = k.lock; decided = k.decided; voted = k.voted; born = k.born; gone = k.gone }

  without_names : (group : Group) (node : ℕ) → CoreNames K group.core → CoreNames K (without_node group node).core
  without_names group node k = record { id = k.id; succ = k.succ; pred = k.pred; lock = k.lock; decided = k.decided; voted = k.voted; born = k.born; gone = k.gone }

  -- ---- the coordinator

  decided_names : (group : Group) (tx : Draw) (outcome : Outcome) → K tx → OutcomeNames K outcome → CoreNames K group.core → StepNames (decided group tx outcome)
  decided_names group tx outcome t o k = record {
    core = record {
      id = k.id;
      succ = k.succ;
      pred = k.pred;
      lock = tt;
      decided = Each-append (λ (d : Draw × Outcome). K d.0 × OutcomeNames K d.1) group.core.decided ((tx, outcome) ∷ []) k.decided ((t, o), tt);
      voted = k.voted;
      born = k.born;
      gone = k.gone;
    };
    effect = o;
  }

  merged_names : (core : Core) (frozen : Frozen) → K frozen.succ.group → CoreNames K core → CoreNames K (merged_core core frozen)
  merged_names core frozen f k = record {
    id = k.id;
    succ = either_way LinkOf (same_draw frozen.succ.group core.id) (merged_link core frozen) frozen.succ k.id f;
    pred = k.pred;
    lock = k.lock;
    decided = k.decided;
    voted = k.voted;
    born = k.born;
    gone = k.gone;
  }

  -- ---- the other parties

  size_names : (n : ℕ) → NoOf (size_no n)
  size_names n = either_way NoOf (nat_lt 9 n) _ _ tt tt

  body_no_names : (body : Body) (core : Core) (offer : Offer) → NoOf (body_no body core offer)
  body_no_names At.Merge core offer = size_names (length (united core.members offer.members))
  body_no_names (At.Repart at) core offer = either_way NoOf (holds offer.arc at) _ _ tt (either_way NoOf (eqb at core.arc.lo || not (holds core.arc at)) _ _ tt tt)
  body_no_names (At.Migrate node) core offer = size_names (length (united core.members (node ∷ [])))
  body_no_names (At.Split at child) core offer = tt

  no_names : (gone : Option Route) (tx : Option Draw) (why : Option No) → TxOf tx → NoOf why → NoOf (no_of gone tx why)
  no_names (Some into) tx why t w = tt
  no_names None (Some tx) why t w = t
  no_names None None why t w = w

  past_names : (why : Option No) → NoOf why → PastNames K (past_of why)
  past_names None w = tt
  past_names (Some why) w = w

  bound_names : (why : Option No) (bond lock : Lock) → LockNames K bond → LockNames K lock → LockNames K (bound_by why bond lock)
  bound_names None bond lock b l = b
  bound_names (Some why) bond lock b l = l

  voting_names : (why : Option No) (bond : Lock) (group : Group) (tx : Draw) → NoOf why → LockNames K bond → K tx → CoreNames K group.core → StepNames (voting_group group tx why bond, Was.Voted (past_of why))
  voting_names why bond group tx w b t k = record {
    core = record {
      id = k.id;
      succ = k.succ;
      pred = k.pred;
      lock = bound_names why bond group.core.lock b k.lock;
      decided = k.decided;
      voted = Each-append (λ (v : Draw × Past). K v.0 × PastNames K v.1) group.core.voted ((tx, past_of why) ∷ []) k.voted ((t, past_names why w), tt);
      born = k.born;
      gone = k.gone;
    };
    effect = past_names why w;
  }

  pred_names : (outcome : Outcome) (next pred : Link) → K next.group → K pred.group → K (pred_after outcome next pred).group
  pred_names Is.Abort next pred n p = p
  pred_names _ next pred n p = n

  abbrev Votes : List (Draw × Past) → Type 0
  Votes vs = Each (λ (v : Draw × Past). K v.0 × PastNames K v.1) vs

  closed_names : (tx : Draw) (vote : Draw × Past) → K vote.0 × PastNames K vote.1 → K (closed tx vote).0 × PastNames K (closed tx vote).1
  closed_names tx vote v = either_way (λ (w : Draw × Past). K w.0 × PastNames K w.1) (same_draw vote.0 tx) (vote.0, Cast.Ended) vote (v.0, tt) v

  freed_names : (group : Group) (tx : Draw) → K tx → CoreNames K group.core → CoreNames K (party_freed group tx).core
  freed_names group tx t k = record {
    id = k.id;
    succ = k.succ;
    pred = k.pred;
    lock = tt;
    decided = k.decided;
    voted = either_way Votes (has_voted group.core tx) _ _
        (Each-map (λ (v : Draw × Past). K v.0 × PastNames K v.1) (λ (v : Draw × Past). K v.0 × PastNames K v.1) (closed tx) (closed_names tx) group.core.voted k.voted)
        (Each-append (λ (v : Draw × Past). K v.0 × PastNames K v.1) group.core.voted ((tx, Cast.Ended) ∷ []) k.voted ((t, tt), tt));
    born = k.born;
    gone = k.gone;
  }

  watcher_names : (outcome : Outcome) (group : Group) (watch : Watch) → WatchNames K watch → CoreNames K group.core → CoreNames K (watcher_after outcome group watch).core
  watcher_names outcome group watch w k =
      record { id = k.id; succ = k.succ; pred = pred_names outcome watch.next group.core.pred w.next k.pred; lock = k.lock; decided = k.decided; voted = k.voted; born = k.born; gone = k.gone }

  -- ---- one command

  -- the transaction that a command names
  named : (tx : Draw) (c : Command) → Names tx c → CommandNames K c → K tx
  named tx (Split at child order) e n = subst K e n
  named tx (Begin t body order) e n = subst K e n.0
  named tx (Prepared t offer) e n = subst K e n.0
  named tx (RecordVote t vote by) e n = subst K e n.0
  named tx (GiveUp t) e n = subst K e n
  named tx (Finish t outcome) e n = subst K e n.0
  named tx (Watched t watch) e n = subst K e n.0
  named tx (RecordWatch t vote by) e n = subst K e n.0
  named tx _ e n = absurd e

  -- what is said where nothing changes
  said_names : (group : Group) → CoreNames K group.core → (c : Command) (effect : Effect) → ChangesNothing group c effect → CommandNames K c → EffectNames K effect
  said_names group k c (Was.NotMine arc succ) from n = subst (λ (link : Link). K link.group) from.1 k.succ
  said_names group k c (Was.Gone into) from n = subst GoneOf from k.gone
  said_names group k c (Was.NoEffect tx) (inl e) n = subst TxOf e (locked_names group.core.lock k.lock)
  said_names group k c (Was.NoEffect tx) (inr names) n = named tx c names n
  said_names group k c (Was.Refused why) (inl e) n = subst (RefusalNames K) (sym e) tt
  said_names group k c (Was.Refused why) (inr e) n = subst RefusedOf e (refusal_names group.core c k)
  said_names group k c (Was.Voted vote) from n = absurd from
  said_names group k c (Was.Decided outcome) from n = absurd from
  said_names group k c _ from n = tt

  -- what may come of a command
  machine_names : (group : Group) → CoreNames K group.core → MachineWalk group (λ c x. CommandNames K c → StepNames x)
  machine_names group k = record {
    same = λ c effect from n. record { core = k; effect = said_names group k c effect from n };
    serves = λ client seq op n. record { core = k; effect = tt };
    joins = λ node order a n. record { core = with_names group node k; effect = tt };
    leaves = λ node order a n. record { core = without_names group node k; effect = tt };
    splits = λ at child order a new alone n. record { core = left_names group at child n k; effect = tt };
    begins_split = λ at child order a new other n. record { core = begun_names group child (At.Split at child) order n n k; effect = tt };
    begins = λ tx body order a new n. record { core = begun_names group tx body order n.0 n.1 k; effect = tt };
    offers = λ tx offer new n. voting_names (vote_of group.core offer) (Promised tx offer) group tx
        (no_names group.core.gone (locked_in group.core.lock) (offer_no group.core offer) (locked_names group.core.lock k.lock) (either_way NoOf (eqb group.core.arc.lo (end_of offer.arc)) _ _ (body_no_names offer.body group.core offer) tt))
        n n.0 k;
    watches = λ tx watch new n. voting_names (watch_vote_of group.core watch) (Watching tx watch) group tx
        (no_names group.core.gone (locked_in group.core.lock) (watch_no group.core watch) (locked_names group.core.lock k.lock) (either_way NoOf (same_draw group.core.pred.group watch.old) _ _ tt tt))
        n n.0 k;
    hears = λ tx order lock frozen by other n. record { core = record { id = k.id; succ = k.succ; pred = k.pred; lock = (n.0, tt, n.1); decided = k.decided; voted = k.voted; born = k.born; gone = k.gone }; effect = tt };
    aborts = λ c tx ends body order got lock n. decided_names group tx Is.Abort (subst (LockNames K) lock k.lock).0 tt k;
    divides = λ tx at child order got lock by can n. decided_names (left_group group at child) tx Is.Divided n.0 tt (left_names group at child (subst (LockNames K) lock k.lock).1 k);
    merges = λ tx order heard lock by may n. decided_names (merged_group group heard.frozen) tx _ n.0 k.id (merged_names group.core heard.frozen (subst (LockNames K) lock k.lock).2 k);
    closes = λ tx order lock frozen by two may n. (
        let m = merged_names group.core frozen n.1 k in
        decided_names (closing_group group frozen) tx _ n.0 k.id (record { id = k.id; succ = m.succ; pred = k.id; lock = k.lock; decided = k.decided; voted = k.voted; born = k.born; gone = k.gone }));
    gives = λ tx at order lock frozen by here can n. decided_names (giving_group group at frozen) tx _ n.0 tt (record { id = k.id; succ = k.succ; pred = k.pred; lock = k.lock; decided = k.decided; voted = k.voted; born = k.born; gone = k.gone });
    takes = λ tx at order lock frozen by there can n. decided_names (taking_group group at frozen) tx _ n.0 tt (record { id = k.id; succ = k.succ; pred = k.pred; lock = k.lock; decided = k.decided; voted = k.voted; born = k.born; gone = k.gone });
    migrates = λ tx node order lock frozen by can n. decided_names (migrated_group group node frozen) tx _ n.0 tt (record { id = k.id; succ = k.succ; pred = k.pred; lock = k.lock; decided = k.decided; voted = k.voted; born = k.born; gone = k.gone });
    stays = λ tx offer lock n. record { core = freed_names group tx n.0 k; effect = tt };
    goes = λ tx offer lock into n. record { core = freed_names (gone_group group into) tx n.0 (record { id = k.id; succ = k.succ; pred = k.pred; lock = k.lock; decided = k.decided; voted = k.voted; born = k.born; gone = n.1 }); effect = n.1 };
    gains = λ tx offer lock at gift can n. record { core = freed_names (gained_group group offer at gift) tx n.0 (record { id = k.id; succ = k.succ; pred = k.pred; lock = k.lock; decided = k.decided; voted = k.voted; born = k.born; gone = k.gone }); effect = tt };
    loses = λ tx offer lock at can n. record { core = freed_names (lost_group group at) tx n.0 (record { id = k.id; succ = k.succ; pred = k.pred; lock = k.lock; decided = k.decided; voted = k.voted; born = k.born; gone = k.gone }); effect = tt };
    welcomes = λ tx offer lock node few n. record { core = freed_names (welcomed_group group node) tx n.0 (record { id = k.id; succ = k.succ; pred = k.pred; lock = k.lock; decided = k.decided; voted = k.voted; born = k.born; gone = k.gone }); effect = tt };
    sees_end = λ tx watch lock outcome n. record { core = freed_names (watcher_after outcome group watch) tx n.0 (watcher_names outcome group watch (subst (LockNames K) lock k.lock).1 k); effect = n.1 };
  }

  -- a group after a command, and its effect
  pub applied_names : (group : Group) (command : Command) → CoreNames K group.core → CommandNames K command → StepNames (applied group command)
  applied_names group command k = machine_step group (λ c x. CommandNames K c → StepNames x) (machine_names group k) command

  -- ---- the child of a command

  abbrev ChildOf : Option Base → Type 0
  ChildOf o = Opt (λ (base : Base). CoreNames K base.core) o

  ordered_kid : (gone : Option Route) (why : Option OrderRefusal) (group : Group) (at : ℕ) (child : Draw) → K child → CoreNames K group.core → ChildOf (ordered_child gone why group at child)
  ordered_kid (Some into) why group at child c k = tt
  ordered_kid None (Some why) group at child c k = tt
  ordered_kid None None group at child c k = either_way ChildOf (is_alone group.core) _ _ (child_names group at child c k) tt

  released_kid : (body : Body) (group : Group) → BodyNames K body → CoreNames K group.core → ChildOf (released_child body group)
  released_kid At.Merge group b k = tt
  released_kid (At.Repart at) group b k = tt
  released_kid (At.Migrate node) group b k = tt
  released_kid (At.Split at child) group b k = either_way ChildOf (can_split group.core at) _ _ (child_names group at child b k) tt

  answered_kid : (vote : Past) (body : Body) (group : Group) → BodyNames K body → CoreNames K group.core → ChildOf (answered_child vote body group)
  answered_kid Cast.Yes body group b k = released_kid body group b k
  answered_kid (Cast.No why) body group b k = tt
  answered_kid Cast.Ended body group b k = tt

  watched_kid : (lock : Lock) (group : Group) (tx : Draw) (vote : Past) → LockNames K lock → CoreNames K group.core → ChildOf (watched_child lock group tx vote)
  watched_kid Free group tx vote l k = tt
  watched_kid (Promised locked offer) group tx vote l k = tt
  watched_kid (Watching locked watch) group tx vote l k = tt
  watched_kid (Coordinating locked body order heard) group tx vote l k = either_way ChildOf (same_draw locked tx) _ _ (answered_kid vote body group l.1 k) tt

  -- the birth record of the child that a command makes
  pub child_by_names : (group : Group) (command : Command) → CoreNames K group.core → CommandNames K command → ChildOf (child_by group command)
  child_by_names group (Split at child order) k c = either_way ChildOf (has_named group.core child) _ _ tt (ordered_kid group.core.gone (refusal_of group.core (Split at child order)) group at child c k)
  child_by_names group (RecordWatch tx vote by) k c = watched_kid group.core.lock group tx vote k.lock k
  child_by_names group _ k c = tt
