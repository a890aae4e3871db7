-- What the entries of an order make of a group: by one that begins a transaction it asks its successor, by one that hears it asks the participant's, and by a Yes it is bound as it was.
use Rattle.std.proofs.Common.{◌≡◌, ℕ, Bool, true, false, Option, Some, None, refl, sym, ◌∙◌, ap, subst}
use Rattle.sc_node_table.specs.Values.{Draw, Body, Offer, Watch, Command, Split, Begin, RecordVote, GiveUp, RecordWatch, Core, Free, Coordinating, Promised, Watching, Effect, OrderRefusal, Heard, No}
use Rattle.sc_words.specs.declared.commands.bodies.Body.TheVariants as At
use Rattle.sc_group_table.specs.machine.MachineDefinitions.{Group, applied, begin_refused, refusal_of, refused_in, split_refused, locked_in, begun_group, decided_group, heard_group, vote_of, watch_vote_of}
use Rattle.sc_law_groups.proofs.WholeProofs.WholeLemmas.{EndsIt, comes, voting_group}
use Rattle.sc_live_steps.specs.orders.OrderDefinitions.{bond_in, bond_of, turn_of, work_by, Bond, Unbound, Asking, Bound, Turn, First, Lone, Next, Opens, Answers, Records}
use Rattle.sc_live_answers.specs.AnswerDefinitions.{BeginsSo}

-- why a transaction of this body is refused, if it is
abbrev pub opening_refused : Core → Body → Option OrderRefusal
opening_refused core At.Merge = begin_refused core At.Merge
opening_refused core (At.Repart at) = begin_refused core (At.Repart at)
opening_refused core (At.Migrate node) = begin_refused core (At.Migrate node)
opening_refused core (At.Split at child) = split_refused core at

-- a group has begun a transaction, which nothing refused, and asks its successor
pub record IsOpened (group : Group) (tx asked : Draw) (turn : Turn) (made : Group) : Type 0 where
  pub body : Body
  pub order : ℕ
  pub fact : made ≡ begun_group group tx body order
  pub may : opening_refused group.core body ≡ None
  pub asked_is : asked ≡ group.core.succ.group
  pub turn_is : turn ≡ turn_of group.core body None

pub no_asking : (tx asked : Draw) (turn : Turn) → Unbound ≡ Asking tx asked turn → ⊥
no_asking tx asked turn e = cc

no_bound : (tx : Draw) → Unbound ≡ Bound tx → ⊥
no_bound tx e = cc

free_bond : (core : Core) → core.lock ≡ Free → bond_of core ≡ Unbound
free_bond core free = ap (λ l. bond_in l core) free

abbrev asks_of : Bond → Draw
asks_of (Asking tx asked turn) = asked
asks_of Unbound = record { node = 0; count = 0 }
asks_of (Bound tx) = tx

abbrev turn_in : Bond → Turn
turn_in (Asking tx asked turn) = turn
turn_in Unbound = First
turn_in (Bound tx) = First

-- a command that ends a transaction opens none, and answers none
ends_opens : (t tx : Draw) (c : Command) → EndsIt t c → work_by c ≡ Some (Opens tx) → ⊥
ends_opens t tx (RecordVote x vote by) e w = cc
ends_opens t tx (RecordWatch x vote by) e w = cc
ends_opens t tx (GiveUp x) e w = cc
ends_opens t tx _ e w = absurd e

ends_answers : (t tx coord : Draw) (watch : Bool) (by : ℕ) (c : Command) → EndsIt t c → work_by c ≡ Some (Answers tx coord watch by) → ⊥
ends_answers t tx coord watch by (RecordVote x vote n) e w = cc
ends_answers t tx coord watch by (RecordWatch x vote n) e w = cc
ends_answers t tx coord watch by (GiveUp x) e w = cc
ends_answers t tx coord watch by _ e w = absurd e

same_opens : (tx child : Draw) → Some (Opens child) ≡ Some (Opens tx) → child ≡ tx
same_opens tx child e = cc

module _ (group : Group) (free : group.core.lock ≡ Free) where
  refused_so : (c : Command) → refusal_of group.core c ≡ refused_in None group.core c
  refused_so c = ap (λ l. refused_in (locked_in l) group.core c) free

  module _ (tx tx2 asked : Draw) (turn : Turn) where
    begun_so : (body : Body) (order : ℕ) → opening_refused group.core body ≡ None → bond_of (begun_group group tx body order).core ≡ Asking tx2 asked turn → IsOpened group tx asked turn (begun_group group tx body order)
    begun_so At.Merge order may e = record { body = At.Merge; order = order; fact = refl; may = may; asked_is = sym (ap asks_of e); turn_is = sym (ap turn_in e) }
    begun_so (At.Repart at) order may e = record { body = At.Repart at; order = order; fact = refl; may = may; asked_is = sym (ap asks_of e); turn_is = sym (ap turn_in e) }
    begun_so (At.Migrate node) order may e = record { body = At.Migrate node; order = order; fact = refl; may = may; asked_is = sym (ap asks_of e); turn_is = sym (ap turn_in e) }
    begun_so (At.Split at child) order may e = record { body = At.Split at child; order = order; fact = refl; may = may; asked_is = sym (ap asks_of e); turn_is = sym (ap turn_in e) }

    begin_may : (t : Draw) (body : Body) (order : ℕ) → BeginsSo (Begin t body order) → refusal_of group.core (Begin t body order) ≡ None → opening_refused group.core body ≡ None
    begin_may t At.Merge order so e = sym (refused_so (Begin t At.Merge order)) ∙ e
    begin_may t (At.Repart at) order so e = sym (refused_so (Begin t (At.Repart at) order)) ∙ e
    begin_may t (At.Migrate node) order so e = sym (refused_so (Begin t (At.Migrate node) order)) ∙ e
    begin_may t (At.Split at child) order so e = absurd so

    abbrev Opened : Command → Group × Effect → Type 0
    Opened c made = work_by c ≡ Some (Opens tx) → BeginsSo c → bond_of made.0.core ≡ Asking tx2 asked turn → IsOpened group tx asked turn made.0

    unopened : (core : Core) → core.lock ≡ Free → bond_of core ≡ Asking tx2 asked turn → ⊥
    unopened core free e = no_asking tx2 asked turn (sym (free_bond core free) ∙ e)

    -- a group that is free asks by an entry only if it begins a transaction
    pub opened_by : (c : Command) → Opened c (applied group c)
    opened_by c = comes group Opened (record {
      same = λ d effect dull w so e. absurd (unopened group.core free e);
      served = λ client seq op after effect fact w so e. absurd (unopened after.core (ap (λ (x : Core). x.lock) fact ∙ free) e);
      joined = λ node order w so e. cc;
      left = λ node order w so e. cc;
      parted = λ at child order r w so e. absurd (no_asking tx2 asked turn (sym (ap (λ l. bond_in l (Rattle.sc_group_table.specs.machine.Splits.left_core group.core at child)) free) ∙ e));
      split = λ at child order r w so e. (let child_is = same_opens tx child w in
          subst (λ t. bond_of (begun_group group t (At.Split at child) order).core ≡ Asking tx2 asked turn → IsOpened group tx asked turn (begun_group group t (At.Split at child) order)) (sym child_is)
          (begun_so (At.Split at child) order (sym (refused_so (Split at child order)) ∙ r)) e);
      begun = λ t body order r w so e. (let fact = same_opens tx t w in
          subst (λ x. bond_of (begun_group group x body order).core ≡ Asking tx2 asked turn → IsOpened group tx asked turn (begun_group group x body order)) (sym fact) (begun_so body order (begin_may t body order so r)) e);
      offered = λ t offer n w so e. cc;
      asked = λ t watch n w so e. cc;
      heard = λ t order got lock frozen by w so e. cc;
      ended = λ d t ends free2 after outcome r w so e. absurd (ends_opens t tx d ends w);
      finished = λ t binds after outcome r w so e. cc;
    }) c

  -- ---- a vote

  module _ (tx tx2 coord : Draw) (watch : Bool) (by : ℕ) where
    -- it is bound by a Yes on an offer, or on becoming a watcher, and as it was else
    pub data IsBoundBy (made : Group) : Type 0 where
      ByOffer : (offer : Offer) → watch ≡ false → offer.coord ≡ coord → vote_of group.core offer ≡ None → made ≡ voting_group group tx None (Promised tx offer) → IsBoundBy made
      ByWatch : (asks : Watch) → watch ≡ true → asks.coord ≡ coord → watch_vote_of group.core asks ≡ None → made ≡ voting_group group tx None (Watching tx asks) → IsBoundBy made

    abbrev Votes : Command → Group × Effect → Type 0
    Votes c made = work_by c ≡ Some (Answers tx coord watch by) → bond_of made.0.core ≡ Bound tx2 → IsBoundBy made.0

    unbound : (core : Core) → core.lock ≡ Free → bond_of core ≡ Bound tx2 → ⊥
    unbound core free e = no_bound tx2 (sym (free_bond core free) ∙ e)

    offered_so : (t : Draw) (offer : Offer) (why : Option No) → vote_of group.core offer ≡ why → Some (Answers t offer.coord false offer.by) ≡ Some (Answers tx coord watch by) → bond_of (voting_group group t why (Promised t offer)).core ≡ Bound tx2
        → IsBoundBy (voting_group group t why (Promised t offer))
    offered_so t offer (Some reason) v w e = absurd (unbound (voting_group group t (Some reason) (Promised t offer)).core free e)
    offered_so t offer None v w e =
        let fact : t ≡ tx = cc in
        let c : offer.coord ≡ coord = cc in
        let f : watch ≡ false = cc in
        ByOffer offer f c v (ap (λ x. voting_group group x None (Promised x offer)) fact)

    asked_so : (t : Draw) (asks : Watch) (why : Option No) → watch_vote_of group.core asks ≡ why → Some (Answers t asks.coord true asks.by) ≡ Some (Answers tx coord watch by) → bond_of (voting_group group t why (Watching t asks)).core ≡ Bound tx2
        → IsBoundBy (voting_group group t why (Watching t asks))
    asked_so t asks (Some reason) v w e = absurd (unbound (voting_group group t (Some reason) (Watching t asks)).core free e)
    asked_so t asks None v w e =
        let fact : t ≡ tx = cc in
        let c : asks.coord ≡ coord = cc in
        let f : watch ≡ true = cc in
        ByWatch asks f c v (ap (λ x. voting_group group x None (Watching x asks)) fact)

    pub voted_by : (c : Command) → Votes c (applied group c)
    voted_by c = comes group Votes (record {
      same = λ d effect dull w e. absurd (unbound group.core free e);
      served = λ client seq op after effect fact w e. absurd (unbound after.core (ap (λ (x : Core). x.lock) fact ∙ free) e);
      joined = λ node order w e. cc;
      left = λ node order w e. cc;
      parted = λ at child order r w e. cc;
      split = λ at child order r w e. cc;
      begun = λ t body order r w e. cc;
      offered = λ t offer n w e. offered_so t offer (vote_of group.core offer) refl w e;
      asked = λ t asks n w e. asked_so t asks (watch_vote_of group.core asks) refl w e;
      heard = λ t order got lock frozen n w e. cc;
      ended = λ d t ends free2 after outcome r w e. absurd (ends_answers t tx coord watch by d ends w);
      finished = λ t binds after outcome r w e. cc;
    }) c

-- ---- a vote that is heard

-- a group has heard its participant, and asks the one that stands behind it
pub record HasHeard (group : Group) (asked : Draw) (part : Draw) (made : Group) : Type 0 where
  pub tx : Draw
  pub order : ℕ
  pub got : Option Heard
  pub lock : group.core.lock ≡ Coordinating tx At.Merge order got
  pub heard : Heard
  pub fact : made ≡ heard_group group tx At.Merge order heard
  pub asked_is : asked ≡ heard.frozen.succ.group
  pub part_is : part ≡ group.core.succ.group

module _ (group : Group) (tx2 asked part : Draw) (host : ℕ) (unheard : bond_of group.core ≡ Asking tx2 asked (Next part host) → ⊥) where
  abbrev part_of : Turn → Draw
  part_of (Next p h) = p
  part_of First = part
  part_of Lone = part

  abbrev Hears : Command → Group × Effect → Type 0
  Hears c made = (by : ℕ) (tx : Draw) → work_by c ≡ Some (Records tx false true by) → bond_of made.0.core ≡ Asking tx2 asked (Next part host) → HasHeard group asked part made.0

  ends_free : (core : Core) → core.lock ≡ Free → bond_of core ≡ Asking tx2 asked (Next part host) → ⊥
  ends_free core free e = no_asking tx2 asked (Next part host) (sym (free_bond core free) ∙ e)

  pub heard_by : (c : Command) → Hears c (applied group c)
  heard_by c = comes group Hears (record {
    same = λ d effect dull by tx w e. absurd (unheard e);
    served = λ client seq op after effect fact by tx w e. absurd (unheard (sym (ap bond_of fact) ∙ e));
    joined = λ node order by tx w e. cc;
    left = λ node order by tx w e. cc;
    parted = λ at child order r by tx w e. cc;
    split = λ at child order r by tx w e. cc;
    begun = λ t body order r by tx w e. cc;
    offered = λ t offer n by tx w e. cc;
    asked = λ t asks n by tx w e. cc;
    heard = λ t order got lock frozen n by tx w e. record {
      tx = t;
      order = order;
      got = got;
      lock = lock;
      heard = record { frozen = frozen; by = n };
      fact = refl;
      asked_is = sym (ap asks_of e);
      part_is = sym (ap (λ b. part_of (turn_in b)) e);
    };
    ended = λ d t ends free2 after outcome r by tx w e. absurd (ends_free (decided_group after t outcome).core refl e);
    finished = λ t binds after outcome r by tx w e. cc;
  }) c

-- ---- a coordinator

-- by the first entry nobody is heard
not_first : (core : Core) (body : Body) (part : Draw) (host : ℕ) → Next part host ≡ turn_of core body None → ⊥
not_first core At.Merge part host e = cc
not_first core _ part host e = cc

-- a group that was free has begun a transaction, and then heard its participant
pub record HasBoth (group : Group) (tx asked part : Draw) (made : Group) : Type 0 where
  pub middle : Group
  pub first : Draw
  pub turn : Turn
  pub opened : IsOpened group tx first turn middle
  pub heard : HasHeard middle asked part made

pub both_by : (group : Group) → group.core.lock ≡ Free → (tx tx2 asked part : Draw) (host by : ℕ) (c d : Command) → work_by c ≡ Some (Opens tx) → BeginsSo c → work_by d ≡ Some (Records tx false true by)
    → bond_of (applied (applied group c).0 d).0.core ≡ Asking tx2 asked (Next part host) → HasBoth group tx asked part (applied (applied group c).0 d).0
both_by group free tx tx2 asked part host by c d w so v e =
    let middle : Group = (applied group c).0 in
    let none : bond_of middle.core ≡ Asking tx2 asked (Next part host) → ⊥ = λ b. (let o = opened_by group free tx tx2 asked (Next part host) c w so b in not_first group.core o.body part host o.turn_is) in
    let h = heard_by middle tx2 asked part host none d by tx v e in
    let turn = turn_of middle.core At.Merge h.got in
    let first = Rattle.sc_node_table.specs.Questions.asked_link middle.core At.Merge h.got in
    let bond : bond_of middle.core ≡ Asking h.tx first.group turn = ap (λ l. bond_in l middle.core) h.lock in
    record { middle = middle; first = first.group; turn = turn; opened = opened_by group free tx h.tx first.group turn c w so bond; heard = h }
