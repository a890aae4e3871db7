-- What the parties of an order are after some rows since a quiet journal, by what all logs record.
use Rattle.std.proofs.Common.{◌≡◌, ℕ, false, true≢false, List, [], ◌∷◌, ◌++◌, Option, Some, None, ◌⊎◌, inl, inr, sym, ◌∙◌, ap, subst}
use Rattle.sc_base.specs.Definitions.{Each}
use Rattle.sc_node_table.specs.Values.{Draw, Seat, Body, Offer, Command, Begin, RecordVote, Base, Coordinating, Free, Promised, Frozen, Heard, Flight}
use Rattle.sc_words.specs.declared.commands.bodies.Body.TheVariants as At
use Rattle.sc_words.specs.declared.commands.votes.Vote.TheVariants as Vows
use Rattle.sc_group_table.specs.machine.MachineDefinitions.{Group, frozen_of}
use Rattle.sc_node_table.specs.NodeDefinitions.{ReplicaState}
use Rattle.sc_words.proofs.PaxosProofs.PaxosLemmas.{Each-weaker}
use Rattle.sc_scenario.specs.declared.scenario.scenarios.Scenario.{Scenario}
use Rattle.sc_meaning.specs.sound.SoundDefinitions.{Player, as_nodes, births}
use Rattle.sc_live_steps.specs.calm.CalmDefinitions.{StandsQuiet, Rows}
use Rattle.sc_live_journals.specs.logs.LogDefinitions.{IsGroupOf}
use Rattle.sc_live_journals.proofs.LogsProofs.GroupLogLemmas.{views_are_replicas}
use Rattle.sc_live_steps.specs.orders.OrderDefinitions.{bond_of, Asking, Bound, First, Here, Lone, Next, Scene, Turn, Deal, heard, heard_lead}
use Rattle.sc_live_journals.specs.rows.RowDefinitions.{view_at}
use Rattle.sc_live_journals.specs.scenes.SceneDefinitions.{IsThere, scene_at}
use Rattle.sc_live_plain.specs.PlainDefinitions.{replicas_after}
use Rattle.sc_live_answers.specs.AnswerDefinitions.{BeginsSo, Doer, FlightsBeginSo, HasDone, Promising, doer, heard_doer, opened, IsCalmJournal, RestsAt, IsAllowedBy, LockIsRecorded, ReplicasAreRecorded, AreSeen}
use Rattle.sc_live_answers.proofs.VotesProofs.OpenedTransactions.{ByOffer, ByWatch, HasBoth, IsBoundBy, IsOpened}
use Rattle.sc_live_answers.proofs.WorkProofs.Parties.{Coordinates, coordinates, lead_bond, promised}
use Rattle.sc_live_answers.proofs.QuietProofs.QuietLeaders.{leads_it, link_stands}

-- ---- commands

pub shared_begins : (scenario : Scenario) (journal : Rows) (name : Draw) (c : Command) → IsAllowedBy scenario journal name c → BeginsSo c
shared_begins scenario journal name (Begin tx At.Merge order) a = tt
shared_begins scenario journal name (Begin tx (At.Repart at) order) a = tt
shared_begins scenario journal name (Begin tx (At.Migrate node) order) a = tt
shared_begins scenario journal name (Begin tx (At.Split at child) order) a = absurd a.1
shared_begins scenario journal name _ a = tt

-- a participant votes once
pub one_vote : (scenario : Scenario) (journal : Rows) (tx one other : Draw) (frozen again : Frozen) (by node : ℕ) → IsAllowedBy scenario journal one (RecordVote tx (Vows.Yes frozen) by) → IsAllowedBy scenario journal other (RecordVote tx (Vows.Yes again) node) → frozen ≡ again
one_vote scenario journal tx one other frozen again by node a b =
    let same : Some a.0 ≡ Some b.0 = sym a.1 ∙ b.1 in
    let story : a.0 ≡ b.0 = cc in
    let vote : Some (Vows.Yes frozen) ≡ Some (Vows.Yes again) = sym a.2 ∙ (ap (λ (s : _). Rattle.sc_law_entries.specs.ring.Stories.Story.vote s) story ∙ b.2) in
    cc

-- a participant is promised, and has what it had
abbrev pub IsPromisedAs : Group → Draw → Group → Type 0
IsPromisedAs group tx made = (offer : Offer) × (made.core.lock ≡ Promised tx offer) × (frozen_of made ≡ frozen_of group)

pub promised_as : (group : Group) (free : group.core.lock ≡ Free) (tx tx2 coord : Draw) (by : ℕ) (made : Group) → IsBoundBy group free tx tx2 coord false by made → IsPromisedAs group tx made
promised_as group free tx tx2 coord by made (ByOffer offer w c v fact) = (offer, ap (λ (x : Group). x.core.lock) fact, ap frozen_of fact)
promised_as group free tx tx2 coord by made (ByWatch asks w c v fact) = absurd (true≢false (sym w))

opened_one : (group : Group) (tx asked : Draw) (turn : Turn) (made : Group) → (turn ≡ First) ⊎ (turn ≡ Lone) → Coordinates group tx asked turn made → asked ≡ group.core.succ.group
opened_one group tx asked turn made (inl e) c = (let o : IsOpened group tx asked First made = subst (λ t. Coordinates group tx asked t made) e c in o.asked_is)
opened_one group tx asked turn made (inr e) c = (let o : IsOpened group tx asked Lone made = subst (λ t. Coordinates group tx asked t made) e c in o.asked_is)

same_tx : (t tx : Draw) (body body2 : Body) (order order2 : ℕ) (h h2 : Option Heard) → Coordinating tx body order h ≡ Coordinating t body2 order2 h2 → t ≡ tx
same_tx t tx body body2 order order2 h h2 e = cc

-- ---- after some rows

module _ (tells : ReplicasAreRecorded) (words : ℕ → ℕ → ℕ × ℕ) (scenario : Scenario) (first : Base) (journal quiet xs more : Rows) (fact : journal ≡ xs ++ more) (calm : IsCalmJournal words scenario journal) (rests : RestsAt words scenario first journal quiet) (seen : AreSeen scenario quiet) where
  abbrev all : List (Seat Player)
  all = births as_nodes scenario

  abbrev now : Scene
  now = scene_at all xs

  abbrev pub Has : Doer → Type 0
  Has it = HasDone (births as_nodes scenario) quiet xs it

  -- the group of a replica that was there in the quiet
  pub base_of : (name : Draw) → IsThere (births as_nodes scenario) quiet name → (base : Base) × IsGroupOf as_nodes words scenario journal base × (base.core.id ≡ name)
  base_of name there =
      let named = rests.known.named name there.0 there.1 (sym (seen name there.0) ∙ there.2) in
      (named.0, tells.groups words scenario journal quiet rests.prefix.more named.0 calm.valid calm.lawful rests.prefix.fact named.1, named.2)

  -- what its lock says, and what it has in flight
  pub locks_at : (name : Draw) (who : ℕ) (r : ReplicaState) → IsThere (births as_nodes scenario) quiet name → view_at (births as_nodes scenario) xs name who ≡ Some r → LockIsRecorded scenario journal name r.group
  locks_at name who r there has =
      let base = base_of name there in
      let at = views_are_replicas as_nodes words scenario journal base.0 base.1 xs more fact who r (ap (λ n. view_at all xs n who) base.2 ∙ has) in
      subst (λ n. LockIsRecorded scenario journal n r.group) base.2 (tells.locks words scenario journal base.0 base.1 xs at.0 at.1 r at.2)

  pub flights_at : (name : Draw) (who : ℕ) (r : ReplicaState) → IsThere (births as_nodes scenario) quiet name → view_at (births as_nodes scenario) xs name who ≡ Some r
      → Each (λ (flight : Flight Command). IsAllowedBy scenario journal name flight.value) r.leader.flights
  flights_at name who r there has =
      let base = base_of name there in
      let at = views_are_replicas as_nodes words scenario journal base.0 base.1 xs more fact who r (ap (λ n. view_at all xs n who) base.2 ∙ has) in
      subst (λ n. Each (λ (flight : Flight Command). IsAllowedBy scenario journal n flight.value) r.leader.flights) base.2 (tells.flights words scenario journal base.0 base.1 xs at.0 at.1 r at.2)

  pub begin_so : FlightsBeginSo (births as_nodes scenario) quiet xs
  begin_so name node r there has runs =
      Each-weaker (λ (flight : Flight Command). IsAllowedBy scenario journal name flight.value) (λ (flight : Flight Command). BeginsSo flight.value) (λ flight a. shared_begins scenario journal name flight.value a) r.leader.flights
      (flights_at name node r there has)

  -- ---- who has done something

  pub free_first : (it : Doer) (d : Has it) → d.first.group.core.lock ≡ Free
  free_first it d = (rests.fact.quiet.at_rest it.group it.host d.first (sym (seen it.group it.host) ∙ d.was)).free

  -- it led in the quiet
  pub led_first : (it : Doer) (d : Has it) → (stands : StandsQuiet (replicas_after scenario quiet) it.group) × (d.first ≡ stands.lead)
  led_first it d = leads_it scenario quiet _ _ rests.fact.quiet rests.known it.group it.host d.first (sym (seen it.group it.host) ∙ d.was) d.led

  -- the successor of the group stood in the quiet
  pub succ_stands : (it : Doer) (d : Has it) → StandsQuiet (replicas_after scenario quiet) d.first.group.core.succ.group
  succ_stands it d =
      let s = led_first it d in
      subst (λ (r : ReplicaState). StandsQuiet (replicas_after scenario quiet) r.group.core.succ.group) (sym s.1) (link_stands scenario quiet _ _ rests.fact.quiet rests.known it.group s.0)

  pub there_of : (it : Doer) → Has it → IsThere (births as_nodes scenario) quiet it.group
  there_of it d = (it.host, d.first, d.was)

  -- ---- a coordinator

  module _ (deal : Deal) (leads : (scene_at (births as_nodes scenario) xs).lead deal.coord ≡ Some deal.chief) (bond : ((scene_at (births as_nodes scenario) xs).at deal.coord).bond ≡ Asking deal.tx deal.asked deal.turn)
      (d : HasDone (births as_nodes scenario) quiet xs (doer deal.coord deal.chief (opened deal.tx deal.turn))) where
    pub asking : bond_of d.now.group.core ≡ Asking deal.tx deal.asked deal.turn
    asking = sym (lead_bond all xs deal.coord deal.chief d.now leads d.fact) ∙ bond

    pub coords : Coordinates d.first.group deal.tx deal.asked deal.turn d.now.group
    coords =
        subst (Coordinates d.first.group deal.tx deal.asked deal.turn) (sym d.group_is)
        (coordinates d.first.group (free_first (doer deal.coord deal.chief (opened deal.tx deal.turn)) d) deal.tx deal.tx deal.asked deal.turn d.entries d.did (ap (λ (x : Group). bond_of x.core) (sym d.group_is) ∙ asking))

    -- the successor is asked first
    first_asked : (deal.turn ≡ First) ⊎ (deal.turn ≡ Lone) → StandsQuiet (replicas_after scenario quiet) deal.asked
    first_asked turn =
        subst (StandsQuiet (replicas_after scenario quiet)) (sym (opened_one d.first.group deal.tx deal.asked deal.turn d.now.group turn coords)) (succ_stands (doer deal.coord deal.chief (opened deal.tx deal.turn)) d)

    -- the successor of the participant next
    module _ (part : Draw) (host : ℕ) (turn : deal.turn ≡ Next part host) (its_lead : (scene_at (births as_nodes scenario) xs).lead part ≡ Some host) (its_bond : ((scene_at (births as_nodes scenario) xs).at part).bond ≡ Bound deal.tx)
        (p : HasDone (births as_nodes scenario) quiet xs (doer part host (Promising deal.tx ∷ []))) where
      pub both : HasBoth d.first.group deal.tx deal.asked part d.now.group
      both = subst (λ t. Coordinates d.first.group deal.tx deal.asked t d.now.group) turn coords

      bound_is : bond_of p.now.group.core ≡ Bound deal.tx
      bound_is = sym (lead_bond all xs part host p.now its_lead p.fact) ∙ its_bond

      pub tx_is : both.heard.tx ≡ deal.tx
      tx_is = same_tx both.heard.tx deal.tx both.opened.body At.Merge both.opened.order both.heard.order None both.heard.got (sym (ap (λ (x : Group). x.core.lock) both.opened.fact) ∙ both.heard.lock)

      pub heard_vote : IsAllowedBy scenario journal deal.coord (RecordVote deal.tx (Vows.Yes both.heard.heard.frozen) 0)
      heard_vote =
          let lock = ap (λ (x : Group). x.core.lock) both.heard.fact in
          let l = locks_at deal.coord deal.chief d.now (there_of (doer deal.coord deal.chief (opened deal.tx deal.turn)) d) d.fact in
          subst (λ t. IsAllowedBy scenario journal deal.coord (RecordVote t (Vows.Yes both.heard.heard.frozen) 0)) tx_is (l.heard both.heard.tx At.Merge both.heard.order both.heard.heard lock).1

      -- what it promised is what it was
      promise : IsPromisedAs p.first.group deal.tx p.now.group
      promise =
          let made = promised p.first.group (free_first (doer part host (Promising deal.tx ∷ [])) p) deal.tx deal.tx p.entries p.did (ap (λ (x : Group). bond_of x.core) (sym p.group_is) ∙ bound_is) in
          subst (IsPromisedAs p.first.group deal.tx) (sym p.group_is) (promised_as p.first.group (free_first (doer part host (Promising deal.tx ∷ [])) p) deal.tx deal.tx made.0 made.1 _ made.2)

      its_vote : IsAllowedBy scenario journal part (RecordVote deal.tx (Vows.Yes (frozen_of p.now.group)) 0)
      its_vote = ((locks_at part host p.now (there_of (doer part host (Promising deal.tx ∷ [])) p) p.fact).promises deal.tx promise.0 promise.1).1

      pub frozen_is : both.heard.heard.frozen ≡ frozen_of p.first.group
      frozen_is = one_vote scenario journal deal.tx deal.coord part both.heard.heard.frozen (frozen_of p.now.group) 0 0 heard_vote its_vote ∙ promise.2

      -- the group that its link names is asked
      pub next_is : deal.asked ≡ p.first.group.core.succ.group
      next_is = both.heard.asked_is ∙ ap (λ (f : Frozen). f.succ.group) frozen_is

      next_asked : StandsQuiet (replicas_after scenario quiet) deal.asked
      next_asked = subst (StandsQuiet (replicas_after scenario quiet)) (sym next_is) (succ_stands (doer part host (Promising deal.tx ∷ [])) p)

    pub asked_stands : (turn : Turn) → deal.turn ≡ turn → Each (λ (x : Draw × Here). (scene_at (births as_nodes scenario) xs).at x.0 ≡ x.1) (heard deal.tx turn) → Each (λ (x : Draw × ℕ). (scene_at (births as_nodes scenario) xs).lead x.0 ≡ Some x.1) (heard_lead turn)
        → Each (HasDone (births as_nodes scenario) quiet xs) (heard_doer deal.tx turn) → StandsQuiet (replicas_after scenario quiet) deal.asked
    asked_stands First e parties its_leads p = first_asked (inl e)
    asked_stands Lone e parties its_leads p = first_asked (inr e)
    asked_stands (Next part host) e parties its_leads p = next_asked part host e its_leads.0 (ap (λ (h : Here). h.bond) parties.0) p.0
