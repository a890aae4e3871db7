-- A vote that a coordinator has in flight is true: what was voted is what the participant had, which fits.
use Rattle.std.proofs.Common.{◌≡◌, ℕ, ◌≤◌, Bool, true, false, true≢false, List, [], ◌∷◌, Some, None, inl, inr, refl, sym, ◌∙◌, ap, subst}
use Rattle.std.specs.Prelude.{length, not, ◌&&◌}
use Rattle.sc_base.specs.Definitions.{Among, Each, holds, is_member, united}
use Rattle.sc_node_table.specs.Values.{Draw, Seat, Body, Offer, Command, Prepared, RecordVote, RecordWatch, Base, Coordinating, Free, Promised, Frozen, Past, Flight}
use Rattle.sc_actor.proofs.Lemmas.{lawful-prefix}
use Rattle.sc_live_plain.specs.PlainDefinitions.{replicas_after}
use Rattle.sc_words.specs.commands.CommandDefinitions.{is_alone}
use Rattle.sc_words.specs.declared.commands.bodies.Body.TheVariants as At
use Rattle.sc_words.specs.declared.commands.votes.Vote.TheVariants as Vows
use Rattle.sc_group_table.specs.machine.MachineDefinitions.{Group, limit_refused, can_migrate, can_repart, frozen_of, has_key_of, may_merge, merged_link, taken, begun_group, heard_group, vote_of, state_after}
use Rattle.sc_node_table.specs.NodeDefinitions.{ReplicaState, before_in}
use Rattle.sc_words.proofs.PaxosProofs.PaxosLemmas.{Each-among}
use Rattle.sc_law_entries.specs.ring.RingDefinitions.{offer_with, unsigned, watch_with}
use Rattle.sc_scenario.specs.declared.scenario.scenarios.Scenario.{Scenario}
use Rattle.sc_meaning.specs.sound.SoundDefinitions.{world_at, Lawful, Player, as_nodes, births, schedule, system_of, IsOneMap}
use Rattle.sc_law_groups.specs.whole.WholeDefinitions.{ValidEntriesAreLogs, ValidJournalsAreSound}
use Rattle.sc_law_entries.specs.logs.LogDefinitions.{AreItsLogs}
use Rattle.sc_live_steps.specs.calm.CalmDefinitions.{StandsQuiet, Rows}
use Rattle.sc_live_answers.specs.AnswerDefinitions.{IsTrueEntry, Doer, HasDone, Promising, doer, heard_doer, opened, voted, LeadsSince, IsRecord, RecordsAreTrue, IsAllowedBy, LockIsRecorded, ReplicasAreRecorded, IsTrueSince}
use Rattle.sc_live_steps.specs.orders.OrderDefinitions.{bond_of, is_cast_yes, turn_of, work_by, Answers, Asking, Bound, Ends, First, Here, Lone, Next, Records, Turn, Work, is_watch, Deal, IsAt, IsOrder, Recorded, Stage, bound_by, heard, heard_lead}
use Rattle.sc_live_journals.specs.rows.RowDefinitions.{view_at}
use Rattle.sc_live_journals.specs.scenes.SceneDefinitions.{IsThere, scene_at}
use Rattle.sc_live_journals.proofs.ScenesProofs.SceneLemmas.{tell}
use Rattle.sc_live_answers.proofs.LinksProofs.FittingGroups.{Agrees, Meets, gives, merges, migrates, none_of, takes}
use Rattle.sc_live_answers.proofs.VotesProofs.VoteEffects.{lone_true, merge_true, migrate_true, next_true, repart_true}
use Rattle.sc_live_answers.proofs.RestProofs.LeaderWork.{IsWorkAt, OfOrder, OfOutcome, OfQuestion, OfVote, at_stage, stands_in, was_there}
use Rattle.sc_live_answers.proofs.VotesProofs.OpenedTransactions.{ByOffer, ByWatch, IsBoundBy, IsOpened, opening_refused}
use Rattle.sc_live_answers.proofs.WorkProofs.Parties.{Coordinates, lead_bond, promised}
use Rattle.sc_live_answers.proofs.QuietProofs.QuietRing.{meet_so, pred_is}
use Rattle.sc_live_answers.proofs.VotesProofs.TransactionTurns.{not_itself, lone_split, not_alone, has_offer, some_nat, same_asking, same_record, same_offer, first_turn, no_first, no_next, no_lone, same_next, same_body}
use Rattle.sc_live_answers.proofs.WorkProofs.PartiesSinceQuiet.{base_of, both, coords, flights_at, free_first, frozen_is, heard_vote, led_first, locks_at, one_vote, there_of, tx_is}
use Rattle.std.proofs.lemmas.Option.{same_Some}

-- ---- a coordinator

module _ (tells : ReplicasAreRecorded) (sound : ValidJournalsAreSound) (logs : ValidEntriesAreLogs) (words : ℕ → ℕ → ℕ × ℕ) (scenario : Scenario) (first : Base) (journal quiet rows : Rows) (name : Draw) (node : ℕ)
    (r : ReplicaState) (stage : Stage) (l : LeadsSince words scenario first journal quiet rows name node r stage) where
  abbrev all : List (Seat Player)
  all = births as_nodes scenario

  quiet_lawful : Lawful as_nodes words scenario quiet
  quiet_lawful = lawful-prefix (system_of as_nodes words scenario) (schedule scenario) quiet l.rests.prefix.more (subst (Lawful as_nodes words scenario) l.rests.prefix.fact l.calm.lawful)

  the_map : IsOneMap (world_at as_nodes scenario.groups quiet)
  the_map = (sound as_nodes refl words scenario l.calm.valid journal l.calm.lawful quiet l.rests.prefix.more l.rests.prefix.fact).whole

  the_logs : AreItsLogs as_nodes scenario.groups quiet
  the_logs = logs as_nodes refl words scenario l.calm.valid quiet quiet_lawful

  abbrev Quiet : Draw → Type 0
  Quiet who = StandsQuiet (replicas_after scenario quiet) who

  pub pred_at : (who : Draw) (q : StandsQuiet (replicas_after scenario quiet) who) (behind : Draw) → behind ≡ q.lead.group.core.succ.group → (s : StandsQuiet (replicas_after scenario quiet) behind) → s.lead.group.core.pred.group ≡ who
  pred_at who q behind e = subst (λ b. (s : Quiet b) → s.lead.group.core.pred.group ≡ who) (sym e) (λ s. pred_is words scenario first quiet the_map the_logs l.rests.known l.rests.fact who q s)

  meets_at : (who : Draw) (q : StandsQuiet (replicas_after scenario quiet) who) (behind : Draw) → behind ≡ q.lead.group.core.succ.group → (who ≡ q.lead.group.core.succ.group → ⊥) → (s : StandsQuiet (replicas_after scenario quiet) behind) → Meets q.lead.group s.lead.group
  meets_at who q behind e other = subst (λ b. (s : Quiet b) → Meets q.lead.group s.lead.group) (sym e) (λ s. meet_so words scenario first quiet the_map the_logs l.rests.known l.rests.fact who q s other)

  pub own_id : (it : Doer) (d : HasDone (births as_nodes scenario) quiet rows it) → d.first.group.core.id ≡ it.group
  own_id it d = (l.rests.fact.kept it.group it.host d.first (sym (l.seen it.group it.host) ∙ d.was)).name_is

  stood : (it : Doer) (d : HasDone (births as_nodes scenario) quiet rows it) → (s : StandsQuiet (replicas_after scenario quiet) it.group) × (d.first ≡ s.lead)
  stood it d = led_first tells words scenario first journal quiet rows l.prefix.more l.prefix.fact l.calm l.rests l.seen it d

  locks : (it : Doer) (d : HasDone (births as_nodes scenario) quiet rows it) → LockIsRecorded scenario journal it.group d.now.group
  locks it d =
      locks_at tells words scenario first journal quiet rows l.prefix.more l.prefix.fact l.calm l.rests l.seen it.group it.host d.now (there_of tells words scenario first journal quiet rows l.prefix.more l.prefix.fact l.calm l.rests l.seen it d) d.fact

  -- two that did something meet, as they were
  both_meet : (one two : Doer) (c : HasDone (births as_nodes scenario) quiet rows one) (d : HasDone (births as_nodes scenario) quiet rows two) → two.group ≡ c.first.group.core.succ.group → is_alone c.first.group.core ≡ false → Meets c.first.group d.first.group
  both_meet one two c d next alone =
      let q = stood one c in
      let s = stood two d in
      let succ = ap (λ (x : ReplicaState). x.group.core.succ.group) q.1 in
      subst (λ (x : ReplicaState). Meets x.group d.first.group) (sym q.1)
      (subst (λ (x : ReplicaState). Meets q.0.lead.group x.group) (sym s.1)
      (meets_at one.group q.0 two.group (next ∙ succ) (λ e. not_itself c.first.group.core one.group (own_id one c) alone (e ∙ sym succ)) s.0))

  module _ (deal : Deal) (agreed : Bool) (host : ℕ) (fact : stage ≡ Recorded deal agreed host) (own : deal.coord ≡ name) where
    stands : IsAt (Recorded deal agreed host) (scene_at (births as_nodes scenario) rows)
    stands = subst (λ x. IsAt x (scene_at all rows)) fact l.untouched.stands

    since : IsTrueSince scenario quiet rows (Recorded deal agreed host)
    since = subst (IsTrueSince scenario quiet rows) fact l.true_since

    abbrev c : HasDone (births as_nodes scenario) quiet rows (doer deal.coord deal.chief (opened deal.tx deal.turn))
    c = since.done.0

    abbrev v : HasDone (births as_nodes scenario) quiet rows (doer deal.asked host (voted deal.tx deal.turn))
    v = since.done.1.0

    chief_is : deal.chief ≡ node
    chief_is = some_nat deal.chief node (sym stands.leads.0 ∙ (ap (scene_at all rows).lead own ∙ (tell.led all rows name node r l.leads).0))

    now_is : c.now ≡ r
    now_is = same_Some c.now r (sym c.fact ∙ (ap (λ h. view_at all rows deal.coord h) chief_is ∙ (ap (λ n. view_at all rows n node) own ∙ l.leads.is_there)))

    coord_bond : ((scene_at (births as_nodes scenario) rows).at deal.coord).bond ≡ Asking deal.tx deal.asked deal.turn
    coord_bond = ap (λ (h : Here). h.bond) stands.parties.0.0

    bond_is : bond_of c.now.group.core ≡ Asking deal.tx deal.asked deal.turn
    bond_is = sym (lead_bond all rows deal.coord deal.chief c.now stands.leads.0 c.fact) ∙ coord_bond

    made : Coordinates c.first.group deal.tx deal.asked deal.turn c.now.group
    made = coords tells words scenario first journal quiet rows l.prefix.more l.prefix.fact l.calm l.rests l.seen deal stands.leads.0 coord_bond c

    -- whom it asks
    asks_whom : (asked : Draw) (turn : Turn) → bond_of c.now.group.core ≡ Asking deal.tx asked turn → (deal.asked ≡ asked) × (deal.turn ≡ turn)
    asks_whom asked turn e = same_asking deal.tx deal.tx deal.asked asked deal.turn turn (sym bond_is ∙ e)

    -- ---- a watcher's vote

    module _ (vote : Past) (by : ℕ) where
      lone_so : deal.turn ≡ Lone → IsTrueEntry r.me c.now.group (RecordWatch deal.tx vote by)
      lone_so e =
          let o : IsOpened c.first.group deal.tx deal.asked Lone c.now.group = subst (λ t. Coordinates c.first.group deal.tx deal.asked t c.now.group) e made in
          let b = lone_split c.first.group.core o.body o.turn_is in
          let lock : c.now.group.core.lock ≡ Coordinating deal.tx (At.Split b.0 b.1) o.order None = ap (λ (g : Group). g.core.lock) o.fact ∙ ap (λ x. Coordinating deal.tx x o.order None) b.2 in (
            λ asked turn bond. (
              λ lone. ap (λ k. (before_in k c.now.group.core).heard) lock,
              λ part at next same. no_next part at (sym e ∙ ((asks_whom asked turn bond).1 ∙ next)),
            ),
            lone_true c.now.group deal.tx b.1 b.0 o.order by None vote lock ((locks (doer deal.coord deal.chief (opened deal.tx deal.turn)) c).splits deal.tx b.0 b.1 o.order None lock),
          )

      next_so : (part : Draw) (at : ℕ) → deal.turn ≡ Next part at → IsTrueEntry r.me c.now.group (RecordWatch deal.tx vote by)
      next_so part at e =
          let p : HasDone all quiet rows (doer part at (Promising deal.tx ∷ [])) = (subst (λ t. Each (HasDone all quiet rows) (heard_doer deal.tx t)) e since.done.1.1).0 in
          let lead = (subst (λ t. Each (λ (x : Draw × ℕ). (scene_at all rows).lead x.0 ≡ Some x.1) (heard_lead t)) e stands.leads.1.1).0 in
          let bond = ap (λ (h : Here). h.bond) (subst (λ t. Each (λ (x : Draw × Here). (scene_at all rows).at x.0 ≡ x.1) (heard deal.tx t)) e stands.parties.0.1.1).0 in
          let b = both tells words scenario first journal quiet rows l.prefix.more l.prefix.fact l.calm l.rests l.seen deal stands.leads.0 coord_bond c part at e lead bond p in
          let tx = tx_is tells words scenario first journal quiet rows l.prefix.more l.prefix.fact l.calm l.rests l.seen deal stands.leads.0 coord_bond c part at e lead bond p in
          let frozen = frozen_is tells words scenario first journal quiet rows l.prefix.more l.prefix.fact l.calm l.rests l.seen deal stands.leads.0 coord_bond c part at e lead bond p in
          let its_vote = heard_vote tells words scenario first journal quiet rows l.prefix.more l.prefix.fact l.calm l.rests l.seen deal stands.leads.0 coord_bond c part at e lead bond p in
          let core = c.now.group.core in
          let f = b.heard.heard.frozen in
          let tells_it = locks (doer deal.coord deal.chief (opened deal.tx deal.turn)) c in
          let lock : core.lock ≡ Coordinating deal.tx At.Merge b.heard.order (Some b.heard.heard) = ap (λ (g : Group). g.core.lock) b.heard.fact ∙ ap (λ t. Coordinating t At.Merge b.heard.order (Some b.heard.heard)) tx in
          let offers = tells_it.offers deal.tx At.Merge b.heard.order (Some b.heard.heard) lock (offer_with core At.Merge) refl in
          let asks = tells_it.asks deal.tx At.Merge b.heard.order (Some b.heard.heard) lock (watch_with core f.succ.group core.succ.group (merged_link core f)) refl in
          let base = base_of tells words scenario first journal quiet rows l.prefix.more l.prefix.fact l.calm l.rests l.seen deal.coord (there_of tells words scenario first journal quiet rows l.prefix.more l.prefix.fact l.calm l.rests l.seen (doer deal.coord deal.chief (opened deal.tx deal.turn)) c) in
          let few : length (united core.members f.members) ≤ 9 = tells.fits words scenario journal base.0 base.1 deal.tx core.succ.group deal.coord (offer_with core At.Merge) f 0 refl offers its_vote in
          let again : c.now.group ≡ heard_group (begun_group c.first.group deal.tx b.opened.body b.opened.order) b.heard.tx At.Merge b.heard.order b.heard.heard = b.heard.fact ∙ ap (λ g. heard_group g b.heard.tx At.Merge b.heard.order b.heard.heard) b.opened.fact in
          let merge : b.opened.body ≡ At.Merge = same_body deal.tx b.heard.tx b.opened.body At.Merge b.opened.order b.heard.order None b.heard.got (sym (ap (λ (g : Group). g.core.lock) b.opened.fact) ∙ b.heard.lock) in
          let alone = (none_of (is_alone c.first.group.core) _ (limit_refused c.first.group.core) (subst (λ x. opening_refused c.first.group.core x ≡ None) merge b.opened.may)).0 in
          let succ : part ≡ c.first.group.core.succ.group = b.heard.part_is ∙ ap (λ (g : Group). g.core.succ.group) b.opened.fact in
          let meet = both_meet (doer deal.coord deal.chief (opened deal.tx deal.turn)) (doer part at (Promising deal.tx ∷ [])) c p succ alone in
          let fit : length (united c.first.group.core.members p.first.group.core.members) ≤ 9 =
          subst (λ (x : Frozen). length (united c.first.group.core.members x.members) ≤ 9) frozen (subst (λ (g : Group). length (united g.core.members f.members) ≤ 9) again few) in
          let may : may_merge c.now.group f ≡ true = subst (λ g. may_merge g f ≡ true) (sym again) (subst (λ x. may_merge c.first.group x ≡ true) (sym frozen) (merges c.first.group p.first.group meet fit)) in (
            λ asked turn bond. (
              λ lone. absurd (no_lone part at (sym e ∙ ((asks_whom asked turn bond).1 ∙ lone))),
              λ other who next same. tells.apart words scenario journal base.0 base.1 deal.tx core.succ.group f.succ.group (offer_with core At.Merge) (watch_with core f.succ.group core.succ.group (merged_link core f)) offers asks
                  (ap (λ (g : Group). g.core.succ.group) again ∙ (sym succ ∙ (same_next part other at who (sym e ∙ ((asks_whom asked turn bond).1 ∙ next)) ∙ (same ∙ (sym (asks_whom asked turn bond).0 ∙ b.heard.asked_is))))),
            ),
            next_true c.now.group deal.tx b.heard.order by b.heard.heard vote lock may,
          )

      watch_so : (turn : Turn) → deal.turn ≡ turn → is_watch turn ≡ true → IsTrueEntry r.me c.now.group (RecordWatch deal.tx vote by)
      watch_so First e w = absurd (true≢false (sym w))
      watch_so Lone e w = lone_so e
      watch_so (Next part at) e w = next_so part at e

    -- ---- a participant's Yes

    module _ (first_turn_is : deal.turn ≡ First) (agrees : agreed ≡ true) (frozen : Frozen) (by : ℕ) (allowed : IsAllowedBy scenario journal deal.coord (RecordVote deal.tx (Vows.Yes frozen) by)) where
      o : IsOpened c.first.group deal.tx deal.asked First c.now.group
      o = subst (λ t. Coordinates c.first.group deal.tx deal.asked t c.now.group) first_turn_is made

      p : HasDone (births as_nodes scenario) quiet rows (doer deal.asked host (Promising deal.tx ∷ []))
      p = subst (λ t. HasDone all quiet rows (doer deal.asked host (voted deal.tx t))) first_turn_is v

      p_bond : bond_of p.now.group.core ≡ Bound deal.tx
      p_bond = sym (lead_bond all rows deal.asked host p.now stands.leads.1.0 p.fact) ∙ (ap (λ (h : Here). h.bond) stands.parties.0.1.0 ∙ ap (λ b. bound_by b deal.tx) agrees)

      p_free : p.first.group.core.lock ≡ Free
      p_free = free_first tells words scenario first journal quiet rows l.prefix.more l.prefix.fact l.calm l.rests l.seen (doer deal.asked host (Promising deal.tx ∷ [])) p

      -- it has promised by an offer that it agreed to
      record HasPromised : Type 0 where
        pub offer : Offer
        pub lock : p.now.group.core.lock ≡ Promised deal.tx offer
        pub same : frozen_of p.now.group ≡ frozen_of p.first.group
        pub yes : vote_of p.first.group.core offer ≡ None

      promise : HasPromised
      promise =
          let it = promised p.first.group p_free deal.tx deal.tx p.entries p.did (ap (λ (x : Group). bond_of x.core) (sym p.group_is) ∙ p_bond) in
          promise_by it.0 it.1 it.2
        where
          promise_by : (coord : Draw) (n : ℕ) → IsBoundBy p.first.group p_free deal.tx deal.tx coord false n (state_after p.first.group p.entries) → HasPromised
          promise_by coord n (ByOffer offer w k agree fact) = record { offer = offer; lock = ap (λ (x : Group). x.core.lock) (p.group_is ∙ fact); same = ap frozen_of (p.group_is ∙ fact); yes = agree }
          promise_by coord n (ByWatch asks w k agree fact) = absurd (true≢false (sym w))

      its_promise : IsAllowedBy scenario journal deal.asked (Prepared deal.tx promise.offer) × IsAllowedBy scenario journal deal.asked (RecordVote deal.tx (Vows.Yes (frozen_of p.now.group)) 0)
      its_promise = (locks (doer deal.asked host (Promising deal.tx ∷ [])) p).promises deal.tx promise.offer promise.lock

      -- what it handed over is what it had
      handed : frozen ≡ frozen_of p.first.group
      handed = one_vote scenario journal deal.tx deal.coord deal.asked frozen (frozen_of p.now.group) by 0 allowed its_promise.1 ∙ promise.same

      alone : is_alone c.first.group.core ≡ false
      alone = not_alone c.first.group.core o.body o.turn_is o.may

      meet : Meets c.first.group p.first.group
      meet = both_meet (doer deal.coord deal.chief (opened deal.tx deal.turn)) (doer deal.asked host (Promising deal.tx ∷ [])) c p o.asked_is alone

      lock_is : c.now.group.core.lock ≡ Coordinating deal.tx o.body o.order None
      lock_is = ap (λ (g : Group). g.core.lock) o.fact

      offers : IsAllowedBy scenario journal c.now.group.core.succ.group (Prepared deal.tx (offer_with c.now.group.core o.body))
      offers = (locks (doer deal.coord deal.chief (opened deal.tx deal.turn)) c).offers deal.tx o.body o.order None lock_is (offer_with c.now.group.core o.body) (has_offer c.first.group.core c.now.group.core o.body o.turn_is)

      same_unsigned : unsigned promise.offer ≡ unsigned (offer_with c.now.group.core o.body)
      same_unsigned = same_offer scenario journal deal.tx deal.asked c.now.group.core.succ.group promise.offer (offer_with c.now.group.core o.body) its_promise.0 offers

      agreed_to : (body : Body) → o.body ≡ body → Agrees c.first.group p.first.group body
      agreed_to body e = record {
        may = subst (λ x. opening_refused c.first.group.core x ≡ None) e o.may;
        offer = promise.offer;
        yes = promise.yes;
        arc = ap (λ (x : Offer). x.arc) same_unsigned ∙ ap (λ (g : Group). g.core.arc) o.fact;
        body_is = ap (λ (x : Offer). x.body) same_unsigned ∙ e;
      }

      -- the one behind is another one
      not_asked : frozen.succ.group ≡ deal.asked → ⊥
      not_asked e =
          let q = stood (doer deal.coord deal.chief (opened deal.tx deal.turn)) c in
          let s = stood (doer deal.asked host (Promising deal.tx ∷ [])) p in
          let itself : deal.asked ≡ s.0.lead.group.core.succ.group = sym e ∙ (ap (λ (f : Frozen). f.succ.group) handed ∙ ap (λ (x : ReplicaState). x.group.core.succ.group) s.1) in
          let mine = pred_at deal.coord q.0 deal.asked (o.asked_is ∙ ap (λ (x : ReplicaState). x.group.core.succ.group) q.1) s.0 in
          let its = pred_at deal.asked s.0 deal.asked itself s.0 in
          not_itself c.first.group.core deal.coord (own_id (doer deal.coord deal.chief (opened deal.tx deal.turn)) c) alone (sym mine ∙ (its ∙ o.asked_is))

      lock_of : (body : Body) → o.body ≡ body → c.now.group.core.lock ≡ Coordinating deal.tx body o.order None
      lock_of body e = lock_is ∙ ap (λ b. Coordinating deal.tx b o.order None) e

      few : (e : o.body ≡ At.Merge) → length (united c.first.group.core.members p.first.group.core.members) ≤ 9
      few e =
          let base = base_of tells words scenario first journal quiet rows l.prefix.more l.prefix.fact l.calm l.rests l.seen deal.coord (there_of tells words scenario first journal quiet rows l.prefix.more l.prefix.fact l.calm l.rests l.seen (doer deal.coord deal.chief (opened deal.tx deal.turn)) c) in
          subst (λ (x : Frozen). length (united c.first.group.core.members x.members) ≤ 9) handed
          (subst (λ (g : Group). length (united g.core.members frozen.members) ≤ 9) o.fact
          (tells.fits words scenario journal base.0 base.1 deal.tx c.now.group.core.succ.group deal.coord (offer_with c.now.group.core o.body) frozen by e offers allowed))

      merge_so : (e : o.body ≡ At.Merge) → (c.now.group.core.gone ≡ None) × (is_member c.now.group.core.members r.me ≡ true) → IsTrueEntry r.me c.now.group (RecordVote deal.tx (Vows.Yes frozen) by)
      merge_so e stay =
          let may : may_merge c.now.group frozen ≡ true = subst (λ g. may_merge g frozen ≡ true) (sym o.fact) (subst (λ x. may_merge c.first.group x ≡ true) (sym handed) (merges c.first.group p.first.group meet (few e))) in
          elim (merge_true c.now.group deal.tx o.order by frozen r.me (lock_of At.Merge e) may stay.0 stay.1) [
            | inl d ↦ inl d
            | inr a ↦ inr (a.0, ((a.1.0, a.1.1), λ asked bond same. not_asked (same ∙ sym (asks_whom asked First bond).0)))
          ]

      repart_so : (at : ℕ) (e : o.body ≡ At.Repart at) → IsTrueEntry r.me c.now.group (RecordVote deal.tx (Vows.Yes frozen) by)
      repart_so at e = inl (repart_true c.now.group deal.tx o.order by frozen at (lock_of (At.Repart at) e)
          (subst (λ (g : Group). holds g.core.arc at ≡ true → can_repart g.core at frozen ≡ true) (sym o.fact) (λ held. subst (λ x. can_repart c.first.group.core at x ≡ true) (sym handed) (gives c.first.group p.first.group meet at (agreed_to (At.Repart at) e) held)))
          (subst (λ (g : Group). holds g.core.arc at ≡ false → (can_repart g.core at frozen && not (has_key_of g.pairs (taken at frozen).pairs)) ≡ true) (sym o.fact)
          (λ out. subst (λ x. (can_repart c.first.group.core at x && not (has_key_of c.first.group.pairs (taken at x).pairs)) ≡ true) (sym handed) (takes c.first.group p.first.group meet at (agreed_to (At.Repart at) e) out))))

      migrate_so : (node : ℕ) (e : o.body ≡ At.Migrate node) → IsTrueEntry r.me c.now.group (RecordVote deal.tx (Vows.Yes frozen) by)
      migrate_so node e = inl (migrate_true c.now.group deal.tx o.order by frozen node (lock_of (At.Migrate node) e)
          (subst (λ (g : Group). can_migrate g.core node frozen ≡ true) (sym o.fact) (subst (λ x. can_migrate c.first.group.core node x ≡ true) (sym handed) (migrates c.first.group p.first.group meet node (agreed_to (At.Migrate node) e)))))

      yes_so : (c.now.group.core.gone ≡ None) × (is_member c.now.group.core.members r.me ≡ true) → (body : Body) → o.body ≡ body → IsTrueEntry r.me c.now.group (RecordVote deal.tx (Vows.Yes frozen) by)
      yes_so stay At.Merge e = merge_so e stay
      yes_so stay (At.Repart at) e = repart_so at e
      yes_so stay (At.Migrate node) e = migrate_so node e
      yes_so stay (At.Split at child) e = absurd (no_first (o.turn_is ∙ ap (λ b. turn_of c.first.group.core b None) e))

  -- ---- by the command

  module _ (flight : Flight Command) (among : Among flight r.leader.flights) (tx : Draw) (watch says : Bool) (by : ℕ) (fact : work_by flight.value ≡ Some (Records tx watch says by)) where
    there : IsThere (births as_nodes scenario) quiet name
    there = was_there tells words scenario first journal quiet rows name node r stage l flight among (Records tx watch says by) fact

    stays : (r.group.core.gone ≡ None) × (is_member r.group.core.members r.me ≡ true)
    stays = stands_in tells words scenario first journal quiet rows name node r stage l there

    allowed_here : IsAllowedBy scenario journal name flight.value
    allowed_here =
        Each-among (λ (f : Flight Command). IsAllowedBy scenario journal name f.value) r.leader.flights flight
        (flights_at tells words scenario first journal quiet rows l.prefix.more l.prefix.fact l.calm l.rests l.seen name node r there l.leads.is_there) among

    -- it is the vote of the stage
    abbrev Voted_at : Type 0
    Voted_at = (deal : Deal) × (agreed : Bool) × (host : ℕ) × (stage ≡ Recorded deal agreed host) × (deal.coord ≡ name) × (deal.tx ≡ tx) × (is_watch deal.turn ≡ watch) × (agreed ≡ says)

    no_order : (work : Work) → IsOrder work → work ≡ Records tx watch says by → ⊥
    no_order work o e = subst IsOrder e o

    no_question : (t coord : Draw) (w : Bool) (n : ℕ) → Answers t coord w n ≡ Records tx watch says by → ⊥
    no_question t coord w n e = cc

    no_outcome : (t : Draw) → Ends t ≡ Records tx watch says by → ⊥
    no_outcome t e = cc

    voted_at : IsWorkAt stage name (Records tx watch says by) → Voted_at
    voted_at (OfVote deal agreed host e own k) =
        let same = same_record deal.tx tx (is_watch deal.turn) watch agreed says host by k in
        (deal, agreed, host, e, own, same.0, same.1.0, same.1.1)
    voted_at (OfOrder chief e) = absurd (no_order (Records tx watch says by) (subst (λ x. IsAt x (scene_at all rows)) e l.untouched.stands).sound refl)
    voted_at (OfQuestion deal host e own k) = absurd (no_question deal.tx deal.coord (is_watch deal.turn) deal.chief k)
    voted_at (OfOutcome t k ending) = absurd (no_outcome t k)

    it : Voted_at
    it = voted_at (at_stage tells words scenario first journal quiet rows name node r stage l flight among (Records tx watch says by) fact)

    watch_true : watch ≡ true → (vote : Past) → IsTrueEntry r.me r.group (RecordWatch tx vote by)
    watch_true w vote =
        subst (λ t. IsTrueEntry r.me r.group (RecordWatch t vote by)) it.5
        (subst (λ (x : ReplicaState). IsTrueEntry r.me x.group (RecordWatch it.0.tx vote by)) (now_is it.0 it.1 it.2 it.3 it.4) (watch_so it.0 it.1 it.2 it.3 it.4 vote by it.0.turn refl (it.6 ∙ w)))

    vote_true : watch ≡ false → says ≡ true → (frozen : Frozen) → IsAllowedBy scenario journal name (RecordVote tx (Vows.Yes frozen) by) → IsTrueEntry r.me r.group (RecordVote tx (Vows.Yes frozen) by)
    vote_true w y frozen allowed =
        let turn = first_turn it.0.turn (it.6 ∙ w) in
        let a = subst (λ n. IsAllowedBy scenario journal n (RecordVote it.0.tx (Vows.Yes frozen) by)) (sym it.4) (subst (λ t. IsAllowedBy scenario journal name (RecordVote t (Vows.Yes frozen) by)) (sym it.5) allowed) in
        let now = now_is it.0 it.1 it.2 it.3 it.4 in
        subst (λ t. IsTrueEntry r.me r.group (RecordVote t (Vows.Yes frozen) by)) it.5
        (subst (λ (x : ReplicaState). IsTrueEntry r.me x.group (RecordVote it.0.tx (Vows.Yes frozen) by)) now
        (yes_so it.0 it.1 it.2 it.3 it.4 turn (it.7 ∙ y) frozen by a (subst (λ (x : ReplicaState). (x.group.core.gone ≡ None) × (is_member x.group.core.members r.me ≡ true)) (sym now) stays) _ refl))

  module _ (flight : Flight Command) (among : Among flight r.leader.flights) where
    record_by : (command : Command) → flight.value ≡ command → IsRecord command → IsTrueEntry r.me r.group command
    record_by (RecordVote tx (Vows.No why) by) e k = tt
    record_by (RecordVote tx (Vows.Yes frozen) by) e k =
        vote_true flight among tx false true by (ap work_by e) refl refl frozen (subst (IsAllowedBy scenario journal name) e (allowed_here flight among tx false true by (ap work_by e)))
    record_by (RecordWatch tx vote by) e k = watch_true flight among tx true (is_cast_yes vote) by (ap work_by e) refl vote
    record_by _ e k = absurd k

    record_true : IsRecord flight.value → IsTrueEntry r.me r.group flight.value
    record_true k = record_by flight.value refl k

pub records_true : ReplicasAreRecorded → ValidJournalsAreSound → ValidEntriesAreLogs → RecordsAreTrue
records_true tells sound logs words scenario first journal quiet rows name node r stage l flight among k = record_true tells sound logs words scenario first journal quiet rows name node r stage l flight among k
