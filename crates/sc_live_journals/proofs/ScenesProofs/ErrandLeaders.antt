-- In each stage all errands but questions go to the nodes that lead.
use Rattle.std.proofs.Common.{◌≡◌, ℕ, Bool, true, List, [], ◌∷◌, ◌++◌, Option, Some, None, inl, inr, refl, sym, ◌∙◌, ap, subst}
use Rattle.std.specs.Option.{option_map}
use Rattle.sc_base.specs.Definitions.{Among}
use Rattle.sc_node_table.specs.Values.{Draw, OrderLine, Mail, Node, Seat, Event, Deliver}
use Rattle.sc_actor.specs.Definitions.{mails, numbers_of, row_of}
use Rattle.sc_live_orderly.proofs.OrderlyLemmas.{last_in_time}
use Rattle.sc_node_table.specs.NodeDefinitions.{NodeState, ReplicaState, Place, listed}
use Rattle.sc_meaning.specs.sound.SoundDefinitions.{Player, player_table}
use Rattle.sc_live_steps.proofs.OrderStepsProofs.PartyChanges.{no-errand}
use Rattle.sc_live_steps.specs.calm.CalmDefinitions.{players, Rows}
use Rattle.sc_live_steps.specs.orders.OrderDefinitions.{Turn, is_watch, Errand, Question, Elsewhere, Reply, Result, Here, Scene, Leg, Mailed, Filed, closing, Stage, Still, Ordered, Asks, SentOn, Weighs, Replied, Recorded, Closes, ClosesBoth, parties_of, IsAt, IsUnderWay, errand_by}
use Rattle.sc_live_steps.proofs.OrderStepsProofs.OrderStepLemmas.{tokens, tagged, found, among-right}
use Rattle.sc_live_journals.specs.rows.RowDefinitions.{view_at}
use Rattle.sc_live_journals.proofs.RowsProofs.RowLemmas.{view_was, none_some as no_some}
use Rattle.sc_live_journals.specs.scenes.SceneDefinitions.{Expects, leader_sought, AnswersReachLeaders, KeepsStage, IsBeside, Led, Unled, ComesBeside, ComesToNone, scene_at, is_running, errand_in, taken_errand, IsTaking, IsOfGroup}
use Rattle.sc_live_journals.proofs.ScenesProofs.OrderRows.{after, row_of_comes}
use Rattle.sc_live_journals.proofs.ScenesProofs.UntakenMail.{takes_one}
use Rattle.sc_live_journals.proofs.ScenesProofs.NewestLeaders.{lead_runs}
use Rattle.sc_live_journals.proofs.ScenesProofs.SceneReceivers.{misses}
use Rattle.sc_live_journals.proofs.ScenesProofs.SceneRows.{calm_is, rows_are}
use Rattle.sc_live_journals.proofs.ScenesProofs.SceneViews.{lead_is, no_lead}

-- ---- stages

abbrev mail_of : Here → List Errand
mail_of here = here.errands

module _ (now : Scene) (group : Draw) (errand : Errand) (to : ℕ) (sought : leader_sought errand ≡ Some to) where
  -- one under way for a leader is for who leads
  leader_for : (name : Draw) (node : ℕ) (one : Errand) → now.lead name ≡ Some node → leader_sought one ≡ Some node → ◌≡◌ {A = Draw × Errand} (name, one) (group, errand) → now.lead group ≡ Some to
  leader_for name node one leads goes fact =
      ap now.lead (sym (ap (λ (x : Draw × Errand). x.0) fact)) ∙ (leads ∙ (sym goes ∙ (ap (λ (x : Draw × Errand). leader_sought x.1) fact ∙ sought)))

  -- a question is for none
  no_question : (name : Draw) (one : Errand) → leader_sought one ≡ None → ◌≡◌ {A = Draw × Errand} (name, one) (group, errand) → ⊥
  no_question name one goes fact = (let bad : None ≡ Some to = sym goes ∙ (ap (λ (x : Draw × Errand). leader_sought x.1) fact ∙ sought) in cc)

  closes_for : (tx name : Draw) (host : ℕ) (leg : Leg) (more : List (Draw × Errand)) → now.lead name ≡ Some host → (Among (group, errand) more → now.lead group ≡ Some to)
      → Among (group, errand) (tagged name (closing tx leg host).errands ++ more) → now.lead group ≡ Some to
  closes_for tx name host Mailed more leads rest a = elim a [ inl fact ↦ leader_for name host (Result tx host) leads refl fact | inr b ↦ rest b ]
  closes_for tx name host Filed more leads rest a = rest a

  led_in : (stage : Stage) → IsAt stage now → Among (group, errand) (tokens mail_of (parties_of stage)) → now.lead group ≡ Some to
  led_in Still a among = absurd among
  led_in (Ordered name chief work) a among = absurd among
  led_in (Asks deal node) a among = elim among [
    | inl fact ↦ absurd (no_question deal.asked _ refl fact)
    | inr more ↦ absurd (no-errand deal.tx deal.turn (group, errand) more)
  ]
  led_in (SentOn deal) a among = elim among [
    | inl fact ↦ leader_for deal.coord deal.chief (Elsewhere deal.tx deal.chief) a.leads.0 refl fact
    | inr more ↦ absurd (no-errand deal.tx deal.turn (group, errand) more)
  ]
  led_in (Weighs deal host) a among = absurd (no-errand deal.tx deal.turn (group, errand) among)
  led_in (Replied deal agreed host) a among = elim among [
    | inl fact ↦ leader_for deal.coord deal.chief _ a.leads.0 refl fact
    | inr more ↦ absurd (no-errand deal.tx deal.turn (group, errand) more)
  ]
  led_in (Recorded deal agreed host) a among = absurd (no-errand deal.tx deal.turn (group, errand) among)
  led_in (Closes tx party) a among = closes_for tx party.group party.host party.leg [] a.leads.0 (λ more. absurd more) among
  led_in (ClosesBoth tx one two) a among =
      closes_for tx one.group one.host one.leg (tagged two.group (closing tx two.leg two.host).errands ++ []) a.leads.0
      (λ more. closes_for tx two.group two.host two.leg [] a.leads.1.0 (λ none. absurd none) more) among

leader_led : (now : Scene) (group : Draw) (errand : Errand) (to : ℕ) → IsUnderWay now → Among errand (now.at group).errands → leader_sought errand ≡ Some to → now.lead group ≡ Some to
leader_led now group errand to under among sought =
    led_in now group errand to sought under.0 under.1 (found mail_of now.at group errand among (parties_of under.0) under.1.parties refl)

-- ---- what its group waits for

module _ (now : Scene) (group : Draw) (errand : Errand) where
  waits_for : (name : Draw) (one : Errand) (here : Here) → now.at name ≡ here → Expects one here → ◌≡◌ {A = Draw × Errand} (name, one) (group, errand) → Expects errand (now.at group)
  waits_for name one here at fits fact = subst (λ (x : Draw × Errand). Expects x.1 (now.at x.0)) fact (subst (Expects one) (sym at) fits)

  vote_is : (turn : Turn) (vote : Bool) → Some (is_watch turn) ≡ Some vote → is_watch turn ≡ vote
  vote_is turn vote e = cc

  end_waits : (tx name : Draw) (host : ℕ) (leg : Leg) (more : List (Draw × Errand)) → now.at name ≡ closing tx leg host → (Among (group, errand) more → Expects errand (now.at group))
      → Among (group, errand) (tagged name (closing tx leg host).errands ++ more) → Expects errand (now.at group)
  end_waits tx name host Mailed more at rest a = elim a [ inl fact ↦ waits_for name (Result tx host) (closing tx Mailed host) at (record { bond_is = refl; work = refl }) fact | inr b ↦ rest b ]
  end_waits tx name host Filed more at rest a = rest a

  waits_in : (stage : Stage) → IsAt stage now → Among (group, errand) (tokens mail_of (parties_of stage)) → Expects errand (now.at group)
  waits_in Still a among = absurd among
  waits_in (Ordered name chief work) a among = absurd among
  waits_in (Asks deal node) a among = elim among [
    | inl fact ↦ waits_for deal.asked (Question deal.tx deal.coord (is_watch deal.turn) deal.chief node) _ a.parties.0.1.0 (record { bond_is = refl; work = refl }) fact
    | inr more ↦ absurd (no-errand deal.tx deal.turn (group, errand) more)
  ]
  waits_in (SentOn deal) a among = elim among [
    | inl fact ↦ waits_for deal.coord (Elsewhere deal.tx deal.chief) _ a.parties.0.0 (record { asked = deal.asked; turn = deal.turn; bond = refl; turn_is = λ vote e. absurd (no_some e); work = refl }) fact
    | inr more ↦ absurd (no-errand deal.tx deal.turn (group, errand) more)
  ]
  waits_in (Weighs deal host) a among = absurd (no-errand deal.tx deal.turn (group, errand) among)
  waits_in (Replied deal agreed host) a among = elim among [
    | inl fact ↦ waits_for deal.coord (Reply deal.tx (is_watch deal.turn) agreed host deal.chief) _ a.parties.0.0 (record { asked = deal.asked; turn = deal.turn; bond = refl; turn_is = vote_is deal.turn; work = refl }) fact
    | inr more ↦ absurd (no-errand deal.tx deal.turn (group, errand) more)
  ]
  waits_in (Recorded deal agreed host) a among = absurd (no-errand deal.tx deal.turn (group, errand) among)
  waits_in (Closes tx party) a among = end_waits tx party.group party.host party.leg [] a.parties.0.0 (λ more. absurd more) among
  waits_in (ClosesBoth tx one two) a among =
      end_waits tx one.group one.host one.leg (tagged two.group (closing tx two.leg two.host).errands ++ []) a.parties.0.0
      (λ more. end_waits tx two.group two.host two.leg [] a.parties.0.1.0 (λ none. absurd none) more) among

group_waits : (now : Scene) (group : Draw) (errand : Errand) → IsUnderWay now → Among errand (now.at group).errands → Expects errand (now.at group)
group_waits now group errand under among = waits_in now group errand under.0 under.1 (found mail_of now.at group errand among (parties_of under.0) under.1.parties refl)

-- ---- rows

module _ (words : ℕ → ℕ → ℕ × ℕ) (births : List (Seat Player)) (rows : Rows) (seat : Seat Player) (number : ℕ) (mail : Mail) (group : Draw) (entry : Draw × Errand) (errand : errand_by mail.from mail.to mail.body ≡ Some entry) where
  abbrev event : Event OrderLine
  event = Deliver number

  -- the errand of a mail that is taken is under way for its group
  pub errand_among : (node : NodeState) → IsTaking words births rows seat number mail group node → IsOfGroup words births rows seat event group → Among entry.1 ((scene_at births rows).at group).errands
  errand_among node t of =
      let row = rows_are words births rows seat event group of in
      let taken : taken_errand (mails rows) event ≡ Some entry.1 = ap (λ o. option_map (λ (x : Draw × Errand). x.1) (errand_in o)) t.sent ∙ ap (option_map (λ (x : Draw × Errand). x.1)) errand in
      let has : ((scene_at births rows).at group).errands ≡ row.before ++ (entry.1 ∷ row.behind) = row.takes ∙ ap (λ o. row.before ++ (listed o ++ row.behind)) taken in
      subst (Among entry.1) (sym has) (among-right entry.1 row.before (entry.1 ∷ row.behind) (inl refl))

  -- a mail that is taken is for who takes it
  own_mail : (node : NodeState) → IsTaking words births rows seat number mail group node → mail.to ≡ seat.who
  own_mail node t =
      let calm = (last_in_time (players words births) rows (row_of player_table seat rows event) t.timely).0 in
      let one = takes_one words births rows seat.who number (calm_is words births rows seat event calm) in
      let same : Some one.mail ≡ Some mail = sym one.sent ∙ t.sent in
      let fact : one.mail ≡ mail = cc in
      ap (λ (m : Mail). m.to) (sym fact) ∙ one.to_is

  -- so its receiver leads, where an order is under way
  taker_leads : leader_sought entry.1 ≡ Some mail.to → (node : NodeState) → IsTaking words births rows seat number mail group node → IsOfGroup words births rows seat event group → IsUnderWay (scene_at births rows)
      → (scene_at births rows).lead group ≡ Some seat.who
  taker_leads sought node t of under = leader_led (scene_at births rows) group entry.1 mail.to under (errand_among node t of) sought ∙ ap Some (own_mail node t)

  not_beside : (r : ReplicaState) (place : Place) → IsBeside births rows seat event group place → (scene_at births rows).lead group ≡ Some seat.who → ⊥
  not_beside r place (Led node lead leads ne stops) e = (let same : Some node ≡ Some seat.who = sym (lead_is births rows group node lead leads) ∙ e in let fact : node ≡ seat.who = cc in ne fact)
  not_beside r place (Unled u) e = no_some (sym (no_lead births rows group u.none) ∙ e)

  keeps_beside : leader_sought entry.1 ≡ Some mail.to → (r : ReplicaState) → ComesBeside words births rows seat number mail group r → KeepsStage births rows seat event
  keeps_beside sought r c under =
      absurd (not_beside r (after words births rows seat number mail group r) c.beside (taker_leads sought c.comes.node c.comes.taking (row_of_comes words births rows seat number mail group r c.comes).0 under))

  stopped_there : (o : Option ReplicaState) → o ≡ None → is_running o ≡ true → ⊥
  stopped_there None e runs = cc
  stopped_there (Some r) e runs = no_some (sym e)

  keeps_missed : leader_sought entry.1 ≡ Some mail.to → ComesToNone words births rows seat number mail group → KeepsStage births rows seat event
  keeps_missed sought c under =
      let of = (misses words births rows seat number mail group c.node c.taking entry c.none errand).0 in
      let lead = taker_leads sought c.node c.taking of under in
      let none = view_was births rows seat event group c.taking.seated (Node c.node) c.taking.is_node ∙ c.none in
      absurd (stopped_there (view_at births rows group seat.who) none (lead_runs (view_at births rows group) (numbers_of births) seat.who lead))

-- In each stage a vote, an outcome, and that a coordinator is to ask elsewhere go to the node that leads, so none of them comes beside it; and the group of an errand waits for it.
pub answers_reach : AnswersReachLeaders
answers_reach = record {
  led = leader_led;
  waits = group_waits;
  beside = λ words births rows seat number mail group r entry c errand sought. keeps_beside words births rows seat number mail group entry errand sought r c;
  missed = λ words births rows seat number mail group entry c errand sought. keeps_missed words births rows seat number mail group entry errand sought c;
}
