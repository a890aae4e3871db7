-- The chart says what the coordinator of a stage asks.
use Rattle.std.proofs.Common.{◌≡◌, ℕ, ◌&&◌, cond, true, false, true≢false, Bool, List, [], ◌∷◌, ◌++◌, Option, Some, None, inl, inr, refl, sym, ◌∙◌, ap, subst}
use Rattle.std.specs.Prelude.{is_some}
use Rattle.std.proofs.lemmas.Bool.{cases_Bool, and_parts}
use Rattle.sc_base.proofs.Lemmas.{draw_is, same_name}
use Rattle.sc_base.specs.Definitions.{Among, same_draw}
use Rattle.sc_node_table.specs.Values.{Draw, Core, Lock, Free, Coordinating, Promised, Watching, Body, Heard, Seat}
use Rattle.sc_words.specs.declared.commands.bodies.Body.TheVariants as At
use Rattle.sc_node_table.specs.NodeDefinitions.{asked_link, watcher_link, ReplicaState, name_of}
use Rattle.sc_meaning.specs.sound.SoundDefinitions.{Player}
use Rattle.sc_live_steps.specs.calm.CalmDefinitions.{Rows}
use Rattle.sc_live_journals.specs.charts.ChartDefinitions.{all_replicas, asked_by, asked_in}
use Rattle.sc_live_steps.specs.orders.OrderDefinitions.{Turn, First, Lone, Next, is_watch, Bond, Unbound, Asking, Bound, Here, Scene, turn_of, bond_in, bond_of, Leg, Mailed, Filed, closing, heard, bound_by, parties_of, Stage, Still, Ordered, Asks, SentOn, Weighs, Replied, Recorded, Closes, ClosesBoth, IsAt}
use Rattle.sc_live_steps.proofs.OrderStepsProofs.OrderStepLemmas.{tokens, tagged, found}
use Rattle.sc_live_journals.specs.scenes.SceneDefinitions.{scene_at, ScenesDescribe}
use Rattle.sc_live_answers.specs.AnswerDefinitions.{AllLeadAlone, StagesAsk}

-- ---- who asks in a stage

-- a transaction, whom it asks, and in which turn
abbrev Sought : Type 0
Sought = Draw × (Draw × Turn)

abbrev asks_by : Bond → List Sought
asks_by Unbound = []
asks_by (Asking tx asked turn) = (tx, (asked, turn)) ∷ []
asks_by (Bound tx) = []

abbrev asks_of : Here → List Sought
asks_of h = asks_by h.bond

none_heard : (tx : Draw) (turn : Turn) → tokens asks_of (heard tx turn) ≡ []
none_heard tx First = refl
none_heard tx Lone = refl
none_heard tx (Next part host) = refl

none_bound : (tx name : Draw) (agreed : Bool) → tagged name (asks_by (bound_by agreed tx)) ≡ []
none_bound tx name true = refl
none_bound tx name false = refl

none_closing : (tx name : Draw) (leg : Leg) (host : ℕ) → tagged name (asks_of (closing tx leg host)) ≡ []
none_closing tx name Mailed host = refl
none_closing tx name Filed host = refl

-- of two that stand in a list of one at most each is that one
one_only : {X : Type 0} (x a b : X) (xs ys : List X) → xs ≡ [] → ys ≡ [] → Among a (x ∷ (xs ++ ys)) → Among b (x ∷ (xs ++ ys)) → a ≡ b
one_only x a b xs ys none empty left right = sym (fact a (subst (Among a) all left)) ∙ fact b (subst (Among b) all right)
  where
    all : x ∷ (xs ++ ys) ≡ x ∷ []
    all = ap (λ l. x ∷ (l ++ ys)) none ∙ ap (λ l. x ∷ l) empty

    fact : (c : _) → Among c (x ∷ []) → x ≡ c
    fact c (inl e) = e
    fact c (inr none_) = absurd none_

nobody : {X : Type 0} (a b : X) (xs ys : List X) → xs ≡ [] → ys ≡ [] → Among a (xs ++ ys) → a ≡ b
nobody a b xs ys none empty left = absurd (subst (Among a) (ap (λ l. l ++ ys) none ∙ empty) left)

one_asks : (stage : Stage) (a b : Draw × Sought) → Among a (tokens asks_of (parties_of stage)) → Among b (tokens asks_of (parties_of stage)) → a ≡ b
one_asks Still a b left right = absurd left
one_asks (Ordered group chief work) a b left right = absurd left
one_asks (Asks deal to) a b left right = one_only (deal.coord, (deal.tx, (deal.asked, deal.turn))) a b [] (tokens asks_of (heard deal.tx deal.turn)) refl (none_heard deal.tx deal.turn) left right
one_asks (SentOn deal) a b left right = one_only (deal.coord, (deal.tx, (deal.asked, deal.turn))) a b [] (tokens asks_of (heard deal.tx deal.turn)) refl (none_heard deal.tx deal.turn) left right
one_asks (Weighs deal host) a b left right = one_only (deal.coord, (deal.tx, (deal.asked, deal.turn))) a b [] (tokens asks_of (heard deal.tx deal.turn)) refl (none_heard deal.tx deal.turn) left right
one_asks (Replied deal agreed host) a b left right =
    one_only (deal.coord, (deal.tx, (deal.asked, deal.turn))) a b (tagged deal.asked (asks_by (bound_by agreed deal.tx))) (tokens asks_of (heard deal.tx deal.turn)) (none_bound deal.tx deal.asked agreed) (none_heard deal.tx deal.turn) left right
one_asks (Recorded deal agreed host) a b left right =
    one_only (deal.coord, (deal.tx, (deal.asked, deal.turn))) a b (tagged deal.asked (asks_by (bound_by agreed deal.tx))) (tokens asks_of (heard deal.tx deal.turn)) (none_bound deal.tx deal.asked agreed) (none_heard deal.tx deal.turn) left right
one_asks (Closes tx party) a b left right = nobody a b (tagged party.group (asks_of (closing tx party.leg party.host))) [] (none_closing tx party.group party.leg party.host) refl left
one_asks (ClosesBoth tx one two) a b left right =
    nobody a b (tagged one.group (asks_of (closing tx one.leg one.host))) (tagged two.group (asks_of (closing tx two.leg two.host)) ++ []) (none_closing tx one.group one.leg one.host)
    (ap (λ l. l ++ []) (none_closing tx two.group two.leg two.host)) left

-- a group that asks stands among those
asks_there : (now : Scene) (stage : Stage) (name tx asked : Draw) (turn : Turn) → IsAt stage now → (now.at name).bond ≡ Asking tx asked turn → Among (name, (tx, (asked, turn))) (tokens asks_of (parties_of stage))
asks_there now stage name tx asked turn at fact = found asks_of now.at name (tx, (asked, turn)) (subst (λ b. Among (tx, (asked, turn)) (asks_by b)) (sym fact) (inl refl)) (parties_of stage) at.parties refl

-- ---- what a lock asks

watches : (core : Core) (body : Body) (heard_ : Option Heard) → is_some (watcher_link core body heard_) ≡ is_watch (turn_of core body heard_)
watches core At.Merge None = refl
watches core At.Merge (Some h) = refl
watches core (At.Repart at) None = refl
watches core (At.Repart at) (Some h) = refl
watches core (At.Migrate node) None = refl
watches core (At.Migrate node) (Some h) = refl
watches core (At.Split at child) h = refl

module _ (tx : Draw) (core : Core) where
  -- what a lock that asks in this transaction asks, and its bond
  record IsAsked (lock : Lock) : Type 0 where
    asked : Draw
    turn : Turn
    bond : bond_in lock core ≡ Asking tx asked turn
    by : asked_by tx core lock ≡ Some (asked, is_watch turn)

  abbrev sought : Body → Option Heard → Option (Draw × Bool)
  sought body heard_ = Some ((asked_link core body heard_).group, is_some (watcher_link core body heard_))

  asked_some : (lock : Lock) → is_some (asked_by tx core lock) ≡ true → IsAsked lock
  asked_some Free some = cc
  asked_some (Promised other offer) some = cc
  asked_some (Watching other watch) some = cc
  asked_some (Coordinating other body order heard_) some = elim (cases_Bool (same_draw other tx)) [
    | inl same ↦ record {
      asked = (asked_link core body heard_).group;
      turn = turn_of core body heard_;
      bond = ap (λ t. Asking t (asked_link core body heard_).group (turn_of core body heard_)) (draw_is other tx same);
      by = ap (λ b. cond b (Some ((asked_link core body heard_).group, is_some (watcher_link core body heard_))) None) same ∙ ap (λ w. Some ((asked_link core body heard_).group, w)) (watches core body heard_);
    }
    | inr other_ ↦ absurd (true≢false (sym some ∙ ap (λ b. is_some (cond b (sought body heard_) None)) other_))
  ]

  asking_lock : (lock : Lock) (asked : Draw) (turn : Turn) → bond_in lock core ≡ Asking tx asked turn → is_some (asked_by tx core lock) ≡ true
  asking_lock Free asked turn e = absurd cc
  asking_lock (Promised other offer) asked turn e = absurd cc
  asking_lock (Watching other watch) asked turn e = absurd cc
  asking_lock (Coordinating other body order heard_) asked turn e =
      let same : other ≡ tx = cc in
      ap (λ b. is_some (cond b (sought body heard_) None)) (same_name other tx same)

-- ---- the first that asks

-- a replica that runs and asks in the transaction
abbrev Speaks : Draw → ReplicaState → Bool
Speaks tx r = r.running && is_some (asked_by tx r.group.core r.group.core.lock)

first_asks : (tx : Draw) (v : Option (Draw × Bool)) (rs : List ReplicaState) (r : ReplicaState) → ((x : ReplicaState) → Among x rs → Speaks tx x ≡ true → asked_by tx x.group.core x.group.core.lock ≡ v) → Among r rs → Speaks tx r ≡ true → asked_in tx rs ≡ v
first_asks tx v [] r each a speaks = absurd a
first_asks tx v (x ∷ rs) r each a speaks = elim (cases_Bool (Speaks tx x)) [
  | inl t ↦ ap (λ b. cond b (asked_by tx x.group.core x.group.core.lock) (asked_in tx rs)) t ∙ each x (inl refl) t
  | inr f ↦ ap (λ b. cond b (asked_by tx x.group.core x.group.core.lock) (asked_in tx rs)) f ∙ elim a [
    | inl e ↦ absurd (true≢false (sym speaks ∙ (ap (Speaks tx) (sym e) ∙ f)))
    | inr b ↦ first_asks tx v rs r (λ y c. each y (inr c)) b speaks
  ]
]

module _ (tell : ScenesDescribe) (births : List (Seat Player)) (rows : Rows) (stage : Stage) (tx coord asked : Draw) (turn : Turn) (r : ReplicaState) (alone : AllLeadAlone births rows) (at : IsAt stage (scene_at births rows))
    (bond : ((scene_at births rows).at coord).bond ≡ Asking tx asked turn) (among : Among r (all_replicas births rows)) (runs : r.running ≡ true) (named : name_of r ≡ coord) where
  abbrev now : Scene
  now = scene_at births rows

  bond_is : (x : ReplicaState) → Among x (all_replicas births rows) → x.running ≡ true → (now.at (name_of x)).bond ≡ bond_of x.group.core
  bond_is x a on = (let l = alone x a on in (tell.led births rows (name_of x) l.0 x l.1).1.0)

  speaks : Speaks tx r ≡ true
  speaks =
      let own : bond_of r.group.core ≡ Asking tx asked turn = sym (bond_is r among runs) ∙ (ap (λ n. (now.at n).bond) named ∙ bond) in
      ap (λ b. b && is_some (asked_by tx r.group.core r.group.core.lock)) runs ∙ asking_lock tx r.group.core r.group.core.lock asked turn own

  same : (x : ReplicaState) → Among x (all_replicas births rows) → Speaks tx x ≡ true → asked_by tx x.group.core x.group.core.lock ≡ Some (asked, is_watch turn)
  same x a s =
      let both = and_parts x.running (is_some (asked_by tx x.group.core x.group.core.lock)) s in
      let fact = asked_some tx x.group.core x.group.core.lock both.1 in
      let there = asks_there now stage (name_of x) tx fact.asked fact.turn at (bond_is x a both.0 ∙ fact.bond) in
      let here = asks_there now stage coord tx asked turn at bond in
      let e : (name_of x, (tx, (fact.asked, fact.turn))) ≡ (coord, (tx, (asked, turn))) = one_asks stage (name_of x, (tx, (fact.asked, fact.turn))) (coord, (tx, (asked, turn))) there here in
      fact.by ∙ ap (λ (t : Draw × Sought). Some (t.1.1.0, is_watch t.1.1.1)) e

  asks : asked_in tx (all_replicas births rows) ≡ Some (asked, is_watch turn)
  asks = first_asks tx (Some (asked, is_watch turn)) (all_replicas births rows) r same among speaks

pub stages_ask : ScenesDescribe → StagesAsk
stages_ask = asks
