-- Turns, votes and offers of one transaction.
use Rattle.std.proofs.Common.{◌≡◌, ℕ, Bool, false, true≢false, Option, Some, None, refl, sym, ◌∙◌, ap}
use Rattle.sc_node_table.specs.Values.{Draw, Body, Offer, Prepared, Core, Coordinating}
use Rattle.sc_base.proofs.Lemmas.{same_name}
use Rattle.sc_words.specs.commands.CommandDefinitions.{is_alone}
use Rattle.sc_words.specs.declared.commands.bodies.Body.TheVariants as At
use Rattle.sc_law_entries.specs.ring.RingDefinitions.{Story, offer_for, offer_with, unsigned}
use Rattle.sc_scenario.specs.declared.scenario.scenarios.Scenario.{Scenario}
use Rattle.sc_live_steps.specs.calm.CalmDefinitions.{Rows}
use Rattle.sc_live_steps.specs.orders.OrderDefinitions.{turn_of, Asking, First, Lone, Next, Records, Turn, is_watch}
use Rattle.sc_live_answers.specs.AnswerDefinitions.{IsAllowedBy}
use Rattle.sc_live_answers.proofs.LinksProofs.FittingGroups.{none_of}
use Rattle.sc_live_answers.proofs.VotesProofs.OpenedTransactions.{opening_refused}

-- ---- names and turns

pub not_itself : (core : Core) (name : Draw) → core.id ≡ name → is_alone core ≡ false → name ≡ core.succ.group → ⊥
not_itself core name id alone e = true≢false (sym (same_name core.succ.group core.id (sym e ∙ sym id)) ∙ alone)

pub lone_split : (core : Core) (body : Body) → Lone ≡ turn_of core body None → (at : ℕ) × (child : Draw) × (body ≡ At.Split at child)
lone_split core (At.Split at child) e = (at, child, refl)
lone_split core At.Merge e = absurd cc
lone_split core (At.Repart at) e = absurd cc
lone_split core (At.Migrate node) e = absurd cc

pub not_alone : (core : Core) (body : Body) → First ≡ turn_of core body None → opening_refused core body ≡ None → is_alone core ≡ false
not_alone core (At.Split at child) e may = absurd cc
not_alone core At.Merge e may = (none_of (is_alone core) _ _ may).0
not_alone core (At.Repart at) e may = (none_of (is_alone core) _ _ may).0
not_alone core (At.Migrate node) e may = (none_of (is_alone core) _ _ may).0

pub has_offer : (core now : Core) (body : Body) → First ≡ turn_of core body None → offer_for now body ≡ Some (unsigned (offer_with now body))
has_offer core now (At.Split at child) e = absurd cc
has_offer core now At.Merge e = refl
has_offer core now (At.Repart at) e = refl
has_offer core now (At.Migrate node) e = refl

pub some_nat : (x y : ℕ) → Some x ≡ Some y → x ≡ y
some_nat x y e = cc

pub same_asking : (tx tx2 asked asked2 : Draw) (turn turn2 : Turn) → Asking tx asked turn ≡ Asking tx2 asked2 turn2 → (asked ≡ asked2) × (turn ≡ turn2)
same_asking tx tx2 asked asked2 turn turn2 e = (cc, cc)

pub same_record : (tx tx2 : Draw) (w w2 a a2 : Bool) (by by2 : ℕ) → Records tx w a by ≡ Records tx2 w2 a2 by2 → (tx ≡ tx2) × ((w ≡ w2) × (a ≡ a2))
same_record tx tx2 w w2 a a2 by by2 e = (cc, (cc, cc))

pub same_offer : (scenario : Scenario) (journal : Rows) (tx one other : Draw) (offer again : Offer) → IsAllowedBy scenario journal one (Prepared tx offer) → IsAllowedBy scenario journal other (Prepared tx again) → unsigned offer ≡ unsigned again
same_offer scenario journal tx one other offer again a b =
    let same : Some a.0 ≡ Some b.0 = sym a.1 ∙ b.1 in
    let story : a.0 ≡ b.0 = cc in
    let offered : Some (unsigned offer) ≡ Some (unsigned again) = sym a.2 ∙ (ap (λ (s : Story). s.offer) story ∙ b.2) in
    cc

pub first_turn : (turn : Turn) → is_watch turn ≡ false → turn ≡ First
first_turn First e = refl
first_turn Lone e = absurd (true≢false e)
first_turn (Next part host) e = absurd (true≢false e)

pub no_first : First ≡ Lone → ⊥
no_first e = cc

pub no_next : (part : Draw) (host : ℕ) → Lone ≡ Next part host → ⊥
no_next part host e = cc

pub no_lone : (part : Draw) (host : ℕ) → Next part host ≡ Lone → ⊥
no_lone part host e = cc

pub same_next : (part other : Draw) (host who : ℕ) → Next part host ≡ Next other who → part ≡ other
same_next part other host who e = cc

pub same_body : (tx t : Draw) (body body2 : Body) (order order2 : ℕ) (h h2 : Option _) → Coordinating tx body order h ≡ Coordinating t body2 order2 h2 → body ≡ body2
same_body tx t body body2 order order2 h h2 e = cc
