-- A settled replica is settled after its tick, where its node has no policy and its group is free.
use Rattle.std.proofs.Common.{◌≡◌, ◌-◌, ◌&&◌, ◌||◌, not, nat_le, true, false, List, refl, sym, ◌∙◌, ap, true≢false}
use Rattle.std.specs.Prelude.{is_some}
use Rattle.std.proofs.lemmas.Bool.{cond_both}
use Rattle.sc_base.specs.Definitions.{Drawer, is_member}
use Rattle.sc_node_table.specs.Values.{Free, Mail}
use Rattle.sc_words.specs.paxos.PaxosDefinitions.{entry_at}
use Rattle.sc_node_table.specs.NodeDefinitions.{elected, pumped, pumped_from, wishing, reminded, ReplicaState, Place, next, members, settled, is_idle, last_slot, tick_row, asked_again, last_entry_sent}
use Rattle.sc_node_table.proofs.Frames.{pumped_from-settled}
use Rattle.sc_law_walks.proofs.WalkLemmas.{either_way}
use Rattle.sc_live_healed.proofs.FixedTicks.{tick_alone}

-- the pump leaves who is settled so
pumped_settled : (place : Place) → settled (pumped place).0 ≡ settled place.0
unfolding pumped
pumped_settled place =
    either_way (λ (p : Place). settled p.0 ≡ settled place.0) (settled place.0 && nat_le (next place.0) last_slot) (pumped_from (next place.0) place.0.sets place) place (pumped_from-settled (next place.0) place.0.sets place) refl

then_settled : (drawer : Drawer) (place : Place) → place.0.group.core.lock ≡ Free → settled place.0 ≡ true → settled (pumped (wishing false drawer (reminded place))).0 ≡ true
then_settled drawer place free on = pumped_settled (wishing false drawer (reminded place)) ∙ (ap (λ (p : Place). settled p.0) (tick_alone drawer place free) ∙ on)

-- a tick leaves who is settled so
pub tick_keeps_settled : (drawer : Drawer) (r : ReplicaState) (mails : List Mail) → r.group.core.lock ≡ Free → settled r ≡ true → settled (tick_row false drawer (r, mails)).0 ≡ true
unfolding tick_row
tick_keeps_settled drawer r mails free on =
    either_way (λ (p : Place). settled p.0 ≡ true) (is_some r.group.core.gone || not (is_member (members r) r.me)) (r, mails) _ on
    (cond_both (not (settled r)) (elected (r, mails)) _ (λ (p : Place). settled p.0 ≡ true) (λ off. absurd (true≢false (sym off ∙ ap not on)))
    (λ _. either_way (λ (p : Place). settled p.0 ≡ true) (is_idle r) _ _ (then_settled drawer (r, last_entry_sent (entry_at (next r - 1) r.log) r mails) free on) (then_settled drawer (r, asked_again r (next r) r.sets mails) free on)))
