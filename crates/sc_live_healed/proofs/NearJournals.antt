-- In each lawful journal without orders and policy no slot is above four times the number of rows.
use Rattle.std.proofs.Common.{◌≡◌, ℕ, ◌+◌, ◌*◌, ◌≤◌, ◌<◌, false, [], length, arith}
use Rattle.sc_words.proofs.PaxosProofs.PaxosLemmas.{Each-weaker}
use Rattle.sc_node_table.specs.Values.{MailBody, Accept, Accepted, Learn, Install, Flight, Command}
use Rattle.sc_node_table.specs.NodeDefinitions.{ReplicaState, Place, mailed, tick_row, slots_ahead}
use Rattle.sc_scenario.specs.declared.scenario.scenarios.Scenario.{Scenario}
use Rattle.sc_scenario.specs.scenario.Definitions.{IsBounded}
use Rattle.sc_meaning.specs.sound.SoundDefinitions.{Lawful, Player, as_nodes}
use Rattle.sc_live_healed.proofs.FixedJournals.{Rows, AreWithoutOrders}
use Rattle.sc_live_healed.proofs.NearSlots.{NamesNear, BringsNear, StaysNear, mailed_near, ticked_near}
use Rattle.sc_live_healed.proofs.GrowingJournals.{Growth, PlayerGrown, IsGrownJournal, journal_grown}

-- what is near a slot is near a later one
pub names_more : (low high : ℕ) (body : MailBody) → low ≤ high → NamesNear low body → NamesNear high body
names_more low high (Accept group ballot slot command) up n = omega (arith, up, n)
names_more low high (Accepted group ballot slot) up n = omega (arith, up, n)
names_more low high (Learn group slot command) up n = omega (arith, up, n)
names_more low high (Install group slot base sets) up n = omega (arith, up, n)
names_more low high _ up n = tt

-- and a mail may be taken by one that is near one four slots later
pub names_brings : (bound : ℕ) (body : MailBody) → NamesNear bound body → BringsNear (bound + slots_ahead) body
names_brings bound (Accept group ballot slot command) n = omega (arith, n)
names_brings bound (Accepted group ballot slot) n = n
names_brings bound (Learn group slot command) n = omega (arith, n)
names_brings bound (Install group slot base sets) n = omega (arith, n)
names_brings bound _ n = tt

pub near_more : (low high : ℕ) (r : ReplicaState) → low ≤ high → StaysNear low (r, []) → StaysNear high (r, [])
near_more low high r up k = record {
  reached = (let most = k.reached in omega (arith, most, up));
  floored = k.floored;
  ready = Each-weaker (λ (entry : ℕ × Command). entry.0 < low) (λ (entry : ℕ × Command). entry.0 < high) (λ entry e. omega (arith, e, up)) r.ready k.ready;
  flights = Each-weaker (λ (flight : Flight Command). flight.slot < low + slots_ahead) (λ (flight : Flight Command). flight.slot < high + slots_ahead) (λ flight e. omega (arith, e, up)) r.leader.flights k.flights;
  says = tt;
}

pub alone : (bound : ℕ) (place : Place) → StaysNear bound place → StaysNear bound (place.0, [])
alone bound place k = record { reached = k.reached; floored = k.floored; ready = k.ready; flights = k.flights; says = tt }

-- slots grow by those ahead
abbrev pub slots_grow : Growth
slots_grow = record {
  Near = λ bound r. StaysNear bound (r, []);
  Names = λ bound body. NamesNear bound body;
  added = slots_ahead;
  bound_at = λ rows. 1 + 4 * rows;
  then_ = λ rows. omega arith;
  begins = λ me base. record { reached = omega arith; floored = omega arith; ready = tt; flights = tt; says = tt };
  near_more = λ bound r n. near_more bound (bound + slots_ahead) r (omega arith) n;
  names_more = λ bound body n. names_more bound (bound + slots_ahead) body (omega arith) n;
  requests = λ bound group client seq op. tt;
  mailed_so = λ base me fresh bound from body r h names f n. (
      let now : StaysNear (bound + slots_ahead) (mailed from body (r, [])).0 = mailed_near base me fresh (bound + slots_ahead) from body r h (names_brings bound body names) f (near_more bound (bound + slots_ahead) r (omega arith) n) in
      (alone (bound + slots_ahead) (mailed from body (r, [])).0 now, now.says));
  ticked_so = λ base me fresh bound drawer r f n. (
      let now : StaysNear (bound + slots_ahead) (tick_row false drawer (r, [])) = ticked_near base me fresh (bound + slots_ahead) drawer r f (near_more bound (bound + slots_ahead) r (omega arith) n) in
      (alone (bound + slots_ahead) (tick_row false drawer (r, [])) now, now.says));
}

-- a node's replicas are near a slot
abbrev pub PlayerNear : ℕ → Player → Type 0
PlayerNear bound player = PlayerGrown slots_grow bound player

-- After these rows each actor is of groups that are not reshaped, and its replicas and all mail are near this slot.
abbrev pub IsNearJournal : Scenario → ℕ → Rows → Type 0
IsNearJournal scenario bound rows = IsGrownJournal slots_grow scenario bound rows

pub journal_near : (words : ℕ → ℕ → ℕ × ℕ) (scenario : Scenario) (bounded : IsBounded scenario) (off : scenario.policy ≡ false) (rows : Rows) → AreWithoutOrders words scenario bounded off rows → Lawful as_nodes words scenario rows → IsNearJournal scenario (1 + 4 * length rows) rows
journal_near words scenario bounded off rows without_orders lawful = journal_grown slots_grow words scenario bounded off rows without_orders lawful
