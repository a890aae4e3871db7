-- In a whole plain journal every request is answered of a client whose `go` line is followed by a line of deliveries.
use Rattle.std.proofs.Common.{◌≡◌, ◌≤◌, eqb, ◌||◌, Bool, true, false, cond, List, [], ◌∷◌, ◌++◌, length, Option, Some, None, inl, inr, refl, sym, ap, subst, arith, append_assoc, append-nil}
use Rattle.std.specs.List.{list_any}
use Rattle.std.proofs.lemmas.List.{length_push}
use Rattle.sc_node_table.specs.Values.{OrderLine, Mail, Seat, Input, Row, Node, Client}
use Rattle.sc_actor.specs.Definitions.{mails, value, acted, input_of}
use Rattle.sc_actor.proofs.Lemmas.{value-snoc}
use Rattle.sc_client_table.proofs.TableProofs.TurnLemmas.{sends_in_turn}
use Rattle.sc_scenario.specs.declared.scenario.scenarios.SchedLine.{SchedLine}
use Rattle.sc_scenario.specs.declared.scenario.scenarios.SchedLine.TheVariants.{Settle, Free}
use Rattle.sc_meaning.specs.sound.SoundDefinitions.{Player, player_table, line_of, replies_of}
use Rattle.sc_live_orderly.proofs.OrderlyLemmas.{IsManyLine}
use Rattle.sc_live_plain.specs.PlainDefinitions.{delivers}
use Rattle.sc_live_plain.proofs.PlainRowsProofs.RowViews.{Journal}

-- ---- replies only grow

replies_step : (player : Player) (input : Option (Input Mail OrderLine)) → length (replies_of player) ≤ length (replies_of (acted player_table player input).0)
replies_step player None = omega arith
replies_step (Node node) (Some input) = omega arith
replies_step (Client client) (Some input) =
    let t = sends_in_turn client input in
    elim (t.moves) [
      | inl w ↦ (let a = ap length w.replies in omega (arith, a))
      | inr (inl b) ↦ (let a = ap length b.replies in omega (arith, a))
      | inr (inr r) ↦ (let a = ap length r.replies in let push = length_push client.replies r.reply in omega (arith, a, push))
    ]

replies_row : (seat : Seat Player) (rows : Journal) (row : Row Mail OrderLine) → length (replies_of (value player_table seat rows)) ≤ length (replies_of (value player_table seat (rows ++ row ∷ [])))
replies_row seat rows row =
    subst (λ p. length (replies_of (value player_table seat rows)) ≤ length (replies_of p)) (sym (value-snoc player_table seat rows row)) (by (eqb row.who seat.who))
  where
    by : (b : Bool) → length (replies_of (value player_table seat rows)) ≤ length (replies_of (cond b (acted player_table (value player_table seat rows) (input_of (mails rows) row.event)).0 (value player_table seat rows)))
    by true = replies_step (value player_table seat rows) (input_of (mails rows) row.event)
    by false = omega arith

pub replies_more : (seat : Seat Player) (rows more : Journal) → length (replies_of (value player_table seat rows)) ≤ length (replies_of (value player_table seat (rows ++ more)))
replies_more seat rows [] = (let same = ap (λ l. length (replies_of (value player_table seat l))) (append-nil rows) in omega (arith, same))
replies_more seat rows (row ∷ more) =
    let one = replies_row seat rows row in
    let rest_ = replies_more seat (rows ++ row ∷ []) more in
    let same = ap (λ l. length (replies_of (value player_table seat l))) (append_assoc rows (row ∷ []) more) in
    omega (arith, one, rest_, same)

-- ---- the law

-- the first line that delivers
pub first_delivery : (lines : List SchedLine) → list_any delivers lines ≡ true → (prefix : List SchedLine) × (many : SchedLine) × (back : List SchedLine) × (lines ≡ prefix ++ many ∷ back) × (delivers many ≡ true)
first_delivery [] e = cc
first_delivery (line_ ∷ lines) e = by (delivers line_) refl e (first_delivery lines)
  where
    by : (b : Bool) → delivers line_ ≡ b → (b || list_any delivers lines) ≡ true → (list_any delivers lines ≡ true → (prefix : List SchedLine) × (many : SchedLine) × (back : List SchedLine) × (lines ≡ prefix ++ many ∷ back) × (delivers many ≡ true))
        → (prefix : List SchedLine) × (many : SchedLine) × (back : List SchedLine) × (line_ ∷ lines ≡ prefix ++ many ∷ back) × (delivers many ≡ true)
    by true fact e' more = ([], line_, lines, refl, fact)
    by false fact e' more = (let r = more e' in (line_ ∷ r.0, r.1, r.2, ap (λ l. line_ ∷ l) r.3, r.4))

pub many_line : (line_ : SchedLine) → delivers line_ ≡ true → IsManyLine (line_of line_)
many_line (Settle most) e = tt
many_line (Free most workers) e = tt
many_line _ e = cc
