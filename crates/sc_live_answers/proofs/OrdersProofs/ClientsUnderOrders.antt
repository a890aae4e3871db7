-- Clients are as they were while an order is under way.
use Rattle.std.proofs.Common.{◌≡◌, ℕ, eqb, cond, find, Bool, true, false, List, [], ◌∷◌, ◌++◌, Some, inl, inr, refl, sym, ◌∙◌, ap}
use Rattle.std.specs.Prelude.{◌&&◌, ◌||◌}
use Rattle.std.proofs.lemmas.Bool.{cases_Bool, eqb-true}
use Rattle.sc_node_table.specs.Values.{OrderLine, Mail, Client, Seat, Event, Row}
use Rattle.sc_actor.specs.declared.rows.Event.TheVariants.{Told}
use Rattle.sc_actor.specs.Definitions.{mails, value, acted, input_of, has_started, row_of, is_go}
use Rattle.sc_actor.proofs.Lemmas.{value-snoc}
use Rattle.sc_client_table.specs.table.TableDefinitions.{Client as ClientState}
use Rattle.sc_meaning.specs.sound.SoundDefinitions.{Player, player_table}
use Rattle.sc_live_steps.specs.calm.CalmDefinitions.{Rows}
use Rattle.sc_live_journals.specs.rows.RowDefinitions.{IsSeat, with_event}

off : (b : Bool) → ((b && false) || false) ≡ false
off true = refl
off false = refl

-- nobody goes by another row
pub started_still : (rows : Rows) (row : Row Mail OrderLine) (who : ℕ) → is_go row.event ≡ false → has_started (rows ++ row ∷ []) who ≡ has_started rows who
started_still [] row who e = ap (λ b. (eqb row.who who && b) || false) e ∙ off (eqb row.who who)
started_still (r ∷ rows) row who e = ap (λ b. (eqb r.who who && is_go r.event) || b) (started_still rows row who e)

module _ (births : List (Seat Player)) (rows : Rows) (seat other : Seat Player) (born : IsSeat births seat) (fact : IsSeat births other) where
  -- one number has one seat
  same_seat : other.who ≡ seat.who → other ≡ seat
  same_seat e = (let both : Some other ≡ Some seat = sym fact ∙ (ap (λ who. find (λ (o : Seat Player). eqb o.who who) births) e ∙ born) in cc)

  -- a client stays as it is where another acts
  pub other_stays : (event : Event OrderLine) (client : ClientState) → (value player_table seat rows ≡ Client client → ⊥) → value player_table other rows ≡ Client client → value player_table other (with_event rows seat event) ≡ Client client
  other_stays event client none was = elim (cases_Bool (eqb seat.who other.who)) [
    | inl t ↦ absurd (none (ap (λ (s : Seat Player). value player_table s rows) (sym (same_seat (sym (eqb-true seat.who other.who t)))) ∙ was))
    | inr f ↦ value-snoc player_table other rows (row_of player_table seat rows event)
        ∙ (ap (λ b. cond b (acted player_table (value player_table other rows) (input_of (mails rows) event)).0 (value player_table other rows)) f ∙ was)
  ]

  -- a client stays as it is where an order is given
  pub told_stays : (line : OrderLine) (client : ClientState) → value player_table other rows ≡ Client client → value player_table other (with_event rows seat (Told line)) ≡ Client client
  told_stays line client was =
      value-snoc player_table other rows (row_of player_table seat rows (Told line))
      ∙ (ap (λ (p : Player). cond (eqb seat.who other.who) (acted player_table p (input_of (mails rows) (Told line))).0 p) was ∙ either_same (eqb seat.who other.who) client)
    where
      either_same : (b : Bool) (c : ClientState) → cond b (acted player_table (Client c) (input_of (mails rows) (Told line))).0 (Client c) ≡ Client c
      either_same true c = refl
      either_same false c = refl
