-- The chart after a row follows that before it.
use Rattle.std.proofs.Common.{◌≡◌, ℕ, ◌+◌, ◌≤◌, Bool, true, false, List, [], ◌∷◌, ◌++◌, Option, Some, None, refl, sym, ◌∙◌, ap, subst, arith}
use Rattle.sc_base.specs.Definitions.{Each}
use Rattle.sc_node_table.specs.Values.{Draw, OrderLine, Mail, MailBody, Answer, TxElsewhere, Node, Client, Seat, Row}
use Rattle.sc_mail.specs.declared.bodies.AnswerBody.TheVariants as Says
use Rattle.sc_actor.specs.Definitions.{value, System, is_quiet}
use Rattle.sc_live_orderly.specs.OrderlyDefinitions.{under_way, AreInTime}
use Rattle.sc_live_orderly.proofs.OrderlyLemmas.{in_time_tidy}
use Rattle.sc_meaning.specs.sound.SoundDefinitions.{Player, player_table}
use Rattle.sc_live_steps.specs.calm.CalmDefinitions.{players, Chart, SeeksNoMore, MayFollow, Ways, asked_owes, elsewhere_owes, body_owes, mail_owes, client_owes, search_owes, Rows, is_led}
use Rattle.sc_live_steps.proofs.CalmStepsProofs.CalmStepLemmas.{quiet_mail}
use Rattle.sc_live_journals.specs.charts.ChartDefinitions.{all_replicas, asked_in, names_at, far_at, reach_in, chart_at, WaitsForNone, AsksSame, ChartsFollow, QuietChartsRest, quiet_prefix}
use Rattle.sc_live_journals.proofs.ChartsProofs.LastQuietPrefixes.{prefix_stays}
use Rattle.sc_live_journals.proofs.ChartsProofs.LedNames.{Extends, names_grow}

-- ways where another is asked
abbrev ways_with : Ways → (Draw → Option (Draw × Bool)) → Ways
ways_with ways asks = record ways { asked_group = asks }

elsewhere_same : (ways : Ways) (asks : Draw → Option (Draw × Bool)) (tx : Draw) (hint : Option ℕ) → asks tx ≡ ways.asked_group tx → elsewhere_owes (ways_with ways asks) tx hint ≡ elsewhere_owes ways tx hint
elsewhere_same ways asks tx None same = refl
elsewhere_same ways asks tx (Some node) same = ap (λ o. 1 + asked_owes (ways_with ways asks) node o) same ∙ asked_same (ways.asked_group tx)
  where
    asked_same : (o : Option (Draw × Bool)) → 1 + asked_owes (ways_with ways asks) node o ≡ 1 + asked_owes ways node o
    asked_same None = refl
    asked_same (Some (group, true)) = refl
    asked_same (Some (group, false)) = refl

-- a mail owes the same, but where it is to be asked elsewhere
body_same : (ways : Ways) (asks : Draw → Option (Draw × Bool)) (to : ℕ) (body : MailBody) → ((tx coord : Draw) (hint : Option ℕ) → body ≡ TxElsewhere tx coord hint → asks tx ≡ ways.asked_group tx)
    → body_owes (ways_with ways asks) to body ≡ body_owes ways to body
body_same ways asks to (Answer group seq (Says.Value reply)) same = refl
body_same ways asks to (Answer group seq (Says.NotMine arc succ)) same = refl
body_same ways asks to (Answer group seq (Says.Gone into)) same = refl
body_same ways asks to (Answer group seq (Says.NotLeader (Some node))) same = refl
body_same ways asks to (Answer group seq (Says.NotLeader None)) same = refl
body_same ways asks to (Answer group seq (Says.Stale last)) same = refl
body_same ways asks to (TxElsewhere tx coord hint) same = elsewhere_same ways asks tx hint (same tx coord hint refl)
body_same ways asks to _ same = refl

module _ (words : ℕ → ℕ → ℕ × ℕ) (births : List (Seat Player)) (far sent : ℕ) (rows : Rows) (row : Row Mail OrderLine) where
  abbrev s : System Player Mail OrderLine
  s = players words births

  abbrev after : Rows
  after = rows ++ row ∷ []

  abbrev old : Chart
  old = chart_at far sent s rows

  abbrev new : Chart
  new = chart_at far sent s after

  -- what the chart has of the last quiet journal
  abbrev with_prefix : Rows → Chart
  with_prefix prefix = record {
    ways = record { far = far_at far births prefix; most = far; asked_group = λ tx. asked_in tx (all_replicas births after) };
    groups = names_at births after;
    reach = reach_in sent (names_at births prefix) (all_replicas births prefix);
  }

  module _ (loud : is_quiet s after ≡ false) where
    -- while it is not quiet, the ways and how far clients reach stay
    new_is : new ≡ with_prefix (quiet_prefix s rows)
    new_is = ap with_prefix (prefix_stays s rows row loud)

    mail_loud : (mail : Mail) → AsksSame births rows after mail.body → mail_owes new.ways mail ≤ mail_owes old.ways mail
    mail_loud mail same =
        let one = ap (λ (chart : Chart). mail_owes chart.ways mail) new_is in
        let two = body_same old.ways (λ tx. asked_in tx (all_replicas births after)) mail.to mail.body same in
        omega (arith, one, two)

    client_loud : (player : Player) → SeeksNoMore old new player
    client_loud (Node node) = tt
    client_loud (Client client) = (let one = ap (λ (chart : Chart). client_owes chart.ways chart.reach client) new_is in omega (arith, one))

  client_quiet : (player : Player) → WaitsForNone player → SeeksNoMore old new player
  client_quiet (Node node) none = tt
  client_quiet (Client client) none =
      let one = ap (search_owes far new.reach client) none in
      let two = ap (search_owes far old.reach client) none in
      omega (arith, one, two)

  each_seat : (seats : List (Seat Player)) → ((player : Player) → SeeksNoMore old new player) → Each (λ seat. SeeksNoMore old new (value player_table seat after)) seats
  each_seat [] f = tt
  each_seat (seat ∷ seats) f = (f (value player_table seat after), each_seat seats f)

  each_still : (seats : List (Seat Player)) → Each (λ seat. WaitsForNone (value player_table seat after)) seats → Each (λ seat. SeeksNoMore old new (value player_table seat after)) seats
  each_still [] none = tt
  each_still (seat ∷ seats) none = (client_quiet (value player_table seat after) none.0, each_still seats none.1)

  each_mail : is_quiet s after ≡ false → (sent_on : List Mail) → Each (λ mail. AsksSame births rows after mail.body) sent_on → Each (λ mail. mail_owes new.ways mail ≤ mail_owes old.ways mail) sent_on
  each_mail loud [] same = tt
  each_mail loud (mail ∷ mails) same = (mail_loud loud mail same.0, each_mail loud mails same.1)

  follows : AreInTime s after → Each (λ mail. AsksSame births rows after mail.body) (under_way s after) → (is_quiet s after ≡ true → Each (λ seat. WaitsForNone (value player_table seat after)) births)
      → MayFollow s after old new
  follows timely same still = by (is_quiet s after) refl
    where
      grown : Extends (λ group. is_led births after group ≡ true) (names_at births rows) (names_at births after)
      grown = names_grow births rows row

      by : (b : Bool) → is_quiet s after ≡ b → MayFollow s after old new
      by true quiet = record {
        most = refl;
        mail = subst (Each (λ mail. mail_owes new.ways mail ≤ mail_owes old.ways mail)) (sym (quiet_mail words births after (in_time_tidy s after timely) quiet)) tt;
        clients = each_still births (still quiet);
        more = grown.0;
        groups = grown.1;
        led = grown.2;
      }
      by false loud = record {
        most = refl;
        mail = each_mail loud (under_way s after) same;
        clients = each_seat births (client_loud loud);
        more = grown.0;
        groups = grown.1;
        led = grown.2;
      }

-- The chart after a row that comes in time follows that of the rows before it, where what is to be asked elsewhere is asked of the same group, and no client waits once it is quiet.
pub charts_follow : ChartsFollow
charts_follow words births far sent rows row timely same still = follows words births far sent rows row timely same still

-- Where all players rest and each group that was ever led is led or gone, they rest by the chart.
pub charts_rest : QuietChartsRest
charts_rest words births far sent rows rest led = record { players = rest; led = led; most = refl; reach = refl }
