-- An invariant of a client and of each mail that it sends: what each change of the client needs, and that each row of its table keeps the invariant.
use Rattle.std.proofs.Common.{◌≡◌, ℕ, ◌+◌, [], ◌∷◌, ◌++◌, Option, Some, None, refl}
use Rattle.sc_base.specs.Definitions.{Each, Arc}
use Rattle.sc_node_table.specs.Values.{Draw, Op, Reply, Link, Route, NotLeader, NotMine, Gone, Input, Got, OrderLine, Mail, Answer}
use Rattle.sc_client_table.specs.lookup.LookupDefinitions.{target_in, preferring, passed_on, learnt_from_not_mine, learnt_from_gone}
use Rattle.sc_client_table.specs.table.TableDefinitions.{Client, ClientStep, request_of, sent_to, request_sent, started, turned_on, table}
use Rattle.sc_law_walks.proofs.ClientWalks.{SendsTo, sent_step, request_step, started_step, client_step}

-- what holds of the client, of each mail that it sends and of each that it takes, and that each change of the client keeps it
pub record ClientParts (Holds : Client → Type 0) (Says Hears : Mail → Type 0) : Type 0 where
  pub waits : (waiting : Option ℕ) (client : Client) → Holds client → Holds (record client { waiting = waiting })
  pub replied : (reply : Reply) (client : Client) → Holds client → Holds (record client { replies = client.replies ++ reply ∷ [] })
  pub asks : (group : Draw) (target : ℕ) (request : ℕ × Op) (client : Client) → target_in group client.known ≡ Some target → Holds client → Holds (record client { asked = Some (group, target) }) × Says (request_of client.me group target request)
  pub passed : (group : Draw) (client : Client) → Holds client → Holds (record client { known = passed_on group client.known })
  pub hinted : (mail : Mail) (group : Draw) (seq hint : ℕ) (client : Client) → Hears mail → mail.body ≡ Answer group seq (NotLeader (Some hint)) → Holds client → Holds (record client { known = preferring group hint client.known })
  pub not_mine : (mail : Mail) (group : Draw) (seq : ℕ) (arc : Arc) (succ : Link) (client : Client) → Hears mail → mail.body ≡ Answer group seq (NotMine arc succ) → Holds client → Holds (record client { known = learnt_from_not_mine group arc succ client.known })
  pub gone : (mail : Mail) (group : Draw) (seq : ℕ) (into : Route) (client : Client) → Hears mail → mail.body ≡ Answer group seq (Gone into) → Holds client → Holds (record client { known = learnt_from_gone group into client.known })

module _ (Holds : Client → Type 0) (Says Hears : Mail → Type 0) (parts : ClientParts Holds Says Hears) where
  -- the client after a step, and what it sends
  abbrev pub Keeps : ClientStep → Type 0
  Keeps step = Holds step.0 × Each Says step.1

  sends : (client : Client) → Holds client → (group : Draw) → SendsTo client group Keeps
  sends client k group = record { silent = (k, tt); asks = λ target request t r. (let a = parts.asks group target request client t k in (a.0, (a.1, tt))) }

  to_group : (group : Draw) (client : Client) → Holds client → Keeps (sent_to group client)
  to_group group client k = sent_step client Keeps group (sends client k group)

  to_chosen : (client : Client) → Holds client → Keeps (request_sent client)
  to_chosen client k = request_step client Keeps (k, tt) (λ group c. sends client k group)

  starts : (seq : ℕ) (client : Client) → Holds client → Keeps (started seq client)
  starts seq client k = started_step client Keeps seq (λ _. to_chosen (record client { waiting = Some seq }) (parts.waits (Some seq) client k)) (λ _. (parts.waits None client k, tt))

  turns : (group : Draw) (client : Client) → Holds client → Keeps (turned_on group client)
  turns group client k = to_group group (record client { known = passed_on group client.known }) (parts.passed group client k)

  -- each row keeps the invariant
  pub parts_step : (client : Client) (input : Input Mail OrderLine) → ((mail : Mail) → input ≡ Got mail → Hears mail) → Holds client → Keeps (table client input)
  parts_step client input hears k = client_step client (λ input step. ((mail : Mail) → input ≡ Got mail → Hears mail) → Keeps step) (record {
    ignored = λ input i h. (k, tt);
    begun = λ h. starts 1 client k;
    ticked = λ seq group node e a h. turns group client k;
    answered = λ mail group seq. record {
      replied = λ reply e b h. starts (seq + 1) (record client { replies = client.replies ++ reply ∷ [] }) (parts.replied reply client k);
      hinted = λ hint e a b h. to_group group (record client { known = preferring group hint client.known }) (parts.hinted mail group seq hint client (h mail refl) b k);
      turned = λ e a b h. turns group client k;
      not_mine = λ arc succ e a b h. to_chosen (record client { known = learnt_from_not_mine group arc succ client.known }) (parts.not_mine mail group seq arc succ client (h mail refl) b k);
      gone = λ into e a b h. to_chosen (record client { known = learnt_from_gone group into client.known }) (parts.gone mail group seq into client (h mail refl) b k);
    };
  }) input hears
