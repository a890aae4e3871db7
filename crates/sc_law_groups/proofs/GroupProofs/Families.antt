-- What holds of each lawful journal with any number of groups, its parts named: a part for each group, and what all groups share; what may be queued and which mails of transactions are true grow with the rows. One more row keeps it.
use Rattle.std.proofs.Common.{◌≡◌, ℕ, ◌+◌, ◌≤◌, false, List, [], ◌∷◌, ◌++◌, length, drop, take, None, Some, inl, inr, sym, ◌∙◌, ap, subst}
use Rattle.std.specs.Prelude.{slice_get}
use Rattle.sc_node_table.specs.Values.{Ballot, Reply, Command, Base, Route, OrderLine, Mail, MailBody, Row, Node as ANode, Client as AClient}
use Rattle.sc_base.specs.Definitions.{client_actor, Among, Each}
use Rattle.sc_actor.specs.Definitions.{mails, value, has_started}
use Rattle.sc_actor.proofs.Lemmas.{mails-snoc}
use Rattle.sc_client_table.specs.table.TableDefinitions.{Client}
use Rattle.sc_node_table.specs.NodeDefinitions.{NodeState}
use Rattle.sc_words.proofs.PaxosProofs.PaxosLemmas.{Each-among}
use Rattle.sc_paxos_law.specs.PaxosLawDefinitions.{Offered, members_of, IsChosenAfter, log_of, IsLawfulHistory}
use Rattle.sc_paxos_law.proofs.Lemmas.{Among-either, shared_member, was_offered, log_of-longest, log_grows}
use Rattle.sc_scenario.specs.declared.scenario.scenarios.Asks.{Asks}
use Rattle.sc_scenario.specs.declared.scenario.scenarios.Scenario.{Scenario}
use Rattle.sc_meaning.specs.sound.SoundDefinitions.{Ahead, node_seat, player_table, client_seat, decided_log, kept_replies}
use Rattle.sc_law_groups.specs.group.GroupDefinitions.{steps}
use Rattle.sc_law_groups.proofs.GroupProofs.EachElement.{each_got}
use Rattle.sc_law_groups.proofs.GroupProofs.Invariant.{Steps, rule, first, IsTrue, grown_true, OffersMade}
use Rattle.sc_law_groups.proofs.GroupProofs.Holding.{more_holds}
use Rattle.sc_law_groups.proofs.GroupProofs.Names.{IsNamedIn, named_later}
use Rattle.sc_law_groups.proofs.GroupProofs.GroupNodes.{IsNode}
use Rattle.sc_law_groups.proofs.GroupProofs.Projected.{log_only, only_steps}
use Rattle.sc_law_groups.proofs.GroupProofs.FirstRows.{Journal, split_at}
use Rattle.sc_law_groups.proofs.GroupProofs.Clients.{IsClient, Grew, EachClient}

-- the steps of a journal for each group
abbrev pub h_of : Journal → Base → Steps
h_of rows base = steps base.core.id rows

-- the decided log is that of the steps
pub decided_is : (ahead : Ahead) (base : Base) (rows : Journal) → decided_log ahead base rows ≡ log_of (rule ahead base) (h_of rows base)
decided_is ahead base rows = ap (log_of (rule ahead base)) (sym (only_steps base.core.id rows)) ∙ log_only (rule ahead base) (h_of rows base)

-- what is chosen was offered
pub chosen_offered : (ahead : Ahead) (base : Base) (h : Steps) → IsLawfulHistory (rule ahead base) (first ahead base) h → (log : List Command) (slot : ℕ) (c : Command) → IsChosenAfter (rule ahead base) h log slot c
    → (b : Ballot) × Among (Offered b slot c) h
chosen_offered ahead base h l log slot c fact =
    let k = fact.chosen in
    let voter = shared_member (members_of (rule ahead base) log slot) k.voters k.voters k.majority k.majority in
    (k.ballot, was_offered (rule ahead base) (first ahead base) h voter.0 k.ballot slot c l (Each-among _ k.voters voter.0 k.each voter.1))

-- what may be read off a group's log: each of its commands was offered
pub entry_offered : (ahead : Ahead) (base : Base) (rows : Journal) → IsLawfulHistory (rule ahead base) (first ahead base) (h_of rows base) → (place : ℕ) (c : Command) → slice_get (decided_log ahead base rows) place ≡ Some c
    → (b : Ballot) × (slot : ℕ) × Among (Offered b slot c) (h_of rows base)
entry_offered ahead base rows lawful place c at =
    let is_log = (log_of-longest (rule ahead base) (first ahead base) (h_of rows base) lawful).0 in
    let chosen = is_log place c (subst (λ l. slice_get l place ≡ Some c) (decided_is ahead base rows) at) in
    let offer = chosen_offered ahead base (h_of rows base) lawful _ (place + 1) c chosen in
    (offer.0, place + 1, offer.1)

-- the groups of a scenario, the groups so far, where clients ask first, and what each group's replicas may queue after some rows
module _ (ahead : Ahead) (scenario : Scenario) (firsts bases : List Base) (route : Route) (made : Journal → Base → Command → Type 0) (heard : Journal → MailBody → Type 0) where
  -- ---- players

  -- a node of the journal as the steps say
  pub record IsNodeAt (since rows : Journal) (n : ℕ) : Type 0 where
    pub node : NodeState
    pub value_is : value player_table (node_seat ahead firsts scenario.policy n) rows ≡ ANode node
    pub fact : IsNode ahead bases (made since) (h_of rows) n node

  -- a client of the journal as the steps say
  pub record IsClientAt (rows : Journal) (asks : Asks) : Type 0 where
    pub client : Client
    pub value_is : value player_table (client_seat route asks) rows ≡ AClient client
    pub fact : IsClient ahead bases (h_of rows) asks client
    pub fresh : has_started rows (client_actor asks.client) ≡ false → (client.replies ≡ []) × (client.waiting ≡ None)

  -- a client's replies in a journal
  abbrev pub replies_in : Asks → Journal → List Reply
  replies_in asks rows = kept_replies route asks rows

  -- ---- what holds

  -- a group's part: its steps are lawful, each command that is offered was made, and what mail says of it is true
  pub record Part (rows : Journal) (base : Base) : Type 0 where
    pub lawful : IsLawfulHistory (rule ahead base) (first ahead base) (h_of rows base)
    pub requested : OffersMade (made rows base) (h_of rows base)
    pub true_mail : (m : Mail) → Among m (mails rows) → IsTrue ahead base (made rows base) (heard rows) (h_of rows base) m m.body

  -- what holds of each lawful journal
  pub record Kept (rows : Journal) : Type 0 where
    pub parts : (base : Base) → Among base bases → Part rows base
    -- mail of Paxos is of the groups
    pub named : (m : Mail) → Among m (mails rows) → IsNamedIn (heard rows) bases m.body
    -- nodes and clients are as the steps say
    pub nodes : (n : ℕ) → 1 ≤ n → n ≤ scenario.nodes → IsNodeAt rows rows n
    pub clients : EachClient scenario (IsClientAt rows)

  -- ---- one more row

  -- what may be queued, and what is true of transactions, stays so after the row
  pub record IsLater (rows : Journal) (row : Row Mail OrderLine) : Type 0 where
    pub made_later : (base : Base) (c : Command) → made rows base c → made (rows ++ row ∷ []) base c
    pub heard_later : (body : MailBody) → heard rows body → heard (rows ++ row ∷ []) body

  -- a group's steps of a row, but for its mail
  pub record Stepped (rows : Journal) (row : Row Mail OrderLine) (base : Base) : Type 0 where
    pub newer : Steps
    pub are : h_of (rows ++ row ∷ []) base ≡ newer ++ h_of rows base
    pub lawful : IsLawfulHistory (rule ahead base) (first ahead base) (h_of (rows ++ row ∷ []) base)
    pub requested : OffersMade (made rows base) (h_of (rows ++ row ∷ []) base)

  -- a group's part of a row
  pub record PartMoved (rows : Journal) (row : Row Mail OrderLine) (base : Base) : Type 0 where
    pub stepped : Stepped rows row base
    pub true_sent : (m : Mail) → Among m row.sent → IsTrue ahead base (made (rows ++ row ∷ []) base) (heard (rows ++ row ∷ [])) (h_of (rows ++ row ∷ []) base) m m.body

  -- a client after a row of its own, or as it was
  pub record ClientMoved (rows : Journal) (row : Row Mail OrderLine) (asks : Asks) : Type 0 where
    pub after : IsClientAt (rows ++ row ∷ []) asks
    pub grew : Grew ahead bases (h_of rows) asks (replies_in asks rows) (replies_in asks (rows ++ row ∷ []))

  -- after one more row: lawful steps, true mail, and nodes and clients as the steps say
  pub record Moved (rows : Journal) (row : Row Mail OrderLine) : Type 0 where
    pub parts : (base : Base) → Among base bases → PartMoved rows row base
    pub named : (m : Mail) → Among m row.sent → IsNamedIn (heard (rows ++ row ∷ [])) bases m.body
    pub nodes : (n : ℕ) → 1 ≤ n → n ≤ scenario.nodes → IsNodeAt rows (rows ++ row ∷ []) n
    pub clients : (asks : Asks) → Among asks scenario.clients → ClientMoved rows row asks

  node_made : (old more : Base → Command → Type 0) → ((b : Base) (c : Command) → old b c → more b c) → (h : Base → Steps) (me : ℕ) (node : NodeState) → IsNode ahead bases old h me node → IsNode ahead bases more h me node
  node_made old more f h me node at = record { me_is = at.me_is; known = at.known; holds = λ base a. more_holds ahead base (old base) (more base) (f base) me (h base) node.replicas (at.holds base a) }

  -- what holds of a journal holds with one more row
  pub push : (rows : Journal) (row : Row Mail OrderLine) → IsLater rows row → Kept rows → Moved rows row → Kept (rows ++ row ∷ [])
  push rows row later k m =
      let next = rows ++ row ∷ [] in
      record {
        parts = λ base a. (
            let p = (m.parts base a).stepped in
            record {
              lawful = p.lawful;
              requested = λ b slot c o. later.made_later base c (p.requested b slot c o);
              true_mail = λ x b. elim (Among-either x (mails rows) row.sent (subst (Among x) (mails-snoc rows row) b)) [
                | inl old ↦ subst (λ g. IsTrue ahead base (made next base) (heard next) g x x.body) (sym p.are)
                    (grown_true ahead base (made rows base) (made next base) (later.made_later base) (heard rows) (heard next) later.heard_later p.newer (h_of rows base) x x.body ((k.parts base a).true_mail x old))
                | inr new ↦ (m.parts base a).true_sent x new
              ];
            });
        named = λ x b. elim (Among-either x (mails rows) row.sent (subst (Among x) (mails-snoc rows row) b)) [
          | inl old ↦ named_later (heard rows) (heard next) later.heard_later bases x.body (k.named x old)
          | inr new ↦ m.named x new
        ];
        nodes = λ n some most. (let at = m.nodes n some most in
            record { node = at.node; value_is = at.value_is; fact = node_made (made rows) (made next) later.made_later (h_of next) n at.node at.fact });
        clients = λ asks stands. (m.clients asks stands).after;
      }

  -- ---- a group's log

  -- the log goes on
  pub log_goes_on : (base : Base) (rows : Journal) (row : Row Mail OrderLine) → Stepped rows row base
      → decided_log ahead base (rows ++ row ∷ []) ≡ decided_log ahead base rows ++ drop (length (decided_log ahead base rows)) (decided_log ahead base (rows ++ row ∷ []))
  log_goes_on base rows row p =
      let next = rows ++ row ∷ [] in
      let log = decided_log ahead base rows in
      let grown = log_grows (rule ahead base) (first ahead base) p.newer (h_of rows base) (subst (IsLawfulHistory (rule ahead base) (first ahead base)) p.are p.lawful) in
      let same = decided_is ahead base rows in
      let later = decided_is ahead base next ∙ ap (log_of (rule ahead base)) p.are in
      split_at (length log) log (decided_log ahead base next)
      (ap (take (length log)) later ∙ ap (λ l. take (length l) (log_of (rule ahead base) (p.newer ++ h_of rows base))) same ∙ grown.1 ∙ sym same)

  -- what is decided with one more row was queued before it
  pub decided_made : (base : Base) (rows : Journal) (row : Row Mail OrderLine) → Stepped rows row base → Each (made rows base) (decided_log ahead base (rows ++ row ∷ []))
  decided_made base rows row p = each_got (made rows base) (decided_log ahead base (rows ++ row ∷ [])) (λ place c at. (
      let offer = entry_offered ahead base (rows ++ row ∷ []) p.lawful place c at in
      p.requested offer.0 offer.1 c offer.2))
