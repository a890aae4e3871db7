-- Along the log of a group of a journal, each replica makes the children of the entries that it executes.
use Rattle.std.proofs.Common.{◌≡◌, ℕ, ◌<◌, ◌≤◌, true, List, [], Some, refl, sym, subst}
use Rattle.sc_base.specs.Definitions.{Among, IsRoster, is_member}
use Rattle.sc_node_table.specs.Values.{Ballot, Command, Base, Route, Mail, MailBody, Accepted as AcceptedMail, Learn, Seat}
use Rattle.sc_base.proofs.Lemmas.{same_name}
use Rattle.sc_actor.specs.Definitions.{mails, numbered}
use Rattle.sc_paxos_law.specs.PaxosLawDefinitions.{Accepted, IsLawfulHistory}
use Rattle.sc_scenario.specs.scenario.Definitions.{ValidScenariosAreBounded}
use Rattle.sc_scenario.specs.declared.scenario.scenarios.Scenario.{Scenario}
use Rattle.sc_node_table.specs.NodeDefinitions.{NodeState, ReplicaState, next, last_slot, mailed}
use Rattle.sc_meaning.specs.sound.SoundDefinitions.{decided_log, Ahead, Player, route_of}
use Rattle.sc_law_entries.specs.logs.LogDefinitions.{Rows}
use Rattle.sc_law_entries.specs.ring.RingDefinitions.{Sources}
use Rattle.sc_law_entries.specs.names.NameDefinitions.{OtherNamesAreFree, TakenOrdersAreAllowed, TakenWishesAreAllowed, WishesAreAtPositions, owner_in}
use Rattle.sc_law_groups.proofs.GroupProofs.GroupLemmas.{h_of, IsLearnt, Steps, rule, first}
use Rattle.sc_law_groups.specs.whole.WholeDefinitions.{BeginsWell, section_op, OrdersAreAllowed, ValidScenariosBeginWell}
use Rattle.sc_law_groups.proofs.WholeProofs.WholeLemmas.{orders_allowed}
use Rattle.sc_live_journals.specs.logs.LogDefinitions.{IsGroupOf, HasReplica}
use Rattle.sc_live_journals.proofs.LogsProofs.GroupLogLemmas.{ArePrefixes, said_in, IsAlong, part, roster, prefixes, along, opens, flying}
use Rattle.sc_live_answers.specs.AnswerDefinitions.{IsBirth, EntriesCreateChildren}
use Rattle.sc_live_answers.proofs.ChildrenProofs.ReplicaChildren.{learn_creates, vote_creates}

-- what the laws under this one say of valid scenarios
module _ (bounded : ValidScenariosAreBounded) (begin : ValidScenariosBeginWell) (allowed : TakenOrdersAreAllowed) (wishes : TakenWishesAreAllowed) (positions : WishesAreAtPositions) (free : OtherNamesAreFree) where
  module _ (ahead : Ahead) (words : ℕ → ℕ → ℕ × ℕ) (scenario : Scenario) (journal : Rows) (base : Base) (group : IsGroupOf ahead words scenario journal base) where
    abbrev sources : Sources
    sources = record { owner = owner_in ahead scenario journal; request = section_op scenario }

    abbrev route : Route
    route = route_of (begin (owner_in ahead scenario journal) (free ahead scenario journal) ahead group.open_slots scenario group.valid).first

    well : BeginsWell sources ahead scenario route
    well = (begin (owner_in ahead scenario journal) (free ahead scenario journal) ahead group.open_slots scenario group.valid).well

    orders : OrdersAreAllowed sources ahead scenario journal
    orders = orders_allowed ahead words scenario (bounded scenario group.valid) allowed wishes positions journal group.lawful

    abbrev h : Steps
    h = h_of journal base

    abbrev all : List Command
    all = decided_log ahead base journal

    abbrev lawful_steps : IsLawfulHistory (rule ahead base) (first ahead base) h
    lawful_steps = (part sources ahead words scenario route well journal orders group.lawful base group.stands).lawful

    abbrev first_members : IsRoster base.core.members
    first_members = roster sources ahead words scenario route well journal orders group.lawful base group.stands

    abbrev all_prefixes : ArePrefixes ahead base journal
    all_prefixes = prefixes sources ahead words scenario route well journal orders group.lawful base group.stands

    abbrev Along : ReplicaState → Type 0
    Along r = IsAlong ahead group.open_slots base first_members h lawful_steps all all_prefixes r

    module _ (rows : Rows) (seat : Seat Player) (node : NodeState) (r : ReplicaState) (has : HasReplica ahead scenario journal base rows seat node r) where
      k : Along r
      k = along sources ahead words scenario route well journal orders group.lawful base group.stands rows seat node r has group.open_slots

      learnt : (number : ℕ) (mail : Mail) (slot : ℕ) (command : Command) → numbered (mails rows) number ≡ Some mail → mail.body ≡ Learn base.core.id slot command → slot ≡ next r → slot ≤ last_slot
          → (child : Base) → IsBirth all base slot child → is_member child.core.members r.me ≡ true → Among child (mailed mail.from mail.body (r, [])).1
      unfolding mailed
      learnt number mail slot command sent fact at low child b member =
          let t : IsLearnt (rule ahead base) h slot command = said_in sources ahead words scenario route well journal orders group.lawful base group.stands rows has.more has.prefix number mail (Learn base.core.id slot command) sent fact (same_name base.core.id base.core.id refl) in
          subst (λ (m : MailBody). Among child (mailed mail.from m (r, [])).1) (sym fact)
          (learn_creates ahead group.open_slots base first_members h lawful_steps all all_prefixes r.me mail.from slot command r k refl t at low child b member)

      voted : r.running ≡ true → (number : ℕ) (mail : Mail) (ballot : Ballot) (slot : ℕ) → numbered (mails rows) number ≡ Some mail → mail.body ≡ AcceptedMail base.core.id ballot slot
          → (at : ℕ) (child : Base) → next r ≤ at → at < next (mailed mail.from mail.body (r, [])).0.0 → IsBirth all base at child → is_member child.core.members r.me ≡ true → Among child (mailed mail.from mail.body (r, [])).1
      unfolding mailed
      voted runs number mail ballot slot sent fact at child least most b member =
          let did : (command : Command) × Among (Accepted mail.from ballot slot command) h = said_in sources ahead words scenario route well journal orders group.lawful base group.stands rows has.more has.prefix number mail (AcceptedMail base.core.id ballot slot) sent fact (same_name base.core.id base.core.id refl) in
          subst (λ (m : MailBody). Among child (mailed mail.from m (r, [])).1) (sym fact)
          (vote_creates ahead group.open_slots base first_members h lawful_steps all all_prefixes r.me r k refl runs
          (opens sources ahead words scenario route well journal orders group.lawful base group.stands rows seat node r has group.open_slots)
          (flying sources ahead words scenario route well journal orders group.lawful base group.stands rows seat node r has) mail.from ballot slot did.0 did.1
          at child least (subst (λ (m : MailBody). at < next (mailed mail.from m (r, [])).0.0) fact most) b member)

  pub entries_create_children : EntriesCreateChildren
  entries_create_children = record { learnt = learnt; voted = voted }
