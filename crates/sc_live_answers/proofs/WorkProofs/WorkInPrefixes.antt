-- What stands at groups is kept from the order on, prefix by prefix.
use Rattle.std.proofs.Common.{◌≡◌, ℕ, eqb, Bool, true, false, List, [], drop, Some, inl, inr, refl, sym, ◌∙◌, ap, subst}
use Rattle.std.proofs.lemmas.Bool.{cases_eq}
use Rattle.sc_base.specs.Definitions.{Each}
use Rattle.sc_node_table.specs.Values.{Draw, Command, Noop, Call, Base, OrderLine, Mail, MailBody, Request, Seat, Event, Deliver, Row}
use Rattle.sc_actor.specs.Definitions.{mails, numbered, System, row_of}
use Rattle.sc_live_orderly.specs.OrderlyDefinitions.{is_born, rest, mail_for, taken, AreInTime}
use Rattle.sc_live_orderly.proofs.OrderlyLemmas.{in_time_before, in_time_tidy, last_in_time, TakesFirst, is_born-from, takes_first, rest-calm}
use Rattle.sc_words.proofs.PaxosProofs.PaxosLemmas.{Each-append, Each-weaker}
use Rattle.sc_law_entries.proofs.NamesProofs.NameLemmas.{Each-drop}
use Rattle.sc_scenario.specs.declared.scenario.scenarios.Scenario.{Scenario}
use Rattle.sc_node_table.specs.NodeDefinitions.{NodeState, replica_of, ReplicaState, mailed}
use Rattle.sc_meaning.specs.sound.SoundDefinitions.{Player, player_table, births, as_nodes}
use Rattle.sc_live_steps.specs.calm.CalmDefinitions.{players, Rows}
use Rattle.sc_live_steps.specs.orders.OrderDefinitions.{works_in}
use Rattle.sc_live_journals.specs.rows.RowDefinitions.{view_at, IsSeat, with_event}
use Rattle.sc_live_journals.proofs.RowsProofs.RowLemmas.{view_others}
use Rattle.sc_live_journals.specs.groups.GroupDefinitions.{ScenariosAreWellBorn}
use Rattle.sc_live_journals.specs.scenes.SceneDefinitions.{IsWork, IsTaking}
use Rattle.sc_live_journals.proofs.ScenesProofs.SceneLemmas.{calm_is}
use Rattle.sc_live_answers.specs.AnswerDefinitions.{Task, Does, DoesBy, CreatesBy, IsAtWork, SaysWork, AreAtWork, IsGuidedRow, DeliveriesKeepWork, WorkStandsAlone}
use Rattle.sc_live_answers.proofs.WorkProofs.Affairs.{Affair, BeginsFree, Says, IsGood, AreGood}
use Rattle.sc_live_answers.proofs.WorkProofs.AffairParts.{Kids}
use Rattle.sc_live_answers.proofs.WorkProofs.WorkInRows.{HeldSo, RowHolds, delivery_holds, delivery_creates, delivery_unborn}
use Rattle.sc_live_answers.proofs.ChildrenProofs.UnknownChildren.{IsUnborn, kid_unborn}
use Rattle.sc_live_answers.proofs.WorkProofs.OrderTasks.{affair_of, begins_free}
use Rattle.std.proofs.lemmas.Option.{same_Some}
use Rattle.sc_live_answers.proofs.ErrandsProofs.SentMailGroups.{each_filter}

-- what holds of an affair in a prefix
pub record AreHeld (a : Affair) (words : ℕ → ℕ → ℕ × ℕ) (births : List (Seat Player)) (rows : Rows) : Type 0 where
  pub replicas : (name : Draw) (who : ℕ) (r : ReplicaState) → view_at births rows name who ≡ Some r → HeldSo a name r
  pub mail : (who : ℕ) → is_born (players words births) who ≡ true → AreGood a (rest (players words births) rows who)

module _ (a : Affair) (words : ℕ → ℕ → ℕ × ℕ) (births : List (Seat Player)) (rows : Rows) (seat : Seat Player) (event : Event OrderLine) (timely : AreInTime (players words births) (with_event rows seat event)) where
  abbrev s : System Player Mail OrderLine
  s = players words births

  abbrev row : Row Mail OrderLine
  row = row_of player_table seat rows event

  -- a prefix goes on by what its row leaves and sends
  pub goes_on : RowHolds a words births rows seat event → AreHeld a words births rows → AreHeld a words births (with_event rows seat event)
  goes_on h k = record {
    replicas = λ name who r v. elim (cases_eq who seat.who) [
      | inl fact ↦ h.views name r (ap (view_at births (with_event rows seat event) name) (sym fact) ∙ v)
      | inr ne ↦ k.replicas name who r (sym (view_others births rows (row_of player_table seat rows event) name who ne) ∙ v)
    ];
    mail = λ who fact.
        subst (AreGood a) (sym (rest-calm s rows row who (in_time_tidy s rows (in_time_before s rows row timely)) (last_in_time s rows row timely).0))
        (Each-append (IsGood a) (drop (taken who row) (rest s rows who)) (mail_for s who row.sent) (Each-drop (IsGood a) (taken who row) (rest s rows who) (k.mail who fact))
        (each_filter (IsGood a) (λ (m : Mail). eqb (s.receiver m) who) row.sent h.good));
  }

-- the mail that a delivery takes
module _ (words : ℕ → ℕ → ℕ × ℕ) (births : List (Seat Player)) (rows : Rows) (seat : Seat Player) (number : ℕ) (born : IsSeat births seat) (timely : AreInTime (players words births) (with_event rows seat (Deliver number))) where
  first : TakesFirst (players words births) rows seat.who number
  first =
      takes_first (players words births) rows seat.who number (in_time_tidy (players words births) rows (in_time_before (players words births) rows (row_of player_table seat rows (Deliver number)) timely)) (is_born-from (players words births) seat.who seat born)
      (calm_is words births rows seat (Deliver number) (last_in_time (players words births) rows (row_of player_table seat rows (Deliver number)) timely).0)

  -- so what holds of all mail under way holds of it
  pub takes_one : (P : Mail → Type 0) → Each P (rest (players words births) rows seat.who) → (mail : Mail) → numbered (mails rows) number ≡ Some mail → P mail
  takes_one P all mail at = subst P (same_Some first.mail mail (sym first.sent ∙ at)) (subst (Each P) first.first all).0

  pub taken_mail : (mail : Mail) × (numbered (mails rows) number ≡ Some mail)
  taken_mail = (first.mail, first.sent)

module _ (well : ScenariosAreWellBorn) (a : Affair) (begins : BeginsFree a) (words : ℕ → ℕ → ℕ × ℕ) (scenario : Scenario) (rows : Rows) (seat : Seat Player) (number : ℕ) (g : IsGuidedRow words scenario rows seat number) (k : AreHeld a words (births as_nodes scenario) rows) where
  abbrev all : List (Seat Player)
  all = births as_nodes scenario

  good_mail : (mail : Mail) → numbered (mails rows) number ≡ Some mail → IsGood a mail
  good_mail mail at = takes_one words (births as_nodes scenario) rows seat number g.seated g.timely (IsGood a) (k.mail seat.who (is_born-from (players words (births as_nodes scenario)) seat.who seat g.seated)) mail at

  pub keeps : AreHeld a words (births as_nodes scenario) (with_event rows seat (Deliver number))
  keeps =
      let t = taken_mail words (births as_nodes scenario) rows seat number g.seated g.timely in
      goes_on a words (births as_nodes scenario) rows seat (Deliver number) g.timely
      (delivery_holds well a begins words scenario rows seat number g.seated g.timely g.meets g.groups (λ name r v. k.replicas name seat.who r v) t.0 t.1 (good_mail t.0 t.1)) k

  pub creation : (mail : Mail) (group : Draw) (node : NodeState) (r : ReplicaState) → IsTaking words (births as_nodes scenario) rows seat number mail group node → replica_of group node.replicas ≡ Some r → Kids a group (mailed mail.from mail.body (r, [])).1
  creation mail group node r t here =
      delivery_creates well a begins words scenario rows seat number g.seated g.timely g.meets g.groups (λ name r v. k.replicas name seat.who r v) mail t.sent (good_mail mail t.sent) group node r t here

-- ---- of a task

-- what a mail says of a task is what it says of its affair
says_so : (n : ℕ) (b : Bool) (told child : Draw) (body : MailBody) → SaysWork (record { number = n; group = told; name = child; splitting = b }) body → Says (affair_of n b told child) body
says_so n false told child (Request group client seq op) q = q
says_so n false told child _ q = q
says_so n true told child _ q = q

says_back : (n : ℕ) (b : Bool) (told child : Draw) (body : MailBody) → Says (affair_of n b told child) body → SaysWork (record { number = n; group = told; name = child; splitting = b }) body
says_back n false told child (Request group client seq op) q = q
says_back n false told child _ q = q
says_back n true told child _ q = q

held_so : (n : ℕ) (b : Bool) (told child name : Draw) (r : ReplicaState) → IsAtWork (record { number = n; group = told; name = child; splitting = b }) name r → HeldSo (affair_of n b told child) name r
held_so n true told child name r k = (k.backlog, k.acts, k.flights, k.ready, k.state)
held_so n false told child name r k = (k.backlog, k.acts, k.flights, k.ready, k.state)

held_back : (n : ℕ) (b : Bool) (told child name : Draw) (r : ReplicaState) → HeldSo (affair_of n b told child) name r → IsAtWork (record { number = n; group = told; name = child; splitting = b }) name r
held_back n true told child name r k = record { backlog = k.0; acts = k.1; flights = k.2; ready = k.3; state = k.4 }
held_back n false told child name r k = record { backlog = k.0; acts = k.1; flights = k.2; ready = k.3; state = k.4 }

-- a child that its group did not know
module _ (well : ScenariosAreWellBorn) (words : ℕ → ℕ → ℕ × ℕ) (scenario : Scenario) (rows : Rows) (seat : Seat Player) (number : ℕ) (g : IsGuidedRow words scenario rows seat number) where
  unborn_by : (n : ℕ) (b : Bool) (told child : Draw) → AreHeld (affair_of n b told child) words (births as_nodes scenario) rows → (mail : Mail) (group : Draw) (node : NodeState) (r : ReplicaState) → IsTaking words (births as_nodes scenario) rows seat number mail group node
      → replica_of group node.replicas ≡ Some r → Each (λ (kid : Base). CreatesBy b told child group kid × IsUnborn r.group.core.born kid) (mailed mail.from mail.body (r, [])).1
  unborn_by n true told child k mail group node r t here =
      delivery_unborn well (affair_of n true told child) (begins_free n true told child) words scenario rows seat number g.seated g.timely g.meets g.groups (λ name x v. k.replicas name seat.who x v) mail t.sent (good_mail well (affair_of n true told child) (begins_free n true told child) words scenario rows seat number g k mail t.sent)
      (λ name x command kid s e. kid_unborn told child name x command kid s.0 e) group node r t here
  unborn_by n false told child k mail group node r t here =
      Each-weaker (λ (kid : Base). CreatesBy false told child group kid) (λ (kid : Base). CreatesBy false told child group kid × IsUnborn r.group.core.born kid) (λ kid bad. absurd bad) (mailed mail.from mail.body (r, [])).1
      (creation well (affair_of n false told child) (begins_free n false told child) words scenario rows seat number g k mail group node r t here)

module _ (task : Task) (words : ℕ → ℕ → ℕ × ℕ) (births : List (Seat Player)) (rows : Rows) where
  pub work_held : AreAtWork task words births rows → AreHeld (affair_of task.number task.splitting task.group task.name) words births rows
  work_held k = record {
    replicas = λ name who r v. held_so task.number task.splitting task.group task.name name r (k.replicas name who r v);
    mail = λ who fact. Each-weaker (λ (mail : Mail). SaysWork task mail.body) (IsGood (affair_of task.number task.splitting task.group task.name)) (λ mail q. says_so task.number task.splitting task.group task.name mail.body q) (rest (players words births) rows who) (k.mail who fact);
  }

  pub held_work : AreHeld (affair_of task.number task.splitting task.group task.name) words births rows → AreAtWork task words births rows
  held_work k = record {
    replicas = λ name who r v. held_back task.number task.splitting task.group task.name name r (k.replicas name who r v);
    mail = λ who fact. Each-weaker (IsGood (affair_of task.number task.splitting task.group task.name)) (λ (mail : Mail). SaysWork task mail.body) (λ mail q. says_back task.number task.splitting task.group task.name mail.body q) (rest (players words births) rows who) (k.mail who fact);
  }

pub deliveries_keep : ScenariosAreWellBorn → DeliveriesKeepWork
deliveries_keep well = record {
  keeps = λ words scenario rows seat number task g k.
      held_work task words (births as_nodes scenario) (with_event rows seat (Deliver number)) (keeps well (affair_of task.number task.splitting task.group task.name) (begins_free task.number task.splitting task.group task.name) words scenario rows seat number g (work_held task words (births as_nodes scenario) rows k));
  creation = λ words scenario rows seat number task g k mail group node r t here.
      unborn_by well words scenario rows seat number g task.number task.splitting task.group task.name (work_held task words (births as_nodes scenario) rows k) mail group node r t here;
  unasked = λ words births rows seat number task born timely k mail group client seq op at e.
      subst (SaysWork task) e (takes_one words births rows seat number born timely (λ (m : Mail). SaysWork task m.body) (k.mail seat.who (is_born-from (players words births) seat.who seat born)) mail at);
  unanswered = λ words births rows seat number task born timely k mail group seq answer at e.
      subst (SaysWork task) e (takes_one words births rows seat number born timely (λ (m : Mail). SaysWork task m.body) (k.mail seat.who (is_born-from (players words births) seat.who seat born)) mail at);
}

-- ---- what stands is work

does_work : (b : Bool) (told child name : Draw) (command : Command) → DoesBy b told child name command → IsWork command
does_work true told child name Noop d = absurd d
does_work false told child name Noop d = absurd d
does_work true told child name (Call client seq op) d = absurd d
does_work false told child name (Call client seq op) d = absurd d
does_work b told child name _ d = (_, refl)

-- So nothing but work is in flight or ready at a replica.
pub stands_alone : WorkStandsAlone
stands_alone = record {
  alone = λ task name r k. record {
    flights = Each-weaker (λ flight. Does task name flight.value) (λ flight. IsWork flight.value) (λ flight d. does_work task.splitting task.group task.name name flight.value d.0) r.leader.flights k.flights;
    ready = Each-weaker (λ (entry : ℕ × Command). Does task name entry.1) (λ (entry : ℕ × Command). IsWork entry.1) (λ entry d. does_work task.splitting task.group task.name name entry.1 d.0) r.ready k.ready;
  };
  rests = λ r rest none. (ap works_in rest.acts, ap works_in rest.backlog);
}
