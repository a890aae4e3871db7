-- What holds of each command that the mail of a journal makes accepted holds of each command in the decided log of a group.
use Rattle.std.proofs.Common.{ℕ, zero, suc, ◌+◌, ◌&&◌, eqb, List, [], ◌∷◌, ◌++◌, length, Option, Some, None}
use Rattle.sc_base.specs.Definitions.{Each, is_majority}
use Rattle.sc_node_table.specs.Values.{Draw, Row, Event, Deliver, Base, Command, OrderLine, Mail, Report}
use Rattle.sc_actor.specs.Definitions.{mails, numbered}
use Rattle.sc_paxos_law.specs.PaxosLawDefinitions.{Rule, members_of, voters_of, lesser_of, found_in, chosen_at, top_slot, with_next_entries, Step, Prepared, Promised, Offered, Accepted, Cut}
use Rattle.sc_words.proofs.PaxosProofs.PaxosLemmas.{Each-append, Each-split}
use Rattle.sc_words.specs.paxos.PaxosDefinitions.{below}
use Rattle.sc_meaning.specs.sound.SoundDefinitions.{Ahead, accepts_of, accepts_got, accepts_at, accepts_from, accepts, rule_of, decided_log}
use Rattle.sc_law_entries.specs.names.NameDefinitions.{Rows, Opt}
use Rattle.sc_law_entries.proofs.NamesProofs.EachFound.{opt_map, opt_get}
use Rattle.sc_law_walks.proofs.WalkLemmas.{either_way}

-- a command that is accepted in a step of a group is such a one
abbrev pub IsAcceptedAs : (Command → Type 0) → Step Command → Type 0
IsAcceptedAs G (Prepared b start) = Unit {0}
IsAcceptedAs G (Promised n b start reports) = Unit {0}
IsAcceptedAs G (Offered b slot command) = Unit {0}
IsAcceptedAs G (Accepted n b slot command) = G command
IsAcceptedAs G (Cut n upto) = Unit {0}

-- ---- what is decided

module _ (G : Command → Type 0) where
  abbrev Steps : List (Step Command) → Type 0
  Steps steps = Each (IsAcceptedAs G) steps

  abbrev Found : Option (Report Command) → Type 0
  Found o = Opt (λ (report : Report Command). G report.value) o

  lesser_holds : (here : Report Command) (o : Option (Report Command)) → G here.value → Found o → G (lesser_of here o).value
  lesser_holds here None h f = h
  lesser_holds here (Some least) h f = either_way (λ (report : Report Command). G report.value) (below least.ballot here.ballot) least here f h

  found_holds : (members : List ℕ) (all : List (Step Command)) (slot : ℕ) (steps : List (Step Command)) → Steps steps → Found (found_in members all slot steps)
  found_holds members all slot [] s = tt
  found_holds members all slot (Prepared b start ∷ older) s = found_holds members all slot older s.1
  found_holds members all slot (Promised n b start reports ∷ older) s = found_holds members all slot older s.1
  found_holds members all slot (Offered b at command ∷ older) s = found_holds members all slot older s.1
  found_holds members all slot (Accepted n b at command ∷ older) s =
      let here : Report Command = record { slot = at; ballot = b; value = command } in
      either_way Found (eqb at slot && is_majority members (voters_of all b slot)) (Some (lesser_of here (found_in members all slot older))) (found_in members all slot older)
      (lesser_holds here (found_in members all slot older) s.0 (found_holds members all slot older s.1)) (found_holds members all slot older s.1)
  found_holds members all slot (Cut n upto ∷ older) s = found_holds members all slot older s.1

  chosen_holds : (members : List ℕ) (h : List (Step Command)) (slot : ℕ) → Steps h → Opt G (chosen_at members h slot)
  chosen_holds members h slot s = opt_map (λ (report : Report Command). G report.value) G (λ (report : Report Command). report.value) (λ report c. c) (found_in members h slot h) (found_holds members h slot h s)

  next_by : (rule : Rule Command) (h : List (Step Command)) (more : ℕ) (log : List Command) (o : Option Command) → Opt G o → Each G log → ((longer : List Command) → Each G longer → Each G (with_next_entries rule h more longer))
      → Each G (elim o [ None ↦ log | Some value ↦ with_next_entries rule h more (log ++ value ∷ []) ])
  next_by rule h more log None c l keep = l
  next_by rule h more log (Some command) c l keep = keep (log ++ command ∷ []) (Each-append G log (command ∷ []) l (c, tt))

  next_hold : (rule : Rule Command) (h : List (Step Command)) (more : ℕ) (log : List Command) → Steps h → Each G log → Each G (with_next_entries rule h more log)
  next_hold rule h zero log s l = l
  next_hold rule h (suc more) log s l =
      next_by rule h more log (chosen_at (members_of rule log (length log + 1)) h (length log + 1)) (chosen_holds (members_of rule log (length log + 1)) h (length log + 1) s) l
      (λ longer c. next_hold rule h more longer s c)

-- ---- what is accepted: M holds of each mail of the journal, and so G of what a delivery of it makes accepted

module _ (G : Command → Type 0) (M : Mail → Type 0) (group : Draw) (accepted : (row : Row Mail OrderLine) (mail : Mail) → M mail → Each (IsAcceptedAs G) (accepts_of group row mail.body)) where
  got_holds : (row : Row Mail OrderLine) (o : Option Mail) → Opt M o → Each (IsAcceptedAs G) (accepts_got group row o)
  got_holds row None m = tt
  got_holds row (Some mail) m = accepted row mail m

  numbered_holds : (sent : List Mail) (number : ℕ) → Each M sent → Opt M (numbered sent number)
  numbered_holds sent zero m = tt
  numbered_holds sent (suc place) m = opt_get M sent place m

  at_holds : (sent : List Mail) (row : Row Mail OrderLine) (event : Event OrderLine) → Each M sent → Each (IsAcceptedAs G) (accepts_at group sent row event)
  at_holds sent row (Deliver number) m = got_holds row (numbered sent number) (numbered_holds sent number m)
  at_holds sent row _ m = tt

  from_hold : (sent : List Mail) (rows : Rows) (steps : List (Step Command)) → Each M sent → Each M (mails rows) → Each (IsAcceptedAs G) steps → Each (IsAcceptedAs G) (accepts_from group sent rows steps)
  from_hold sent [] steps m more s = s
  from_hold sent (row ∷ rows) steps m more s =
      let parts = Each-split M row.sent (mails rows) more in
      from_hold (sent ++ row.sent) rows (accepts_at group sent row row.event ++ steps) (Each-append M sent row.sent m parts.0) parts.1
      (Each-append (IsAcceptedAs G) (accepts_at group sent row row.event) steps (at_holds sent row row.event m) s)

-- the decided log of a group
pub decided_hold : (G : Command → Type 0) (M : Mail → Type 0) (ahead : Ahead) (base : Base) (rows : Rows) → ((row : Row Mail OrderLine) (mail : Mail) → M mail → Each (IsAcceptedAs G) (accepts_of base.core.id row mail.body)) → Each M (mails rows) → Each G (decided_log ahead base rows)
decided_hold G M ahead base rows accepted m =
    next_hold G (rule_of ahead base) (accepts base.core.id rows) (top_slot (accepts base.core.id rows)) [] (from_hold G M base.core.id accepted [] rows [] tt m tt) tt
