-- What the logs of a journal decide, and the groups that they name, have the names that stand in mail.
use Rattle.std.proofs.Common.{ℕ, zero, suc, ◌&&◌, List, [], ◌∷◌, ◌++◌, length, fold, Option, Some, None}
use Rattle.std.specs.List.{flat_map, list_any}
use Rattle.std.specs.Option.{option_to_list}
use Rattle.sc_base.specs.Definitions.{Each, same_draw}
use Rattle.sc_node_table.specs.Values.{Draw, Row, Body, Command, Split, RecordWatch, Base, Core, Lock, Free, Coordinating, Promised, Watching, Effect, OrderLine, Mail, MailBody, Accept}
use Rattle.sc_words.specs.commands.CommandDefinitions.{is_changed, is_divided, is_alone}
use Rattle.sc_actor.specs.Definitions.{mails}
use Rattle.sc_words.specs.declared.commands.bodies.Body.TheVariants as At
use Rattle.sc_meaning.specs.declared.entries.Division.{Division}
use Rattle.sc_meaning.specs.entries.EntryDefinitions.{division_by, division_in, division_of, birth_of}
use Rattle.sc_group_table.specs.machine.MachineDefinitions.{Group, group_of, applied, child_of}
use Rattle.sc_paxos_law.specs.PaxosLawDefinitions.{Step, Promised, Accepted}
use Rattle.sc_words.proofs.PaxosProofs.PaxosLemmas.{Each-append}
use Rattle.sc_meaning.specs.sound.SoundDefinitions.{Ahead, is_accepted, accepts_of, children_of, children_by, is_birth_of, with_birth, with_descendants, decided_log}
use Rattle.sc_scenario.specs.declared.scenario.scenarios.Scenario.{Scenario}
use Rattle.sc_law_entries.specs.names.NameDefinitions.{AllDecided, Rows, Opt, BodyNames, LockNames, CoreNames, CommandNames, MailNames, BodiesNames}
use Rattle.sc_law_entries.proofs.NamesProofs.EachFound.{opt_map}
use Rattle.sc_law_entries.proofs.NamesProofs.AcceptedLogs.{IsAcceptedAs, decided_hold}
use Rattle.sc_law_entries.proofs.NamesProofs.Machine.{applied_names, child_names}
use Rattle.sc_law_walks.proofs.WalkLemmas.{either_way}

module _ (K : Draw → Type 0) where
  abbrev Ms : List Mail → Type 0
  Ms mail = Each (MailNames K) mail

  abbrev Cs : List Command → Type 0
  Cs commands = Each (CommandNames K) commands

  -- ---- what is decided

  of_names : (group : Draw) (row : Row Mail OrderLine) (body : MailBody) → BodiesNames K body → Each (IsAcceptedAs (CommandNames K)) (accepts_of group row body)
  of_names group row (Accept g ballot slot command) b =
      either_way (λ (steps : List (Step Command)). Each (IsAcceptedAs (CommandNames K)) steps) (same_draw g group && list_any (λ mail. is_accepted g ballot slot mail.body) row.sent) (Accepted row.who ballot slot command ∷ []) [] (b.1, tt) tt
  of_names group row _ b = tt

  -- the decided log of a group
  pub log_names : (ahead : Ahead) (base : Base) (rows : Rows) → Ms (mails rows) → Cs (decided_log ahead base rows)
  log_names ahead base rows m = decided_hold (CommandNames K) (MailNames K) ahead base rows (λ row mail q. of_names base.core.id row mail.body q.body) m

  -- ---- the groups that logs name

  abbrev Divides : Option Division → Type 0
  Divides o = Opt (λ (division : Division). K division.child) o

  by_names : (body : Body) → BodyNames K body → Divides (division_by body)
  by_names At.Merge b = tt
  by_names (At.Repart at) b = tt
  by_names (At.Migrate node) b = tt
  by_names (At.Split at child) b = b

  in_names : (lock : Lock) → LockNames K lock → Divides (division_in lock)
  in_names Free l = tt
  in_names (Coordinating tx body order heard) l = by_names body l.1
  in_names (Promised tx offer) l = tt
  in_names (Watching tx watch) l = tt

  division_names : (core : Core) (command : Command) (effect : Effect) → CoreNames K core → CommandNames K command → Divides (division_of core command effect)
  division_names core (Split at child order) effect k c = either_way Divides (is_changed effect && is_alone core) (Some (record { at = at; child = child })) None c tt
  division_names core (RecordWatch tx vote by) effect k c = either_way Divides (is_divided effect) (division_in core.lock) None (in_names core.lock k.lock) tt
  division_names core _ effect k c = tt

  abbrev Bases : List Base → Type 0
  Bases bases = Each (λ (base : Base). CoreNames K base.core) bases

  listed_names : (o : Option Base) → Opt (λ (base : Base). CoreNames K base.core) o → Bases (option_to_list o)
  listed_names None c = tt
  listed_names (Some base) c = (c, tt)

  birth_names : (group : Group) (command : Command) (effect : Effect) → CoreNames K group.core → CommandNames K command → Opt (λ (base : Base). CoreNames K base.core) (birth_of group command effect)
  birth_names group command effect k c =
      opt_map (λ (division : Division). K division.child) (λ (base : Base). CoreNames K base.core) (λ division. child_of group division.at division.child) (λ division d. child_names K group division.at division.child d k)
      (division_of group.core command effect) (division_names group.core command effect k c)

  kids_names : (group : Group) (log : List Command) → CoreNames K group.core → Cs log → Bases (children_of group log)
  kids_names group [] k c = tt
  kids_names group (command ∷ commands) k c =
      Each-append (λ (base : Base). CoreNames K base.core) (option_to_list (birth_of group command (applied group command).1)) (children_of (applied group command).0 commands)
      (listed_names (birth_of group command (applied group command).1) (birth_names group command (applied group command).1 k c.0))
      (kids_names (applied group command).0 commands (applied_names K group command k c.0).core c.1)

  module _ (ahead : Ahead) (rows : Rows) (m : Ms (mails rows)) where
    kids_of : (bases : List Base) → Bases bases → Bases (flat_map (children_by ahead rows) bases)
    kids_of [] b = tt
    kids_of (base ∷ bases) b =
        Each-append (λ (x : Base). CoreNames K x.core) (children_by ahead rows base) (flat_map (children_by ahead rows) bases)
        (kids_names (group_of base) (decided_log ahead base rows) b.0 (log_names ahead base rows m)) (kids_of bases b.1)

    births_names : (bases more : List Base) → Bases bases → Bases more → Bases (fold with_birth bases more)
    births_names bases [] b c = b
    births_names bases (base ∷ more) b c =
        births_names (with_birth bases base) more
        (either_way Bases (list_any (is_birth_of base.core.id) bases) bases (bases ++ base ∷ []) b (Each-append (λ (x : Base). CoreNames K x.core) bases (base ∷ []) b (c.0, tt))) c.1

    descendants_names : (bases : List Base) (depth : ℕ) → Bases bases → Bases (with_descendants ahead rows depth bases)
    descendants_names bases zero b = b
    descendants_names bases (suc depth) b =
        let so_far : List Base = with_descendants ahead rows depth bases in
        let known = descendants_names bases depth b in
        births_names so_far (flat_map (children_by ahead rows) so_far) known (kids_of so_far known)

    -- all that is decided
    pub decided_names : (scenario : Scenario) → Bases scenario.groups → AllDecided K ahead scenario rows
    decided_names scenario b = record { groups = descendants_names scenario.groups (length rows) b; logs = λ base. log_names ahead base rows m }
