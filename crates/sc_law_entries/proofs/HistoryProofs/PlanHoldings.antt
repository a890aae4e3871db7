-- What the machine's plans make of what groups hold.
use Rattle.std.proofs.Common.{◌≡◌, ℕ, true, false, refl, ap, ◌∙◌}
use Rattle.std.proofs.lemmas.Bool.{cond-true, cond-false}
use Rattle.std.specs.FinMap.{empty, entries}
use Rattle.sc_base.specs.Definitions.{Arc, before, from, holds, joined}
use Rattle.sc_base.specs.declared.names.Draw.{Draw}
use Rattle.sc_words.specs.declared.commands.bodies.Offer.{Offer}
use Rattle.sc_words.specs.ideal.IdealDefinitions.{ClientTable, joined_with, Contents, part_of, with_pairs}
use Rattle.sc_group_table.specs.machine.MachineDefinitions.{Group}
use Rattle.sc_group_table.proofs.MachineProofs.Lemmas.{clients_again, pairs_again}
use Rattle.sc_law_entries.specs.history.HistoryDefinitions.{Holding, DividesHolding, GivesHolding, PlansAreMoves, TakesHolding}

abbrev held : Arc → Contents → ClientTable → Holding
held arc pairs clients = record { arc = arc; pairs = pairs; clients = clients }

-- a split at once, or with a watcher
divides : (group : Group) (at : ℕ) (child : Draw) → DividesHolding group at child
divides group at child =
    let arc = from group.core.arc at in
    record {
      own = refl;
      rest = ap (λ pairs. held arc pairs (joined_with empty (entries group.clients))) (pairs_again (part_of arc group.pairs))
          ∙ ap (held arc (part_of arc group.pairs)) (clients_again group.clients);
    }

-- a boundary that moves, either way
gives : (group next : Group) (offer : Offer) (at : ℕ) → offer.arc ≡ group.core.arc → holds group.core.arc at ≡ true → GivesHolding group next offer at
gives group next offer at same here =
    let arc = group.core.arc in
    record {
      own = ap (λ a. held a (part_of (before arc at) group.pairs) group.clients) (cond-true (holds arc at) (before arc at) (joined arc (before next.core.arc at)) here);
      gained = ap (λ a. held (joined (from a at) next.core.arc) (with_pairs next.pairs (entries (part_of (from arc at) group.pairs))) (joined_with next.clients (entries group.clients))) same;
    }

takes : (group next : Group) (at : ℕ) → holds group.core.arc at ≡ false → TakesHolding group next at
takes group next at out =
    let arc = group.core.arc in
    let part = before next.core.arc at in
    record {
      own = ap (λ a. held a (with_pairs group.pairs (entries (part_of part (with_pairs empty (entries next.pairs))))) (joined_with group.clients (entries next.clients)))
          (cond-false (holds arc at) (before arc at) (joined arc part) out)
          ∙ ap (λ pairs. held (joined arc part) (with_pairs group.pairs (entries (part_of part pairs))) (joined_with group.clients (entries next.clients))) (pairs_again next.pairs);
      lost = refl;
    }

-- all of them
pub plans_move : PlansAreMoves
plans_move = record {
  served = λ group client seq op. refl;
  divides = divides;
  joins = λ group next. record { merged = refl; closing = refl };
  gives = gives;
  takes = takes;
  keeps = λ group. record {
    joined = λ node. refl;
    left = λ node. refl;
    migrated = λ node frozen. refl;
    welcomed = λ node. refl;
    watched = λ outcome watch. refl;
    decided = λ tx outcome. refl;
    freed = λ tx. refl;
  };
}
