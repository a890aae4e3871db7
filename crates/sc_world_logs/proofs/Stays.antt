-- A group is known by rows, and stays known with one more.
use Rattle.std.proofs.Common.{◌≡◌, List, sym, ap, subst}
use Rattle.sc_words.specs.declared.commands.commands.Command.{Command}
use Rattle.sc_words.specs.declared.commands.cores.Base.{Base}
use Rattle.sc_words.specs.declared.commands.orders.OrderLine.{OrderLine}
use Rattle.sc_mail.specs.declared.bodies.Mail.{Mail}
use Rattle.sc_actor.specs.declared.rows.Row.{Row}
use Rattle.sc_group_table.specs.machine.Group.{group_of}
use Rattle.sc_meaning.specs.sound.Players.{as_nodes}
use Rattle.sc_paxos_law.specs.Steps.{Step}
use Rattle.sc_meaning.specs.sound.Accepts.{accepts}
use Rattle.sc_meaning.specs.sound.GroupsOf.{children_of}
use Rattle.sc_meaning.specs.sound.Logs.{rule_of}
use Rattle.sc_world_logs.specs.Known.{Agrees, KeepsChildren, NothingFollows, IsKnown, StaysKnown}
use Rattle.sc_world_logs.specs.declared.known.Known.{Known}

-- what agrees with all that was accepted for a group determines it
pub known_is : (rows : List (Row Mail OrderLine)) (base : Base) (known : Known) → Agrees (accepts base.core.id rows) known → known.base ≡ base → NothingFollows (rule_of as_nodes known.base) (accepts base.core.id rows) known.log.items
    → KeepsChildren known → IsKnown rows known
known_is rows base known agrees is ends children =
    let same : accepts base.core.id rows ≡ accepts known.base.core.id rows = ap (λ (b : Base). accepts b.core.id rows) (sym is) in
    record {
      agrees = subst (λ (h : List (Step Command)). Agrees h known) same agrees;
      children = children;
      ends = subst (λ (h : List (Step Command)). NothingFollows (rule_of as_nodes known.base) h known.log.items) same ends;
    }

-- so it is known with one more
pub later_known : (rows after : List (Row Mail OrderLine)) (old new : Known) (h : List (Step Command)) → new.base ≡ old.base → accepts old.base.core.id after ≡ h → Agrees h new → NothingFollows (rule_of as_nodes new.base) h new.log.items → KeepsChildren new
    → IsKnown after new
later_known rows after old new h is all agrees ends kept =
    known_is after old.base new (subst (λ (steps : List (Step Command)). Agrees steps new) (sym all) agrees) is
    (subst (λ (steps : List (Step Command)). NothingFollows (rule_of as_nodes new.base) steps new.log.items) (sym all) ends) kept

-- so it stays known
pub stays_known : (rows after : List (Row Mail OrderLine)) (old new : Known) (h : List (Step Command)) → new.base ≡ old.base → accepts old.base.core.id after ≡ h → Agrees h new → NothingFollows (rule_of as_nodes new.base) h new.log.items → KeepsChildren new
    → children_of (group_of new.base) new.log.items ≡ children_of (group_of old.base) old.log.items → StaysKnown rows after old new
stays_known rows after old new h is all agrees ends kept children = record {
  fact = later_known rows after old new h is all agrees ends kept;
  base_is = is;
  children_are = children;
}
