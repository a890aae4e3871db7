use Rattle.std.proofs.Common.{◌≡◌, ℕ, List, [], refl, sym, ap, ◌∙◌, rules}
use Rattle.std.specs.Ordering.{nat_cmp}
use Rattle.std.specs.BTreeMap.{get_by}
use Rattle.sc_words.specs.declared.commands.commands.Command.{Command}
use Rattle.sc_group_table.specs.machine.Group.{group_of}
use Rattle.sc_paxos_law.specs.Steps.{Step}
use Rattle.sc_meaning.specs.sound.Accepts.{accepts}
use Rattle.sc_meaning.specs.sound.GroupsOf.{children_of}
use Rattle.sc_world_logs.specs.Acceptances.{steps_of}
use Rattle.sc_world_logs.specs.Indexes.{listed_in}
use Rattle.sc_world_logs.specs.declared.accepting.Acceptance.{Acceptance}
use Rattle.sc_world_logs.proofs.Grown.{matches_first}
use Rattle.sc_world_logs.proofs.Stays.{known_is}
use Rattle.sc_world_logs.proofs.known.known_from.Goals as goal

pub returns : goal.returns
returns c =
    let kept : ℕ → List Acceptance = λ slot. listed_in (λ at. at.items) (get_by (nat_cmp slot) c.in_ok-index.index) in
    let no_log : c.new-log.result.items ≡ [] = search rules in
    let no_members : c.new-members.result.items ≡ [] = search rules in
    let no_children : c.new-children.result.items ≡ [] = search rules in
    let recorded = λ (h : List (Step Command)) (all : steps_of c.args.found.items ≡ h).
    matches_first h c.args.base kept c.args.found.items c.new-log.result.items c.new-members.result.items c.in_ok-state.state c.in_ok-behind.behind no_log no_members all c.in_ok-index.ensures.index
    (c.in_ok-state.ensures ∙ ap group_of c.in_ok-one.ensures) (c.in_ok-behind.ensures ∙ ap group_of c.in_ok-other.ensures) in (
      (c.in_ok-_childless.ensures (steps_of c.args.found.items) (recorded (steps_of c.args.found.items) refl)).1,
      λ rows all. let done = c.in_ok-_childless.ensures (accepts c.args.base.core.id rows) (recorded (accepts c.args.base.core.id rows) all) in
          known_is rows c.args.base _ done.0 done.1 done.2 (done.3 (no_children ∙ ap (children_of (group_of c.args.base)) (sym no_log))),
    )
