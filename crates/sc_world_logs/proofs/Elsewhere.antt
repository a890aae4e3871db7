-- What a row accepts for other groups, and for the one that it names.
use Rattle.std.proofs.Common.{◌≡◌, true, false, List, [], ◌∷◌, ◌++◌, Some, inl, inr, sym, ◌∙◌, ap, subst}
use Rattle.std.proofs.lemmas.Bool.{cases_Bool, cond-true, cond-false}
use Rattle.sc_base.proofs.NameLemmas.{draw_is, same_name}
use Rattle.sc_base.specs.Same.{same_draw}
use Rattle.sc_base.specs.declared.names.Draw.{Draw}
use Rattle.sc_words.specs.declared.commands.commands.Command.{Command}
use Rattle.sc_words.specs.declared.commands.orders.OrderLine.{OrderLine}
use Rattle.sc_mail.specs.declared.bodies.Mail.{Mail}
use Rattle.sc_actor.specs.declared.rows.Row.{Row}
use Rattle.sc_meaning.specs.sound.Players.{as_nodes}
use Rattle.sc_paxos_law.specs.Steps.{Step}
use Rattle.sc_meaning.specs.sound.Accepts.{accepts}
use Rattle.sc_meaning.specs.sound.Logs.{rule_of}
use Rattle.sc_world_logs.specs.Acceptances.{step_of, steps_by}
use Rattle.sc_world_logs.specs.Known.{Adds, Agrees, NothingFollows, IsKnown}
use Rattle.sc_world_logs.specs.declared.accepting.Acceptance.{Acceptance}
use Rattle.sc_world_logs.specs.declared.known.Known.{Known}

-- nothing is accepted for a group with another name
pub accepts_elsewhere : (name : Draw) (acceptance : Acceptance) (rows after : List (Row Mail OrderLine)) → Adds (Some (name, acceptance)) rows after → (group : Draw) → same_draw group name ≡ false
    → accepts group after ≡ accepts group rows
accepts_elsewhere name acceptance rows after adds group other =
    let nothing : steps_by group (Some (name, acceptance)) ≡ [] = elim (cases_Bool (same_draw name group)) [
      | inl t ↦ (
          let same : same_draw group name ≡ true = same_name group name (sym (draw_is name group t)) in
          let never : true ≡ false = sym same ∙ other in
          cc)
      | inr f ↦ cond-false (same_draw name group) (step_of acceptance ∷ []) [] f
    ] in
    adds group ∙ ap (λ (steps : List (Step Command)). steps ++ accepts group rows) nothing

-- what is accepted for a group with this name is the newest step
pub accepts_here : (name : Draw) (acceptance : Acceptance) (rows after : List (Row Mail OrderLine)) → Adds (Some (name, acceptance)) rows after → (group : Draw) → same_draw group name ≡ true
    → accepts group after ≡ step_of acceptance ∷ accepts group rows
accepts_here name acceptance rows after adds group here =
    let same : same_draw name group ≡ true = same_name name group (sym (draw_is group name here)) in
    adds group ∙ ap (λ (steps : List (Step Command)). steps ++ accepts group rows) (cond-true (same_draw name group) (step_of acceptance ∷ []) [] same)

-- what is known of a group is known after a row that accepts nothing for it
pub known_elsewhere : (rows after : List (Row Mail OrderLine)) (known : Known) → accepts known.base.core.id after ≡ accepts known.base.core.id rows → IsKnown rows known → IsKnown after known
known_elsewhere rows after known same is = record {
  agrees = subst (λ (h : List (Step Command)). Agrees h known) (sym same) is.agrees;
  children = is.children;
  ends = subst (λ (h : List (Step Command)). NothingFollows (rule_of as_nodes known.base) h known.log.items) (sym same) is.ends;
}
