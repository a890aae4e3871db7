-- What children a group knows after some entries.
use Rattle.std.proofs.Common.{◌≡◌, ◌⊎◌, ℕ, zero, suc, true, cond, List, [], ◌∷◌, ◌++◌, take, Option, Some, None, inl, inr, refl, sym, ◌∙◌, ap, subst}
use Rattle.std.specs.Option.{option_to_list}
use Rattle.std.proofs.lemmas.Bool.{cond_both}
use Rattle.sc_base.specs.Definitions.{Among, is_member}
use Rattle.sc_node_table.specs.Values.{Draw, Command, Base}
use Rattle.sc_meaning.specs.entries.EntryDefinitions.{birth_of}
use Rattle.sc_meaning.proofs.EntriesProofs.EntryLemmas.{births_are_children}
use Rattle.sc_group_table.specs.machine.MachineDefinitions.{child_by, Group, state_after, applied}
use Rattle.sc_node_table.specs.NodeDefinitions.{child_at}
use Rattle.sc_meaning.specs.sound.SoundDefinitions.{children_of}
use Rattle.sc_live_steps.proofs.OrderStepsProofs.OrderStepLemmas.{among-left, among-right}
use Rattle.sc_live_answers.proofs.ChildrenProofs.KnownChildren.{HasCreated, stays_born, creates_child, new_born}
use Rattle.sc_live_answers.proofs.LedMailProofs.MailEntries.{kids_of}
use Rattle.sc_paxos_law.proofs.Lemmas.{Among-either}

-- it forgets none
pub log_stays : (name : Draw) (group : Group) (log : List Command) → HasCreated name group.core.born → HasCreated name (state_after group log).core.born
log_stays name group [] has = has
log_stays name group (command ∷ log) has = log_stays name (applied group command).0 log (stays_born group command name has)

-- a child that is made is the one that the entry creates
child_is : (me : ℕ) (o : Option Base) (kid : Base) → Among kid (child_at me o) → o ≡ Some kid
child_is me None kid fact = absurd fact
child_is me (Some child) kid fact =
    cond_both (is_member child.core.members me) (child ∷ []) [] (λ (xs : List Base). Among kid xs → Some child ≡ Some kid) (λ _ a. elim a [ inl e ↦ ap Some e | inr bad ↦ absurd bad ]) (λ _ a. absurd a) fact

-- a child that the entry names, with the node for a member, is made
pub child_made : (me : ℕ) (kid : Base) → is_member kid.core.members me ≡ true → child_at me (Some kid) ≡ kid ∷ []
child_made me kid fact = ap (λ b. cond b (kid ∷ []) []) fact

-- it knows each that is made
pub kids_known : (me : ℕ) (group : Group) (log : List Command) (kid : Base) → Among kid (kids_of me group log) → HasCreated kid.core.id (state_after group log).core.born
kids_known me group [] kid fact = absurd fact
kids_known me group (command ∷ log) kid fact = elim (Among-either kid (child_at me (child_by group command)) (kids_of me (applied group command).0 log) fact) [
  | inl a ↦ log_stays kid.core.id (applied group command).0 log (creates_child group command kid (child_is me (child_by group command) kid a))
  | inr b ↦ kids_known me (applied group command).0 log kid b
]

-- what it knows new is a child of its log
pub log_gains : (name : Draw) (group : Group) (log : List Command) → HasCreated name (state_after group log).core.born → HasCreated name group.core.born ⊎ ((kid : Base) × Among kid (children_of group log) × (kid.core.id ≡ name))
log_gains name group [] has = inl has
log_gains name group (command ∷ log) has = by (log_gains name (applied group command).0 log has)
  where
    by : HasCreated name (applied group command).0.core.born ⊎ ((kid : Base) × Among kid (children_of (applied group command).0 log) × (kid.core.id ≡ name)) → HasCreated name group.core.born ⊎ ((kid : Base) × Among kid (children_of group (command ∷ log)) × (kid.core.id ≡ name))
    by (inr (kid, a, e)) = inr (kid, among-right kid (option_to_list (birth_of group command (applied group command).1)) (children_of (applied group command).0 log) a, e)
    by (inl k) = elim (new_born group command name k) [
      | inl b ↦ inl b
      | inr b ↦ inr (
        b.0,
        among-left b.0 (option_to_list (birth_of group command (applied group command).1)) (children_of (applied group command).0 log)
            (subst (λ (o : Option Base). Among b.0 (option_to_list o)) (sym (sym (births_are_children group command) ∙ b.1)) (inl refl)),
        b.2,
      )
    ]

-- ---- one entry more of a log

-- an entry more, or none is left
pub take_more : (k : ℕ) (log : List Command) → (take (suc k) log ≡ take k log) ⊎ ((command : Command) × (take (suc k) log ≡ take k log ++ command ∷ []))
take_more zero [] = inl refl
take_more zero (c ∷ log) = inr (c, refl)
take_more (suc k) [] = inl refl
take_more (suc k) (c ∷ log) = elim (take_more k log) [ inl e ↦ inl (ap (λ l. c ∷ l) e) | inr e ↦ inr (e.0, ap (λ l. c ∷ l) e.1) ]

-- the child of the last entry is one of the log's
pub last_child : (group : Group) (log : List Command) (command : Command) (kid : Base) → child_by (state_after group log) command ≡ Some kid → Among kid (children_of group (log ++ command ∷ []))
last_child group [] command kid e =
    among-left kid (option_to_list (birth_of group command (applied group command).1)) [] (subst (λ (o : Option Base). Among kid (option_to_list o)) (sym (sym (births_are_children group command) ∙ e)) (inl refl))
last_child group (c ∷ log) command kid e = among-right kid (option_to_list (birth_of group c (applied group c).1)) (children_of (applied group c).0 (log ++ command ∷ [])) (last_child (applied group c).0 log command kid e)
