-- What a quiet journal is, computed: behind a refused order the one member of a group leads, and its client has not started.
use Rattle.std.proofs.Common.{◌≡◌, ◌≤◌, ℕ, eqb, cond, true, false, true≢false, List, [], ◌∷◌, Option, Some, None, lit≤, inl, inr, refl, sym, ◌∙◌, ap, subst}
use Rattle.std.proofs.lemmas.Bool.{cases_Bool}
use Rattle.std.proofs.lemmas.Map.Views.{exact_unsigned_eq}
use Rattle.std.proofs.lemmas.Option.{same_Some, none-some}
use Rattle.sc_base.specs.Roster.{is_member}
use Rattle.sc_base.specs.Same.{same_draw}
use Rattle.sc_base.specs.declared.names.Draw.{Draw}
use Rattle.sc_base.proofs.NameLemmas.{draw_is}
use Rattle.sc_words.specs.declared.commands.orders.OrderLine.{OrderLine}
use Rattle.sc_words.specs.declared.commands.orders.OrderRefusal.TheVariants.{LastMember}
use Rattle.sc_words.specs.declared.commands.orders.OrderResult.TheVariants.{Refused}
use Rattle.sc_mail.specs.declared.bodies.Mail.{Mail}
use Rattle.sc_mail.specs.declared.bodies.MailBody.TheVariants.{Told as Teaches}
use Rattle.sc_actor.specs.declared.rows.Row.{Row}
use Rattle.sc_actor.specs.declared.rows.Event.TheVariants.{Told as Ordered}
use Rattle.sc_actor.specs.Replay.{value}
use Rattle.sc_words.proofs.PaxosProofs.ListLemmas.{Each-among}
use Rattle.sc_client_table.specs.table.Client.{born_client}
use Rattle.sc_node_table.specs.Node.{replica_of}
use Rattle.sc_node_table.specs.Ordering.{ordered_row}
use Rattle.sc_node_table.specs.Replica.{ReplicaState, next, born_replica}
use Rattle.sc_scenario.specs.scenario.Groups.{lone_name}
use Rattle.sc_meaning.specs.sound.Example.{alone, put_it, get_it, mail, row}
use Rattle.sc_meaning.specs.sound.Players.{player_table, node_seat, as_nodes, route_of}
use Rattle.sc_live_steps.specs.calm.QuietPlayers.{IsQuiet, StandsQuiet, IsNewest, IsAtRest, IsBelow, MayVote, IsUpToDate}
use Rattle.sc_live_plain.specs.LeaderMailInJournals.{replicas_of}
use Rattle.sc_live_plain.proofs.BudgetProofs.ExampleBudget.{leave_it}
use Rattle.sc_paxos_law.proofs.Lemmas.{member-among}

-- the journal: the order is refused at once
rows : List (Row Mail OrderLine)
rows = row 1 (Ordered leave_it) (mail 1 0 (Teaches 1 (Refused LastMember))) ∷ []

-- the replica is then as at its birth
lead : ReplicaState
lead = born_replica 4 1 alone

replicas : replicas_of (value player_table (node_seat as_nodes (alone ∷ []) false 1) rows) ≡ lead ∷ []
unfolding rows lead ordered_row
replicas = refl

-- what is seen of it
at : Draw → ℕ → Option ReplicaState
at group node = cond (eqb node 1) (replica_of group (lead ∷ [])) None

-- nothing else is seen
record Seen (group : Draw) (node : ℕ) (r : ReplicaState) : Type 0 where
  group_is : lone_name ≡ group
  node_is : node ≡ 1
  replica_is : lead ≡ r

seen : (group : Draw) (node : ℕ) (r : ReplicaState) → at group node ≡ Some r → Seen group node r
unfolding at lead
seen group node r fact = elim (cases_Bool (eqb node 1)) [
  | inl here ↦ (
      let one : replica_of group (lead ∷ []) ≡ Some r = sym (ap (λ b. cond b (replica_of group (lead ∷ [])) None) here) ∙ fact in
      elim (cases_Bool (same_draw lone_name group)) [
        | inl same ↦ record { group_is = draw_is lone_name group same; node_is = exact_unsigned_eq node 1 here; replica_is = same_Some lead r (sym (ap (λ b. cond b (Some lead) None) same) ∙ one) }
        | inr other ↦ absurd (none-some r (sym (ap (λ b. cond b (Some lead) None) other) ∙ one))
      ])
  | inr there ↦ absurd (none-some r (sym (ap (λ b. cond b (replica_of group (lead ∷ [])) None) there) ∙ fact))
]

is_there : at lone_name 1 ≡ Some lead
unfolding at lead
is_there = refl

one_member : (node : ℕ) → is_member (1 ∷ []) node ≡ true → node ≡ 1
one_member node fact = elim (member-among (1 ∷ []) node fact) [ inl here ↦ sym here | inr none ↦ absurd none ]

newest : IsNewest at lone_name lead
unfolding lead
newest = record { is_there = is_there; most = λ node other fact. subst (λ (r : ReplicaState). next r ≤ next lead) (seen lone_name node other fact).replica_is (lit≤ tt) }

for_member : (P : ReplicaState → Type 0) → P lead → (node : ℕ) → is_member (1 ∷ []) node ≡ true → (r : ReplicaState) × (at lone_name node ≡ Some r) × P r
for_member P p node fact = subst (λ n. (r : ReplicaState) × (at lone_name n ≡ Some r) × P r) (sym (one_member node fact)) (lead, is_there, p)

stands : StandsQuiet at lone_name
unfolding lead
stands = record {
  lead = lead;
  newest = newest;
  stands = refl;
  leads = record { running = refl; mine = refl; settled_is = refl; unbound = λ slot low. refl; top_is = refl; hint_is = refl };
  alone = λ node r fact runs. sym (seen lone_name node r fact).replica_is;
  below_it = λ node r fact. subst (IsBelow lead) (seen lone_name node r fact).replica_is (record { promised = refl; top = refl; accepted = tt });
  member = for_member (IsUpToDate lead) (record { group_is = refl; next_is = refl; sets_are = refl; hint_is = refl });
  voter = λ set node among fact.
      let set_is : set ≡ 1 ∷ [] = Each-among (λ s. s ≡ 1 ∷ []) lead.sets set (refl, (refl, (refl, (refl, tt)))) among in
      for_member (MayVote lead) (record { hint_is = refl; promised = λ later. absurd (true≢false later) }) node (subst (λ s. is_member s node ≡ true) set_is fact);
  linked = record {
    behind = lead;
    newest = newest;
    stands = refl;
    begins = refl;
    nodes = λ node fact. let one = for_member (λ r. Unit {0}) tt node fact in (one.0, one.1);
  };
}

at_rest : IsAtRest lead
unfolding lead
at_rest = record { free = refl; acts = refl; backlog = refl; waits = refl; flights = refl; ready = refl }

runs : lead.running ≡ true
unfolding lead
runs = refl

-- So the journal is quiet.
quiet : IsQuiet at (route_of alone) ((false, born_client 1 (put_it ∷ get_it ∷ []) (route_of alone)) ∷ [])
quiet = record {
  groups = λ group node has. inl (subst (StandsQuiet at) (seen group node has.0 has.1).group_is stands);
  at_rest = λ group node r fact. subst IsAtRest (seen group node r fact).replica_is at_rest;
  rises = λ group node r fact stopped. absurd (true≢false (sym runs ∙ ap (λ (x : ReplicaState). x.running) (seen group node r fact).replica_is ∙ stopped));
  answered = (refl, tt);
}
