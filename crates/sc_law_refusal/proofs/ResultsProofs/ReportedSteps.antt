-- What a replica reports of orders in any row of its table.
use Rattle.std.proofs.Common.{◌≡◌, ℕ, ◌≤◌, ◌&&◌, Bool, true, false, true≢false, refl, sym, ◌∙◌, ap, arith, subst, List, [], ◌∷◌, ◌++◌, Option, Some, None, inl, inr}
use Rattle.std.specs.Option.{option_map}
use Rattle.std.specs.FinMap.{entries}
use Rattle.std.proofs.lemmas.Bool.{cond_both}
use Rattle.sc_base.specs.Definitions.{Drawer, next_name}
use Rattle.sc_node_table.specs.Values.{Draw, Command, Base, Order, OrderLine, OrderRefusal, OrderResult, Refused, Mail, MailBody}
use Rattle.sc_words.specs.declared.commands.orders.Order.TheVariants as An
use Rattle.sc_group_table.specs.machine.MachineDefinitions.{state_after}
use Rattle.sc_group_table.specs.policy.PolicyDefinitions.{is_reported, wished_order}
use Rattle.sc_paxos_law.specs.PaxosLawDefinitions.{IsLog, IsLawfulHistory}
use Rattle.sc_node_table.specs.NodeDefinitions.{ReplicaState, Place, name_of, forgotten, ordered_command, ordered_row, queued_or_refused, untaken, result_sent, wished_line, policy_line, is_at_rest, waited_in, tick_row, mailed, made_by, named, installed_replica}
use Rattle.sc_meaning.specs.sound.SoundDefinitions.{Ahead}
use Rattle.sc_law_groups.proofs.GroupProofs.GroupLemmas.{Steps, rule, first, birth, IsReplica, IsState}
use Rattle.sc_law_walks.proofs.TableParts.{pumps}
use Rattle.sc_law_walks.proofs.TableRows as rows
use Rattle.sc_law_walks.proofs.TableTicks as tick
use Rattle.sc_law_refusal.specs.results.ResultDefinitions.{IsOf, EndsOrder, ReportAs}
use Rattle.sc_law_refusal.proofs.ResultsProofs.Reports.{puts}
use Rattle.sc_law_entries.proofs.NamesProofs.HeldCommands.{Held, last_held}
use Rattle.sc_law_refusal.proofs.ResultsProofs.LoggedReplicas.{is_logged, makes}
use Rattle.sc_law_refusal.proofs.ResultsProofs.ReportedRows.{tell_so, Waits, IsBack, HasStopped, Brings, MayGiveOrder, ReportsSo, with_backlog, reported_walk, reported_ticks}

-- an order of a policy has no number that is reported
wished_number : (o : Option Order) (line : OrderLine) → option_map policy_line o ≡ Some line → line.number ≡ 0
wished_number None line e = cc
wished_number (Some order) line e = (let same : policy_line order ≡ line = cc in ap (λ (l : OrderLine). l.number) (sym same))

line_number : (on : Bool) (r : ReplicaState) (line : OrderLine) → wished_line on r ≡ Some line → line.number ≡ 0
line_number on r line e =
    cond_both (on && is_at_rest r) (option_map policy_line (wished_order r.group.core (entries r.group.pairs))) None (λ (o : Option OrderLine). o ≡ Some line → line.number ≡ 0)
    (λ _ f. wished_number (wished_order r.group.core (entries r.group.pairs)) line f) (λ _ f. cc) e

-- the command of an order has the order's number
pub number_is : (name : Draw) (number other : ℕ) (order : Order) → IsOf other (ordered_command name number order) → number ≡ other
number_is name number other (An.Join node group) own = own
number_is name number other _ own = own

module _ (ahead : Ahead) (base : Base) (h : Steps) (lawful : IsLawfulHistory (rule ahead base) (first ahead base) h) (made : Command → Type 0) (Fact : ℕ → OrderResult → Type 0)
    (decided : (whole : List Command) (command : Command) → IsLog (rule ahead base) h (whole ++ command ∷ []) → (number : ℕ) (result : OrderResult) → EndsOrder (state_after (birth ahead base) whole) command number result → Fact number result)
    (W : ℕ → Command → Type 0) (round : ℕ) where
  abbrev Goes : Place → Type 0
  Goes place = ReportsSo ahead base h lawful made Fact decided W round place

  abbrev P : Command → Type 0
  P command = Waits W command

  -- ---- where a row begins and ends

  pub begins : (me : ℕ) (r : ReplicaState) (mails : List Mail) → IsReplica ahead base made h me r → name_of r ≡ base.core.id → Held P r → round ≤ r.top.round → ReportAs Fact mails → Goes (r, mails)
  begins me r mails replica same held low m = (false, ((same, is_logged ahead base h lawful made me r replica), held, low, λ e. absurd (true≢false (sym e))), tell_so Fact (MayGiveOrder ahead base h lawful made Fact decided W round false) (λ number result t. inl t) mails m)

  -- the replica keeps its name, and what it reports is so where each order that is given back is so
  abbrev pub RowEnds : Place → Type 0
  RowEnds place = (name_of place.0 ≡ base.core.id) × (((number : ℕ) (result : OrderResult) → IsBack W number result → HasStopped round place.0 → Fact number result) → ReportAs Fact place.1)

  ends_of : (place : Place) → Goes place → RowEnds place
  ends_of place k = (
    k.1.0.0,
    λ f. tell_so (MayGiveOrder ahead base h lawful made Fact decided W round k.0) Fact (λ number result t. elim t [ inl so ↦ so | inr back ↦ f number result back.1 (k.1.3 back.0) ]) place.1 k.2,
  )

  -- ---- all rows

  pub mailed_ends : (me from : ℕ) (body : MailBody) (r : ReplicaState) (mails : List Mail) → Brings ahead base h made W from body → IsReplica ahead base made h me r → Goes (r, mails) → RowEnds (mailed from body (r, mails)).0
  mailed_ends me from body r mails t replica k = ends_of (mailed from body (r, mails)).0 (rows.takes_mail (reported_walk ahead base h lawful made Fact decided W round) from body (r, mails) t (me, replica) k).0

  -- an order is refused, or queued where it waits
  queued_ends : (o : Option OrderRefusal) (line : OrderLine) (command : Command) (r : ReplicaState) (mails : List Mail) → ((why : OrderRefusal) → o ≡ Some why → Fact line.number (Refused why)) → P command → Goes (r, mails) → RowEnds (queued_or_refused o line.number command (r, mails))
  queued_ends (Some why) line command r mails given p k = ends_of (r, result_sent r.me line.number (Refused why) mails) (k.0, k.1, puts r.me (MayGiveOrder ahead base h lawful made Fact decided W round k.0) 0 _ mails (inl (given why refl)) k.2)
  queued_ends None line command r mails given p k =
      ends_of (queued_or_refused None line.number command (r, mails)) (pumps (reported_walk ahead base h lawful made Fact decided W round) (record r { backlog = r.backlog ++ command ∷ [] }, mails)
      (with_backlog ahead base h lawful made Fact decided W round r mails (r.backlog ++ command ∷ []) (last_held P r.backlog command p k.1.1.0) k))

  pub ordered_ends : (drawer : Drawer) (line : OrderLine) (r : ReplicaState) (mails : List Mail) → ((why : OrderRefusal) → untaken drawer line r ≡ Some why → Fact line.number (Refused why)) → P (ordered_command (next_name drawer) line.number line.order) → Goes (r, mails) → RowEnds (ordered_row drawer line (r, mails))
  unfolding ordered_row
  ordered_ends drawer line r mails given p k = queued_ends (untaken drawer line r) line (ordered_command (next_name drawer) line.number line.order) r mails given p k

  pub ticked_ends : (on : Bool) (drawer : Drawer) (r : ReplicaState) (mails : List Mail) → Goes (r, mails) → RowEnds (tick_row on drawer (r, mails))
  ticked_ends on drawer r mails k =
      ends_of (tick_row on drawer (r, mails)) (tick.ticks (reported_walk ahead base h lawful made Fact decided W round) (reported_ticks ahead base h lawful made Fact decided W round) on drawer (r, mails)
      (λ here f line e taken number own t. (let zero : line.number ≡ 0 = line_number on (waited_in r.group.core.lock r) line e in let other = number_is (next_name drawer) line.number number line.order own in absurd (unreported number (sym other ∙ zero) t))) k)
    where
      unreported : (number : ℕ) → number ≡ 0 → is_reported number ≡ true → ⊥
      unreported number e t = (let none : is_reported 0 ≡ true = subst (λ n. is_reported n ≡ true) e t in absurd (true≢false (sym none)))

  made_name : (me : ℕ) (group : Draw) (slot : ℕ) (state : Base) (sets : List (List ℕ)) → name_of (installed_replica me slot (named group state) sets) ≡ group
  unfolding forgotten
  made_name me group slot state sets = refl

  made_held : (me : ℕ) (group : Draw) (slot : ℕ) (state : Base) (sets : List (List ℕ)) → Held P (installed_replica me slot (named group state) sets)
  unfolding forgotten
  made_held me group slot state sets = (tt, tt, tt, tt, tt)

  pub made_ends : (me from : ℕ) (group : Draw) (slot : ℕ) (state : Base) (sets : List (List ℕ)) → group ≡ base.core.id → round ≡ 0 → IsState ahead base made h slot state sets → RowEnds (made_by me from group slot state sets)
  made_ends me from group slot state sets same zero t =
      ends_of (made_by me from group slot state sets) (rows.makes (reported_walk ahead base h lawful made Fact decided W round) me from group slot state sets
      (false, ((made_name me group slot state sets ∙ same, makes ahead base h lawful made me group slot state sets same t), made_held me group slot state sets, omega (arith, zero), λ e. absurd (true≢false (sym e))), tt))
