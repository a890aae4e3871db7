-- One that elects itself asks to promise its ballot from the slot after the last entry on.
use Rattle.std.proofs.Common.{◌≡◌, ℕ, suc, ◌≤◌, eqb, Bool, true, false, cond, List, [], ◌∷◌, ◌++◌, Option, Some, None, sym, ◌∙◌, subst, arith}
use Rattle.std.specs.List.{filter}
use Rattle.std.specs.Option.{option_map}
use Rattle.sc_base.specs.Definitions.{Each}
use Rattle.sc_node_table.specs.Values.{Draw, Command, Mail, MailBody, Prepare}
use Rattle.sc_words.proofs.PaxosProofs.PaxosLemmas.{Each-append, Each-split}
use Rattle.sc_node_table.specs.NodeDefinitions.{open_nodes, entered, executed_ready, executed, sent, sent_all, pumped, ReplicaState, Place, listed, name_of, next, mailed}
use Rattle.sc_live_steps.specs.following.FollowingDefinitions.{Dated, from_slot_of, dated_of, dated_for, ElectionsAskNext, Mark, mark_of, MayElect, next_ballot}
use Rattle.sc_live_steps.proofs.FollowingProofs.AskedSlots.{nothing, prepares_are_known}
use Rattle.sc_live_steps.proofs.FollowingProofs.LeastMembers.{last, mails, leading, one_is, next_is, no_pump}
use Rattle.sc_live_steps.proofs.FollowingProofs.FollowerTables.{silent, told_is}

module _ (bound : ℕ) (name : Draw) (who : ℕ) where
  -- each is from this slot on
  abbrev From : List Dated → Type 0
  From dated = Each (λ (d : Dated). bound ≤ d.1) dated

  from_one : (body : MailBody) (o : Option Mark) → bound ≤ from_slot_of body → From (listed (option_map (λ mark. (mark, from_slot_of body)) o) ++ [])
  from_one body None least = tt
  from_one body (Some mark) least = (least, tt)

  from_push : (old : List Mail) (mail : Mail) → bound ≤ from_slot_of mail.body → From (dated_for name who old) → From (dated_for name who (old ++ mail ∷ []))
  from_push [] mail least f = by (eqb mail.to who)
    where
      by : (b : Bool) → From (dated_of name (cond b (mail ∷ []) []))
      by true = from_one mail.body (mark_of name mail.from mail.body) least
      by false = tt
  from_push (m ∷ old) mail least f = by (eqb m.to who) f (λ g. from_push old mail least g)
    where
      by : (b : Bool) → From (dated_of name (cond b (m ∷ filter (λ x. eqb x.to who) old) (filter (λ x. eqb x.to who) old))) → (From (dated_for name who old) → From (dated_for name who (old ++ mail ∷ [])))
          → From (dated_of name (cond b (m ∷ filter (λ x. eqb x.to who) (old ++ mail ∷ [])) (filter (λ x. eqb x.to who) (old ++ mail ∷ []))))
      by true g rest =
          let head : List Dated = listed (option_map (λ mark. (mark, from_slot_of m.body)) (mark_of name m.from m.body)) in
          let parts = Each-split (λ (d : Dated). bound ≤ d.1) head (dated_for name who old) g in
          Each-append (λ (d : Dated). bound ≤ d.1) head (dated_for name who (old ++ mail ∷ [])) parts.0 (rest parts.1)
      by false g rest = rest g

  from_all : (me : ℕ) (body : MailBody) → bound ≤ from_slot_of body → (nodes : List ℕ) (old : List Mail) → From (dated_for name who old) → From (dated_for name who (sent_all me nodes body old))
  unfolding sent_all
  from_all me body least [] old f = f
  from_all me body least (node ∷ nodes) old f = from_all me body least nodes (sent me node body old) (from_push old (record { from = me; to = node; body = body }) least f)

module _ (command : Command) (r : ReplicaState) (off : r.running ≡ false) (none : r.leader.flights ≡ []) (slot : ℕ) (at : slot ≡ next r) (may : MayElect (entered command r)) (name_is : name_of (entered command r) ≡ name_of r) where
  abbrev Asks : Place → Type 0
  Asks place = (who : ℕ) → Each (λ (d : Dated). suc slot ≤ d.1) (dated_for (name_of r) who place.1)

  asks_next : Asks (leading command r off none slot at may name_is)
  asks_next who =
      let there = last command r off none slot at may name_is in
      let said = mails command r off none slot at may name_is in
      let up = next_is command r off none slot at may name_is in
      from_all (suc slot) (name_of r) who there.me (Prepare (name_of there) (next_ballot there) (next there)) (omega (arith, up)) (open_nodes there.sets) said
      (subst (Each (λ (d : Dated). suc slot ≤ d.1)) (sym (nothing (dated_for (name_of r) who said) (prepares_are_known.same (name_of r) who said ∙ silent command r off none who))) tt)

  executed_asks : Asks (executed false command (r, [])).0
  unfolding executed executed_ready
  executed_asks =
      let there = leading command r off none slot at may name_is in
      let before = last command r off none slot at may name_is in
      subst (λ (p : Place). Asks (pumped (executed_ready p.0.ready p).0)) (sym (one_is command r off none slot at may name_is))
      (subst Asks (sym (no_pump there.0 there.1 (next_ballot before) (next before))) asks_next)

-- A replica that elects itself by the last entry asks to promise its ballot from the slot after it on.
pub elections_ask_next : ElectionsAskNext
unfolding mailed
elections_ask_next from slot command r fit off none low may name =
    told_is (λ place. (who : ℕ) → Each (λ (d : Dated). suc slot ≤ d.1) (dated_for (name_of r) who place.1)) from slot command r fit.1 low (executed_asks command r off none slot fit.1 may name)
