-- What a mail does to a node's replica of one group, and the end of the node's row as the group sees it.
use Rattle.std.proofs.Common.{◌≡◌, ℕ, List, [], ◌∷◌, ◌++◌, Some, refl, sym, ◌∙◌, ap, subst, append-nil}
use Rattle.sc_node_table.specs.Values.{Draw, Command, Base, OrderLine, Mail, MailBody, Prepare, Accept, Event}
use Rattle.sc_base.specs.Definitions.{Among, Each}
use Rattle.sc_paxos_law.specs.PaxosLawDefinitions.{IsLawfulHistory}
use Rattle.sc_node_table.specs.NodeDefinitions.{NodeState, group_of_mail, ReplicaState, Place, prepare_row, mailed}
use Rattle.sc_meaning.specs.sound.SoundDefinitions.{Ahead}
use Rattle.sc_law_groups.specs.group.GroupDefinitions.{asked_in}
use Rattle.sc_law_groups.proofs.GroupProofs.Growth.{By}
use Rattle.sc_law_groups.proofs.GroupProofs.Invariant.{Steps, rule, first, IsReplica, IsTrue, OffersMade}
use Rattle.sc_law_groups.proofs.GroupProofs.Speech.{Speaks}
use Rattle.sc_law_groups.proofs.GroupProofs.Midway.{Fine}
use Rattle.sc_law_groups.proofs.GroupProofs.GroupRows.{fine_mailed}
use Rattle.sc_law_groups.proofs.GroupProofs.AcceptorRows.{promised_in, Ended, ended_by, prepare_ended, accept_ended}
use Rattle.sc_law_groups.proofs.GroupProofs.Frames.{steps_of}
use Rattle.sc_law_groups.proofs.GroupProofs.ChosenEntries.{IsChildOf}
use Rattle.sc_law_groups.proofs.GroupProofs.Holding.{Holds}
use Rattle.sc_base.proofs.Lemmas.{same_name}

module _ (ahead : Ahead) (base : Base) (made : Command → Type 0) (heard : MailBody → Type 0) (me : ℕ) (before : Steps) (speaks : Speaks ahead base made heard before)
    (some : (log : List Command) → Each made log → (node : ℕ) × (rest : List ℕ) × ((rule ahead base).members log ≡ node ∷ rest))
    (lawful : IsLawfulHistory (rule ahead base) (first ahead base) before)
    (requested : OffersMade made before) where
  abbrev group : Draw
  group = base.core.id

  -- the replica's part of a row begins, behind what the node's other replicas have sent
  pub start : (older : List Mail) (r : ReplicaState) → IsReplica ahead base made before me r → Fine ahead base made heard me older before (r, older)
  start older r k = record {
    sent = [];
    sent_is = sym (append-nil older);
    newer = [];
    are = refl;
    by = tt;
    lawful = lawful;
    requested = requested;
    replica = k;
    mails = λ m a. absurd a;
    own = λ m a. absurd a;
  }

  abbrev RowEnded : Event OrderLine → MailBody → Place → Type 0
  RowEnded event body place = Ended ahead base made heard me before (steps_of group me event body place.1 before) place

  pub by_fine : (event : Event OrderLine) (body : MailBody) (place : Place) → Fine ahead base made heard me [] before place → steps_of group me event body place.1 before ≡ asked_in group place.1 before → RowEnded event body place
  by_fine event body place f e = ended_by ahead base made heard me before speaks some place _ f e

  -- a mail comes for it
  pub mailed_ended : (event : Event OrderLine) (mail : Mail) (body : MailBody) (r : ReplicaState) → IsReplica ahead base made before me r → (g : Draw) → group_of_mail body ≡ Some g → g ≡ group
      → IsTrue ahead base made heard before mail body → RowEnded event body (mailed mail.from body (r, [])).0
  unfolding mailed start
  mailed_ended event mail (Prepare g b start_slot) r k named into fact t =
      let same : g ≡ group = (let one : g ≡ named = cc in one ∙ fact) in
      let place = prepare_row mail.from b start_slot (r, []) in
      subst (λ (x : Steps). Ended ahead base made heard me before (x ++ asked_in group place.1 before) place) (sym (append-nil (promised_in group me b start_slot place.1)))
      (prepare_ended ahead base made heard me before speaks some mail.from b start_slot r (start [] r k) (t (same_name g group same)))
  mailed_ended event mail (Accept g b slot c) r k named into fact t =
      let same : g ≡ group = (let one : g ≡ named = cc in one ∙ fact) in
      subst (λ d. RowEnded event (Accept d b slot c) (mailed mail.from (Accept g b slot c) (r, [])).0) (sym same)
      (accept_ended ahead base made heard me before speaks some mail.from b slot c r (start [] r k) (t (same_name g group same)))
  mailed_ended event mail body r k named into fact t =
      by_fine event body (mailed mail.from body (r, [])).0 (fine_mailed ahead base made heard me [] before speaks some mail body r [] (into ∙ ap Some fact) tt t (start [] r k)).0 refl

  -- the children that a mail makes are those of prefixes of the log
  pub mailed_kids : (mail : Mail) (body : MailBody) (r : ReplicaState) → IsReplica ahead base made before me r → (g : Draw) → group_of_mail body ≡ Some g → g ≡ group
      → IsTrue ahead base made heard before mail body → Each (IsChildOf ahead base made me before) (mailed mail.from body (r, [])).1
  unfolding mailed start
  mailed_kids mail (Prepare g b start_slot) r k named into fact t = tt
  mailed_kids mail (Accept g b slot c) r k named into fact t = tt
  mailed_kids mail body r k named into fact t = (fine_mailed ahead base made heard me [] before speaks some mail body r [] (into ∙ ap Some fact) tt t (start [] r k)).1

  -- the end of a row of a node, as the group sees it
  pub record PartEnded (after : Steps) (step : NodeState × List Mail) : Type 0 where
    pub newer : Steps
    pub are : after ≡ newer ++ before
    pub by : Each (By me) newer
    pub lawful_is : IsLawfulHistory (rule ahead base) (first ahead base) (newer ++ before)
    pub requested_is : OffersMade made (newer ++ before)
    pub holds : Holds ahead base made me (newer ++ before) step.0.replicas
    pub mails : (mail : Mail) → Among mail step.1 → IsTrue ahead base made heard (newer ++ before) mail mail.body

  -- the group takes no step
  pub no_part : (after : Steps) (step : NodeState × List Mail) → after ≡ before → Holds ahead base made me before step.0.replicas → ((mail : Mail) → Among mail step.1 → IsTrue ahead base made heard before mail mail.body) → PartEnded after step
  no_part after step same holds true_mails = record { newer = []; are = same; by = tt; lawful_is = lawful; requested_is = requested; holds = holds; mails = true_mails }

  -- its replica's row ends
  pub own_part : (after : Steps) (place : Place) (step : NodeState × List Mail) → step.1 ≡ place.1 → (e : Ended ahead base made heard me before after place) → Holds ahead base made me (e.newer ++ before) step.0.replicas → PartEnded after step
  own_part after place step same e holds = record {
    newer = e.newer;
    are = e.are;
    by = e.by;
    lawful_is = e.lawful;
    requested_is = e.requested;
    holds = holds;
    mails = λ m a. e.mails m (subst (Among m) same a);
  }
