-- A replica keeps its group's name in each row of its table, and refuses nothing but what it is asked to promise or to accept, by the ballot that it has promised.
use Rattle.std.proofs.Common.{◌≡◌, ℕ, List, refl, sym, subst}
use Rattle.sc_base.specs.Definitions.{Drawer, Each}
use Rattle.sc_node_table.specs.Values.{Ballot, Draw, Command, Base, OrderLine, Mail, MailBody, Nack}
use Rattle.sc_words.specs.paxos.PaxosDefinitions.{AcceptorState}
use Rattle.sc_node_table.specs.NodeDefinitions.{ordered_row, mailed, made_by, ReplicaState, Place, name_of}
use Rattle.sc_live_journals.proofs.RowsProofs.OwnGroupMail as own

module _ (may : Draw → ℕ → Ballot → Type 0) where
  -- a refusal is one of those that may be, by the group, to whom it goes, and the ballot that it names
  abbrev pub IsRefusal : ℕ → MailBody → Type 0
  IsRefusal to (Nack group promised) = may group to promised
  IsRefusal to _ = Unit {0}

  -- a mail is said so
  abbrev pub IsSaid : Mail → Type 0
  IsSaid mail = IsRefusal mail.to mail.body

  -- each of some mails is said so
  abbrev pub AreSaid : List Mail → Type 0
  AreSaid mails = Each IsSaid mails

  -- a replica of the group of this name, whose refusals are such as may be
  abbrev pub IsFaithful : Draw → Place → Type 0
  IsFaithful name place = (name_of place.0 ≡ name) × AreSaid place.1

  own_said : (name : Draw) (me to : ℕ) (body : MailBody) → own.IsOwn name body → IsRefusal to body
  own_said name me to (Nack group promised) own = absurd own
  own_said name me to _ own = tt

  pub mailed_keeps : (name : Draw) (from : ℕ) (body : MailBody) (place : Place) → (own.Refuses place.0.acceptor body → may name from place.0.acceptor.promised) → IsFaithful name place → IsFaithful name (mailed from body place).0
  mailed_keeps name from body place q k =
      let found : AcceptorState Command = place.0.acceptor in
      own.mailed_keeps IsSaid name (own_said name) (λ (r : ReplicaState). r.acceptor ≡ found) (λ sender mail. own.Refuses found mail → may name sender found.promised)
      (λ me sender mail start same heard no. subst (λ (a : AcceptorState Command). may name sender a.promised) (sym same) (heard (subst (λ (a : AcceptorState Command). own.Refuses a mail) same no))) from body place refl q k

  pub order_keeps : (name : Draw) (drawer : Drawer) (line : OrderLine) (place : Place) → IsFaithful name place → IsFaithful name (ordered_row drawer line place)
  order_keeps name drawer line place k = own.order_keeps IsSaid name (own_said name) (λ r. ⊥) (λ sender mail. Unit {0}) (λ me sender mail start none heard no. absurd none) drawer line place k

  -- a replica that is made of a state that is sent
  pub made_keeps : (me from : ℕ) (group : Draw) (slot : ℕ) (base : Base) (sets : List (List ℕ)) → IsFaithful group (made_by me from group slot base sets)
  made_keeps me from group slot base sets = own.made_keeps IsSaid group (own_said group) (λ r. ⊥) (λ sender mail. Unit {0}) (λ me_ sender mail start none heard no. absurd none) me from slot base sets
