-- A row of one group's replica takes no step in another group, and says nothing of it.
use Rattle.std.proofs.Common.{◌≡◌, ℕ, ◌&&◌, true, false, List, [], ◌∷◌, ◌++◌, Some, refl, sym, ◌∙◌, ap}
use Rattle.std.specs.List.{flat_map, list_any}
use Rattle.std.proofs.lemmas.Bool.{and_left, cond-false}
use Rattle.sc_base.specs.Definitions.{Each, same_draw, same_ballot}
use Rattle.sc_node_table.specs.Values.{Ballot, Draw, Command, Base, OrderLine, Mail, MailBody, Request, Answer, Prepare, Promise, Accept, Accepted as AcceptedMail, Nack, Learn, Ask, Install, TxPrepare, TxVote, TxOutcome, TxElsewhere, TxWatch, TxWatched, Told, Row, Event}
use Rattle.sc_paxos_law.specs.PaxosLawDefinitions.{Prepared, Promised, Offered, Accepted}
use Rattle.sc_node_table.specs.NodeDefinitions.{group_of_mail}
use Rattle.sc_meaning.specs.sound.SoundDefinitions.{is_accepted, accepts_of, Ahead}
use Rattle.sc_law_groups.specs.group.GroupDefinitions.{proposer_steps, asked_in, promised_by, promises_of}
use Rattle.sc_law_groups.proofs.GroupProofs.Invariant.{Steps, IsOwn, IsTrue}

-- a row of a node
abbrev pub node_row : ℕ → Event OrderLine → List Mail → Row Mail OrderLine
node_row who event sent = record { who = who; event = event; sent = sent }

-- the steps of a row in which a mail comes
abbrev pub steps_of : Draw → ℕ → Event OrderLine → MailBody → List Mail → Steps → Steps
steps_of group who event body sent before = promises_of group (node_row who event sent) body ++ accepts_of group (node_row who event sent) body ++ asked_in group sent before

-- a mail of a replica of another group than the one with this name
abbrev pub IsFar : (MailBody → Type 0) → Draw → MailBody → Type 0
IsFar heard name (Request group client seq op) = ⊥
IsFar heard name (Answer group seq answer) = same_draw group name ≡ false
IsFar heard name (Prepare group ballot from_slot) = same_draw group name ≡ false
IsFar heard name (Promise group ballot reports) = same_draw group name ≡ false
IsFar heard name (Accept group ballot slot command) = same_draw group name ≡ false
IsFar heard name (AcceptedMail group ballot slot) = same_draw group name ≡ false
IsFar heard name (Nack group promised) = same_draw group name ≡ false
IsFar heard name (Learn group slot command) = same_draw group name ≡ false
IsFar heard name (Ask group from_slot) = same_draw group name ≡ false
IsFar heard name (Install group slot record_of sets) = same_draw group name ≡ false
IsFar heard name (TxPrepare tx offer) = heard (TxPrepare tx offer)
IsFar heard name (TxVote tx coord part vote) = heard (TxVote tx coord part vote)
IsFar heard name (TxOutcome tx part outcome) = heard (TxOutcome tx part outcome)
IsFar heard name (TxElsewhere tx coord hint) = heard (TxElsewhere tx coord hint)
IsFar heard name (TxWatch tx watch) = heard (TxWatch tx watch)
IsFar heard name (TxWatched tx coord part vote) = heard (TxWatched tx coord part vote)
IsFar heard name (Told number result) = Unit {0}

-- mails of replicas of other groups
abbrev pub AreFar : (MailBody → Type 0) → Draw → List Mail → Type 0
AreFar heard name mails = Each (λ mail. IsFar heard name mail.body) mails

module _ (ahead : Ahead) (base : Base) where
  -- what is of the group's own name is of no other
  pub own_far : (heard : MailBody → Type 0) (name : Draw) → same_draw base.core.id name ≡ false → (body : MailBody) → IsOwn ahead base heard body → IsFar heard name body
  own_far heard name f (Request group client seq op) own = own
  own_far heard name f (TxPrepare tx offer) own = own
  own_far heard name f (TxVote tx coord part vote) own = own
  own_far heard name f (TxOutcome tx part outcome) own = own
  own_far heard name f (TxElsewhere tx coord hint) own = own
  own_far heard name f (TxWatch tx watch) own = own
  own_far heard name f (TxWatched tx coord part vote) own = own
  own_far heard name f (Told number result) own = tt
  own_far heard name f _ own = ap (λ d. same_draw d name) own ∙ f

  -- what is said of another group is true of this one
  pub far_true : (made : Command → Type 0) (heard : MailBody → Type 0) (h : Steps) (mail : Mail) (body : MailBody) → IsFar heard base.core.id body → IsTrue ahead base made heard h mail body
  far_true made heard h mail (Request group client seq op) far = absurd far
  far_true made heard h mail (Nack group promised) far = tt
  far_true made heard h mail (Ask group from_slot) far = tt
  far_true made heard h mail (TxPrepare tx offer) far = far
  far_true made heard h mail (TxVote tx coord part vote) far = far
  far_true made heard h mail (TxOutcome tx part outcome) far = far
  far_true made heard h mail (TxElsewhere tx coord hint) far = far
  far_true made heard h mail (TxWatch tx watch) far = far
  far_true made heard h mail (TxWatched tx coord part vote) far = far
  far_true made heard h mail (Told number result) far = tt
  far_true made heard h mail _ far = λ t. (let no_way : true ≡ false = sym t ∙ far in absurd (cc))

-- ---- steps

far_asked : (heard : MailBody → Type 0) (name : Draw) (body : MailBody) → IsFar heard name body → proposer_steps name body ≡ []
far_asked heard name (Prepare group ballot from_slot) far = cond-false (same_draw group name) (Prepared ballot from_slot ∷ []) [] far
far_asked heard name (Accept group ballot slot command) far = cond-false (same_draw group name) (Offered ballot slot command ∷ []) [] far
far_asked heard name _ far = refl

-- they ask for nothing in this group
pub far_all : (heard : MailBody → Type 0) (name : Draw) (mails : List Mail) (before : Steps) → AreFar heard name mails → asked_in name mails before ≡ before
far_all heard name [] before far = refl
far_all heard name (mail ∷ mails) before far = ap (λ x. asked_in name mails (x ++ before)) (far_asked heard name mail.body far.0) ∙ far_all heard name mails before far.1

-- what mails ask for, one part after another
pub asked_append : (name : Draw) (one other : List Mail) (before : Steps) → asked_in name (one ++ other) before ≡ asked_in name other (asked_in name one before)
asked_append name [] other before = refl
asked_append name (mail ∷ one) other before = asked_append name one other (proposer_steps name mail.body ++ before)

far_promised : (heard : MailBody → Type 0) (name : Draw) (who : ℕ) (ballot : Ballot) (from_slot : ℕ) (body : MailBody) → IsFar heard name body → promised_by name who ballot from_slot body ≡ []
far_promised heard name who ballot from_slot (Promise group b reports) far =
    cond-false (same_draw group name && same_ballot b ballot) (Promised who ballot from_slot reports ∷ []) [] (and_left (same_draw group name) (same_ballot b ballot) far)
far_promised heard name who ballot from_slot _ far = refl

all_promised : (heard : MailBody → Type 0) (name : Draw) (who : ℕ) (ballot : Ballot) (from_slot : ℕ) (mails : List Mail) → AreFar heard name mails → flat_map (λ mail. promised_by name who ballot from_slot mail.body) mails ≡ []
all_promised heard name who ballot from_slot [] far = refl
all_promised heard name who ballot from_slot (mail ∷ mails) far =
    ap (λ (x : Steps). x ++ flat_map (λ (m : Mail). promised_by name who ballot from_slot m.body) mails) (far_promised heard name who ballot from_slot mail.body far.0)
    ∙ all_promised heard name who ballot from_slot mails far.1

far_promises : (heard : MailBody → Type 0) (name : Draw) (who : ℕ) (event : Event OrderLine) (sent : List Mail) → AreFar heard name sent → (body : MailBody) → promises_of name (node_row who event sent) body ≡ []
far_promises heard name who event sent far (Prepare group ballot from_slot) = all_promised heard name who ballot from_slot sent far
far_promises heard name who event sent far _ = refl

far_accepts : (name : Draw) (who : ℕ) (event : Event OrderLine) (sent : List Mail) (group : Draw) → same_draw group name ≡ false → (body : MailBody) → group_of_mail body ≡ Some group
    → accepts_of name (node_row who event sent) body ≡ []
far_accepts name who event sent group far (Accept g ballot slot command) into =
    let same : g ≡ group = cc in
    cond-false (same_draw g name && list_any (λ (mail : Mail). is_accepted g ballot slot mail.body) sent) (Accepted who ballot slot command ∷ []) []
    (and_left (same_draw g name) (list_any (λ (mail : Mail). is_accepted g ballot slot mail.body) sent) (ap (λ d. same_draw d name) same ∙ far))
far_accepts name who event sent group far _ into = refl

-- a row of another group's replica is no step
pub far_steps : (heard : MailBody → Type 0) (name : Draw) (who : ℕ) (event : Event OrderLine) (group : Draw) → same_draw group name ≡ false → (body : MailBody) → group_of_mail body ≡ Some group
    → (sent : List Mail) (before : Steps) → AreFar heard name sent → steps_of name who event body sent before ≡ before
far_steps heard name who event group other body into sent before far =
    ap (λ (x : Steps). x ++ accepts_of name (node_row who event sent) body ++ asked_in name sent before) (far_promises heard name who event sent far body)
    ∙ ap (λ (x : Steps). x ++ asked_in name sent before) (far_accepts name who event sent group other body into) ∙ far_all heard name sent before far
