-- What is asked of what a group's replicas say of transactions, and queue: what they say is heard, and what they hear they may queue.
use Rattle.std.proofs.Common.{◌≡◌, ℕ, List, [], ◌∷◌, ◌++◌, Option, Some, refl, ◌∙◌, ap}
use Rattle.sc_base.specs.Definitions.{Each}
use Rattle.sc_node_table.specs.Values.{Draw, Body, Command, Noop, Prepared, RecordVote, GiveUp, Finish, Watched, RecordWatch, Base, Coordinating, Heard, Outcome, Past, Mail, MailBody, Request, Answer, Prepare, Promise, Accept, Accepted as AcceptedMail, Nack, Learn, Ask, Install, TxPrepare, TxVote, TxOutcome, TxElsewhere, TxWatch, TxWatched, Told}
use Rattle.sc_group_table.specs.machine.MachineDefinitions.{Group, state_after, applied}
use Rattle.sc_node_table.specs.NodeDefinitions.{group_of_mail, reminders, before_of, went_on, standing_vote, noted_outcome, voted_to, watched_to, asked_next}
use Rattle.sc_paxos_law.specs.PaxosLawDefinitions.{IsLog}
use Rattle.sc_meaning.specs.sound.SoundDefinitions.{Ahead}
use Rattle.sc_law_groups.specs.group.GroupDefinitions.{proposer_steps, asked_in}
use Rattle.sc_law_groups.proofs.GroupProofs.Invariant.{Steps, rule, birth, name, IsOwn, IsTrue}

-- a mail of a transaction that is heard
abbrev pub IsSaid : (MailBody → Type 0) → MailBody → Type 0
IsSaid heard (Request group client seq op) = ⊥
IsSaid heard (Answer group seq answer) = ⊥
IsSaid heard (Prepare group ballot from_slot) = ⊥
IsSaid heard (Promise group ballot reports) = ⊥
IsSaid heard (Accept group ballot slot command) = ⊥
IsSaid heard (AcceptedMail group ballot slot) = ⊥
IsSaid heard (Nack group promised) = ⊥
IsSaid heard (Learn group slot command) = ⊥
IsSaid heard (Ask group from_slot) = ⊥
IsSaid heard (Install group slot record_of sets) = ⊥
IsSaid heard (TxPrepare tx offer) = heard (TxPrepare tx offer)
IsSaid heard (TxVote tx coord part vote) = heard (TxVote tx coord part vote)
IsSaid heard (TxOutcome tx part outcome) = heard (TxOutcome tx part outcome)
IsSaid heard (TxElsewhere tx coord hint) = heard (TxElsewhere tx coord hint)
IsSaid heard (TxWatch tx watch) = heard (TxWatch tx watch)
IsSaid heard (TxWatched tx coord part vote) = heard (TxWatched tx coord part vote)
IsSaid heard (Told number result) = ⊥

-- such mails alone
abbrev pub AreSaid : (MailBody → Type 0) → List Mail → Type 0
AreSaid heard mails = Each (λ (mail : Mail). IsSaid heard mail.body) mails

-- what comes of a mail of a transaction at a group as it stands: what is queued for it may be queued, and what is answered is heard
abbrev pub Meets : (Command → Type 0) → (MailBody → Type 0) → Group → MailBody → Type 0
Meets made heard group (TxPrepare tx offer) =
    made (Prepared tx offer) × ((vote : Past) → standing_vote group.core tx ≡ Some vote → (me node : ℕ) → AreSaid heard (voted_to me group node tx offer vote []))
Meets made heard group (TxVote tx coord part vote) =
    ((from : ℕ) → made (RecordVote tx vote from)) × ((outcome : Outcome) → noted_outcome group.core tx ≡ Some outcome → heard (TxOutcome tx part outcome))
Meets made heard group (TxOutcome tx part outcome) = made (Finish tx outcome)
Meets made heard group (TxElsewhere tx coord hint) = (me from : ℕ) → AreSaid heard (asked_next group.core.lock me group.core from tx hint [])
Meets made heard group (TxWatch tx watch) =
    made (Watched tx watch) × ((vote : Past) → standing_vote group.core tx ≡ Some vote → (me node : ℕ) → AreSaid heard (watched_to me node tx watch vote []))
Meets made heard group (TxWatched tx coord part vote) =
    ((from : ℕ) → made (RecordWatch tx vote from)) × ((outcome : Outcome) → noted_outcome group.core tx ≡ Some outcome → heard (TxOutcome tx part outcome))
Meets made heard group (Request g client seq op) = Unit {0}
Meets made heard group (Answer g seq answer) = Unit {0}
Meets made heard group (Prepare g ballot from_slot) = Unit {0}
Meets made heard group (Promise g ballot reports) = Unit {0}
Meets made heard group (Accept g ballot slot command) = Unit {0}
Meets made heard group (AcceptedMail g ballot slot) = Unit {0}
Meets made heard group (Nack g promised) = Unit {0}
Meets made heard group (Learn g slot command) = Unit {0}
Meets made heard group (Ask g from_slot) = Unit {0}
Meets made heard group (Install g slot record_of sets) = Unit {0}
Meets made heard group (Told number result) = Unit {0}

-- to be sent elsewhere is heard by anyone who asks
abbrev pub AnyoneHears : (MailBody → Type 0) → Type 0
AnyoneHears heard = (body : MailBody) → heard body → (tx coord : Draw) (hint : Option ℕ) → heard (TxElsewhere tx coord hint)

module _ (ahead : Ahead) (base : Base) where
  abbrev after : List Command → Group
  after log = state_after (birth ahead base) log

  -- what a group's replicas may say and queue, where these are the steps before a row: a log is one that was decided before it
  pub record Speaks (made : Command → Type 0) (heard : MailBody → Type 0) (before : Steps) : Type 0 where
    pub noop : made Noop
    -- whoever asks may be sent elsewhere
    pub elsewhere : AnyoneHears heard
    -- what an entry says to the parties of its transaction
    pub goes_on : (log : List Command) (c : Command) → IsLog (rule ahead base) before (log ++ c ∷ []) → Each made log → made c → (me : ℕ)
        → AreSaid heard (went_on me (applied (after log) c).0 (before_of (after log).core) (applied (after log) c).1 c [])
    -- what a locked group reminds them of
    pub reminds : (log : List Command) → IsLog (rule ahead base) before log → Each made log → (me : ℕ) → AreSaid heard (reminders (after log).core.lock me (after log) [])
    -- a coordinator may give up
    pub gives_up : (log : List Command) → IsLog (rule ahead base) before log → Each made log → (tx : Draw) (body : Body) (order : ℕ) (got : Option Heard) → (after log).core.lock ≡ Coordinating tx body order got → made (GiveUp tx)
    -- what comes of a mail that is heard
    pub meets : (log : List Command) → IsLog (rule ahead base) before log → Each made log → (body : MailBody) → heard body → group_of_mail body ≡ Some (name ahead base) → Meets made heard (after log) body

  -- ---- such mails are of no group, and no steps

  pub said_own : (heard : MailBody → Type 0) (body : MailBody) → IsSaid heard body → IsOwn ahead base heard body
  said_own heard (TxPrepare tx offer) a = a
  said_own heard (TxVote tx coord part vote) a = a
  said_own heard (TxOutcome tx part outcome) a = a
  said_own heard (TxElsewhere tx coord hint) a = a
  said_own heard (TxWatch tx watch) a = a
  said_own heard (TxWatched tx coord part vote) a = a
  said_own heard _ a = absurd a

  pub said_true : (made : Command → Type 0) (heard : MailBody → Type 0) (h : Steps) (mail : Mail) (body : MailBody) → IsSaid heard body → IsTrue ahead base made heard h mail body
  said_true made heard h mail (TxPrepare tx offer) a = a
  said_true made heard h mail (TxVote tx coord part vote) a = a
  said_true made heard h mail (TxOutcome tx part outcome) a = a
  said_true made heard h mail (TxElsewhere tx coord hint) a = a
  said_true made heard h mail (TxWatch tx watch) a = a
  said_true made heard h mail (TxWatched tx coord part vote) a = a
  said_true made heard h mail _ a = absurd a

said_asks : (heard : MailBody → Type 0) (group : Draw) (body : MailBody) → IsSaid heard body → proposer_steps group body ≡ []
said_asks heard group (Prepare g b start) a = absurd a
said_asks heard group (Accept g b slot c) a = absurd a
said_asks heard group _ a = refl

said_no_steps : (heard : MailBody → Type 0) (group : Draw) (said : List Mail) (h : Steps) → AreSaid heard said → asked_in group said h ≡ h
said_no_steps heard group [] h a = refl
said_no_steps heard group (mail ∷ said) h a = ap (λ x. asked_in group said (x ++ h)) (said_asks heard group mail.body a.0) ∙ said_no_steps heard group said h a.1

-- what is said behind other mails asks for nothing
pub said_asked : (heard : MailBody → Type 0) (group : Draw) (mails said : List Mail) (h : Steps) → AreSaid heard said → asked_in group (mails ++ said) h ≡ asked_in group mails h
said_asked heard group [] said h a = said_no_steps heard group said h a
said_asked heard group (mail ∷ mails) said h a = said_asked heard group mails said (proposer_steps group mail.body ++ h) a
