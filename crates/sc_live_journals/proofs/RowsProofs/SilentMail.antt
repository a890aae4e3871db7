-- What is sent leaves no mark for another group than its sender's: mail that stays so whatever is put behind it.
use Rattle.std.proofs.Common.{◌≡◌, ℕ, false, cond, List, [], ◌∷◌, Option, Some, None, refl, ◌∙◌, ap}
use Rattle.sc_base.specs.Definitions.{Each, client_actor, same_draw}
use Rattle.sc_node_table.specs.Values.{Draw, Mail, MailBody, Request, Answer, Prepare, Promise, Accept, Accepted, Nack, Learn, Ask, Install, TxPrepare, TxVote, TxOutcome, TxElsewhere, TxWatch, TxWatched, Told}
use Rattle.sc_words.proofs.PaxosProofs.PaxosLemmas.{Each-append}
use Rattle.sc_node_table.specs.NodeDefinitions.{sent}
use Rattle.sc_law_walks.proofs.WalkLemmas.{Talk}
use Rattle.sc_live_steps.specs.following.FollowingDefinitions.{Mark, Teaches, named_mark, mark_of}

-- the mark of a mail of the group with this name, where a refusal, a request and what asks for entries leave one too: all mail of the group but that of a transaction
abbrev pub wide_mark : Draw → ℕ → MailBody → Option Mark
wide_mark name from (Nack group promised) = named_mark name group (Teaches 0)
wide_mark name from (Ask group from_slot) = named_mark name group (Teaches 0)
wide_mark name from (Request group client seq op) = named_mark name group (Teaches 0)
wide_mark name from (Accept group ballot slot command) = mark_of name from (Accept group ballot slot command)
wide_mark name from (Accepted group ballot slot) = mark_of name from (Accepted group ballot slot)
wide_mark name from (Learn group slot command) = mark_of name from (Learn group slot command)
wide_mark name from (Install group slot base sets) = mark_of name from (Install group slot base sets)
wide_mark name from (Prepare group ballot from_slot) = mark_of name from (Prepare group ballot from_slot)
wide_mark name from (Promise group ballot reports) = mark_of name from (Promise group ballot reports)
wide_mark name from _ = None

-- one that leaves none of these leaves no mark
pub narrow : (name : Draw) (from : ℕ) (body : MailBody) → wide_mark name from body ≡ None → mark_of name from body ≡ None
narrow name from (Accept group ballot slot command) e = e
narrow name from (Accepted group ballot slot) e = e
narrow name from (Learn group slot command) e = e
narrow name from (Install group slot base sets) e = e
narrow name from (Prepare group ballot from_slot) e = e
narrow name from (Promise group ballot reports) e = e
narrow name from _ e = refl

-- a body from a node leaves no such mark for another group than the one of this name
abbrev pub IsQuietBody : Draw → ℕ → MailBody → Type 0
IsQuietBody name me body = (other : Draw) → same_draw name other ≡ false → wide_mark other me body ≡ None

-- a mail leaves no such mark for another group
abbrev pub IsQuietMail : Draw → Mail → Type 0
IsQuietMail name mail = IsQuietBody name mail.from mail.body

-- each of these mails leaves no such mark for another group
abbrev pub AreQuiet : Draw → List Mail → Type 0
AreQuiet name mails = Each (IsQuietMail name) mails

-- mail of the group itself leaves none
pub own_quiet : (name group other : Draw) (mark : Mark) → group ≡ name → same_draw name other ≡ false → cond (same_draw group other) (Some mark) None ≡ None
own_quiet name group other mark e f = ap (λ b. cond b (Some mark) None) (ap (λ n. same_draw n other) e ∙ f)

module _ (name : Draw) where
  pub one_sent : (me to : ℕ) (body : MailBody) (mails : List Mail) → IsQuietBody name me body → AreQuiet name mails → AreQuiet name (sent me to body mails)
  one_sent me to body mails q m = Each-append (IsQuietMail name) mails (record { from = me; to = to; body = body } ∷ []) m (q, tt)

  -- mail to a client, to the desk and to a party of a transaction leaves none
  pub quiet_talk : (me : ℕ) → Talk me (AreQuiet name)
  quiet_talk me = record {
    tells = λ number result mails m. one_sent me 0 (Told number result) mails (λ other f. refl) m;
    answers = λ client group seq answer mails m. one_sent me (client_actor client) (Answer group seq answer) mails (λ other f. refl) m;
    offers = λ to tx offer mails own m. one_sent me to (TxPrepare tx offer) mails (λ other f. refl) m;
    watches = λ to tx watch mails own m. one_sent me to (TxWatch tx watch) mails (λ other f. refl) m;
    casts = λ to tx coord part vote mails m. one_sent me to (TxVote tx coord part vote) mails (λ other f. refl) m;
    sees = λ to tx coord part vote mails m. one_sent me to (TxWatched tx coord part vote) mails (λ other f. refl) m;
    ends = λ to tx part outcome mails m. one_sent me to (TxOutcome tx part outcome) mails (λ other f. refl) m;
    sends_on = λ to tx coord hint mails m. one_sent me to (TxElsewhere tx coord hint) mails (λ other f. refl) m;
  }
