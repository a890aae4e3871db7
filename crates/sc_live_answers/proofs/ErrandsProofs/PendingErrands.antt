-- Of which stage an errand is that is delivered.
use Rattle.std.proofs.Common.{◌≡◌, ℕ, Bool, List, [], ◌∷◌, ◌++◌, Some, inl, inr, refl, sym, ◌∙◌, ap, subst}
use Rattle.std.proofs.lemmas.Bool.{cond-true}
use Rattle.std.proofs.lemmas.Option.{same_Some}
use Rattle.sc_base.specs.Definitions.{Among, same_draw}
use Rattle.sc_node_table.specs.Values.{Draw, Mail, Seat, Deliver}
use Rattle.sc_base.proofs.Lemmas.{same_name}
use Rattle.sc_actor.specs.Definitions.{mails, numbered, row_of}
use Rattle.sc_live_orderly.specs.OrderlyDefinitions.{AreInTime}
use Rattle.sc_live_orderly.proofs.OrderlyLemmas.{last_in_time}
use Rattle.sc_meaning.specs.sound.SoundDefinitions.{Player, player_table}
use Rattle.sc_live_steps.specs.calm.CalmDefinitions.{players, Rows}
use Rattle.sc_live_steps.specs.orders.OrderDefinitions.{errand_by, errand_for, errands_for, Errand, Question, Elsewhere, Reply, Result, Scene, Asks, Closes, ClosesBoth, Deal, IsAt, Leg, Ordered, Recorded, Replied, SentOn, Stage, Still, Weighs, closing, parties_of}
use Rattle.sc_live_steps.proofs.OrderStepsProofs.OrderStepLemmas.{among-left, among-right, found, tagged, tokens, closing-errand, errands_of, no-errand}
use Rattle.sc_live_journals.specs.rows.RowDefinitions.{with_event}
use Rattle.sc_live_journals.specs.scenes.SceneDefinitions.{left_after, scene_at}
use Rattle.sc_live_journals.proofs.ScenesProofs.SceneLemmas.{errands-append, takes_one, calm_is}

-- ---- mail

own_errand : (entry : Draw × Errand) (more : List Errand) → Among entry.1 (errand_for entry.0 (Some entry) ++ more)
own_errand entry more = among-left entry.1 (errand_for entry.0 (Some entry)) more (subst (Among entry.1) (sym (cond-true (same_draw entry.0 entry.0) (entry.1 ∷ []) [] (same_name entry.0 entry.0 refl))) (inl refl))

module _ (words : ℕ → ℕ → ℕ × ℕ) (births : List (Seat Player)) (rows : Rows) (seat : Seat Player) (number : ℕ) (mail : Mail) (timely : AreInTime (players words births) (with_event rows seat (Deliver number))) (sent : numbered (mails rows) number ≡ Some mail) where
  -- a mail that is delivered goes to who takes it, and its errand is under way for its group
  pub goes_to : mail.to ≡ seat.who
  goes_to =
      let calm = (last_in_time (players words births) rows (row_of player_table seat rows (Deliver number)) timely).0 in
      let one = takes_one words births rows seat.who number (calm_is words births rows seat (Deliver number) calm) in
      ap (λ (m : Mail). m.to) (sym (same_Some one.mail mail (sym one.sent ∙ sent))) ∙ one.to_is

  pub is_pending : (entry : Draw × Errand) → errand_by mail.from mail.to mail.body ≡ Some entry → Among entry.1 ((scene_at births rows).at entry.0).errands
  is_pending entry errand =
      let calm = (last_in_time (players words births) rows (row_of player_table seat rows (Deliver number)) timely).0 in
      let one = takes_one words births rows seat.who number (calm_is words births rows seat (Deliver number) calm) in
      let same = same_Some one.mail mail (sym one.sent ∙ sent) in
      let fact : errand_by one.mail.from one.mail.to one.mail.body ≡ Some entry = ap (λ (m : Mail). errand_by m.from m.to m.body) same ∙ errand in
      let has : errands_for entry.0 (left_after rows) ≡ errands_for entry.0 one.takes.before ++ (errand_for entry.0 (Some entry) ++ errands_for entry.0 one.takes.behind) =
      ap (errands_for entry.0) one.takes.had_is ∙ (errands-append entry.0 one.takes.before (one.mail ∷ one.takes.behind)
      ∙ ap (λ o. errands_for entry.0 one.takes.before ++ (errand_for entry.0 o ++ errands_for entry.0 one.takes.behind)) fact) in
      subst (Among entry.1) (sym has) (among-right entry.1 (errands_for entry.0 one.takes.before) (errand_for entry.0 (Some entry) ++ errands_for entry.0 one.takes.behind) (own_errand entry (errands_for entry.0 one.takes.behind)))

-- ---- stages

abbrev Pair : Type 0
Pair = Draw × Errand

-- what kind of errand it is
abbrev IsQuestion : Errand → Type 0
IsQuestion (Question tx coord watch by to) = Unit {0}
IsQuestion (Elsewhere tx to) = ⊥
IsQuestion (Reply tx watch agreed by to) = ⊥
IsQuestion (Result tx to) = ⊥

abbrev IsReply : Errand → Type 0
IsReply (Question tx coord watch by to) = ⊥
IsReply (Elsewhere tx to) = ⊥
IsReply (Reply tx watch agreed by to) = Unit {0}
IsReply (Result tx to) = ⊥

abbrev IsElsewhere : Errand → Type 0
IsElsewhere (Question tx coord watch by to) = ⊥
IsElsewhere (Elsewhere tx to) = Unit {0}
IsElsewhere (Reply tx watch agreed by to) = ⊥
IsElsewhere (Result tx to) = ⊥

-- one that closes is a result
closes_no : (Kind : Errand → Type 0) → ((tx : Draw) (to : ℕ) → Kind (Result tx to) → ⊥) → (tx : Draw) (leg : Leg) (host : ℕ) (name : Draw) (rest : List Pair) (t : Pair) → Kind t.1 → (Among t rest → ⊥) → Among t (tagged name (closing tx leg host).errands ++ rest) → ⊥
closes_no Kind none tx leg host name rest t k more a = elim (closing-errand tx leg host name rest t a) [
  | inl fact ↦ none tx host (subst (λ (x : Pair). Kind x.1) (sym fact.1) k)
  | inr b ↦ more b
]

-- a question: the group is asked, of this transaction
pub record IsAsked (stage : Stage) (group : Draw) (errand : Errand) : Type 0 where
  pub deal : Deal
  pub to : ℕ
  pub fact : stage ≡ Asks deal to
  pub group_is : deal.asked ≡ group
  pub errand_is : Question deal.tx deal.coord (Rattle.sc_live_steps.specs.orders.Scenes.is_watch deal.turn) deal.chief to ≡ errand

question_in : (stage : Stage) (t : Pair) → IsQuestion t.1 → Among t (tokens errands_of (parties_of stage)) → IsAsked stage t.0 t.1
question_in Still t q a = absurd a
question_in (Ordered group chief work) t q a = absurd a
question_in (Asks deal to) t q (inl e) = record { deal = deal; to = to; fact = refl; group_is = ap (λ (x : Pair). x.0) e; errand_is = ap (λ (x : Pair). x.1) e }
question_in (Asks deal to) t q (inr a) = absurd (no-errand deal.tx deal.turn t a)
question_in (SentOn deal) t q (inl e) = absurd (subst (λ (x : Pair). IsQuestion x.1) (sym e) q)
question_in (SentOn deal) t q (inr a) = absurd (no-errand deal.tx deal.turn t a)
question_in (Weighs deal host) t q a = absurd (no-errand deal.tx deal.turn t a)
question_in (Replied deal agreed host) t q (inl e) = absurd (subst (λ (x : Pair). IsQuestion x.1) (sym e) q)
question_in (Replied deal agreed host) t q (inr a) = absurd (no-errand deal.tx deal.turn t a)
question_in (Recorded deal agreed host) t q a = absurd (no-errand deal.tx deal.turn t a)
question_in (Closes tx party) t q a = absurd (closes_no IsQuestion (λ x n k. k) tx party.leg party.host party.group [] t q (λ none. none) a)
question_in (ClosesBoth tx one two) t q a =
    absurd (closes_no IsQuestion (λ x n k. k) tx one.leg one.host one.group (tagged two.group (closing tx two.leg two.host).errands ++ []) t q
    (λ b. closes_no IsQuestion (λ x n k. k) tx two.leg two.host two.group [] t q (λ none. none) b) a)

-- a vote: the coordinator waits for it
pub record IsReplied (stage : Stage) (group : Draw) (errand : Errand) : Type 0 where
  pub deal : Deal
  pub agreed : Bool
  pub host : ℕ
  pub fact : stage ≡ Replied deal agreed host
  pub group_is : deal.coord ≡ group
  pub errand_is : Reply deal.tx (Rattle.sc_live_steps.specs.orders.Scenes.is_watch deal.turn) agreed host deal.chief ≡ errand

reply_in : (stage : Stage) (t : Pair) → IsReply t.1 → Among t (tokens errands_of (parties_of stage)) → IsReplied stage t.0 t.1
reply_in Still t q a = absurd a
reply_in (Ordered group chief work) t q a = absurd a
reply_in (Asks deal to) t q (inl e) = absurd (subst (λ (x : Pair). IsReply x.1) (sym e) q)
reply_in (Asks deal to) t q (inr a) = absurd (no-errand deal.tx deal.turn t a)
reply_in (SentOn deal) t q (inl e) = absurd (subst (λ (x : Pair). IsReply x.1) (sym e) q)
reply_in (SentOn deal) t q (inr a) = absurd (no-errand deal.tx deal.turn t a)
reply_in (Weighs deal host) t q a = absurd (no-errand deal.tx deal.turn t a)
reply_in (Replied deal agreed host) t q (inl e) = record { deal = deal; agreed = agreed; host = host; fact = refl; group_is = ap (λ (x : Pair). x.0) e; errand_is = ap (λ (x : Pair). x.1) e }
reply_in (Replied deal agreed host) t q (inr a) = absurd (no-errand deal.tx deal.turn t a)
reply_in (Recorded deal agreed host) t q a = absurd (no-errand deal.tx deal.turn t a)
reply_in (Closes tx party) t q a = absurd (closes_no IsReply (λ x n k. k) tx party.leg party.host party.group [] t q (λ none. none) a)
reply_in (ClosesBoth tx one two) t q a =
    absurd (closes_no IsReply (λ x n k. k) tx one.leg one.host one.group (tagged two.group (closing tx two.leg two.host).errands ++ []) t q
    (λ b. closes_no IsReply (λ x n k. k) tx two.leg two.host two.group [] t q (λ none. none) b) a)

-- one that is to be asked elsewhere: the coordinator has asked
pub record IsSentOn (stage : Stage) (group : Draw) (errand : Errand) : Type 0 where
  pub deal : Deal
  pub fact : stage ≡ SentOn deal
  pub group_is : deal.coord ≡ group
  pub errand_is : Elsewhere deal.tx deal.chief ≡ errand

elsewhere_in : (stage : Stage) (t : Pair) → IsElsewhere t.1 → Among t (tokens errands_of (parties_of stage)) → IsSentOn stage t.0 t.1
elsewhere_in Still t q a = absurd a
elsewhere_in (Ordered group chief work) t q a = absurd a
elsewhere_in (Asks deal to) t q (inl e) = absurd (subst (λ (x : Pair). IsElsewhere x.1) (sym e) q)
elsewhere_in (Asks deal to) t q (inr a) = absurd (no-errand deal.tx deal.turn t a)
elsewhere_in (SentOn deal) t q (inl e) = record { deal = deal; fact = refl; group_is = ap (λ (x : Pair). x.0) e; errand_is = ap (λ (x : Pair). x.1) e }
elsewhere_in (SentOn deal) t q (inr a) = absurd (no-errand deal.tx deal.turn t a)
elsewhere_in (Weighs deal host) t q a = absurd (no-errand deal.tx deal.turn t a)
elsewhere_in (Replied deal agreed host) t q (inl e) = absurd (subst (λ (x : Pair). IsElsewhere x.1) (sym e) q)
elsewhere_in (Replied deal agreed host) t q (inr a) = absurd (no-errand deal.tx deal.turn t a)
elsewhere_in (Recorded deal agreed host) t q a = absurd (no-errand deal.tx deal.turn t a)
elsewhere_in (Closes tx party) t q a = absurd (closes_no IsElsewhere (λ x n k. k) tx party.leg party.host party.group [] t q (λ none. none) a)
elsewhere_in (ClosesBoth tx one two) t q a =
    absurd (closes_no IsElsewhere (λ x n k. k) tx one.leg one.host one.group (tagged two.group (closing tx two.leg two.host).errands ++ []) t q
    (λ b. closes_no IsElsewhere (λ x n k. k) tx two.leg two.host two.group [] t q (λ none. none) b) a)

module _ (now : Scene) (stage : Stage) (stands : IsAt stage now) (group : Draw) where
  among_tokens : (errand : Errand) → Among errand (now.at group).errands → Among (group, errand) (tokens errands_of (parties_of stage))
  among_tokens errand a = found errands_of now.at group errand a (parties_of stage) stands.parties refl

  pub question_at : (tx coord : Draw) (watch : Bool) (by to : ℕ) → Among (Question tx coord watch by to) (now.at group).errands → IsAsked stage group (Question tx coord watch by to)
  question_at tx coord watch by to a = question_in stage (group, Question tx coord watch by to) tt (among_tokens (Question tx coord watch by to) a)

  pub reply_at : (tx : Draw) (watch agreed : Bool) (by to : ℕ) → Among (Reply tx watch agreed by to) (now.at group).errands → IsReplied stage group (Reply tx watch agreed by to)
  reply_at tx watch agreed by to a = reply_in stage (group, Reply tx watch agreed by to) tt (among_tokens (Reply tx watch agreed by to) a)

  pub elsewhere_at : (tx : Draw) (to : ℕ) → Among (Elsewhere tx to) (now.at group).errands → IsSentOn stage group (Elsewhere tx to)
  elsewhere_at tx to a = elsewhere_in stage (group, Elsewhere tx to) tt (among_tokens (Elsewhere tx to) a)
