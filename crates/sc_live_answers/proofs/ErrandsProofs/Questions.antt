-- What a stage says of a question, and of one that is sent elsewhere.
use Rattle.std.proofs.Common.{◌≡◌, ℕ, Bool, List, [], ◌++◌, inl, inr, refl}
use Rattle.sc_base.specs.Definitions.{Among}
use Rattle.sc_node_table.specs.Values.{Draw}
use Rattle.sc_live_steps.specs.orders.OrderDefinitions.{is_watch, Errand, Question, Elsewhere, Reply, Result, Here, Scene, Deal, Leg, closing, parties_of, Stage, Still, Ordered, Asks, SentOn, Weighs, Replied, Recorded, Closes, ClosesBoth, IsAt}
use Rattle.sc_live_steps.proofs.OrderStepsProofs.OrderStepLemmas.{first, second, tokens, tagged, found, no-errand, closing-errand}

abbrev errands_of : Here → List Errand
errands_of h = h.errands

-- the question of a stage
pub record IsQuestionOf (name tx coord : Draw) (watch : Bool) (stage : Stage) : Type 0 where
  pub deal : Deal
  pub to : ℕ
  pub stage_is : stage ≡ Asks deal to
  pub asked_is : deal.asked ≡ name
  pub tx_is : deal.tx ≡ tx
  pub coord_is : deal.coord ≡ coord
  pub watch_is : is_watch deal.turn ≡ watch

-- the question of a stage that is to be asked elsewhere
pub record IsSentOnIn (name tx : Draw) (stage : Stage) : Type 0 where
  pub deal : Deal
  pub stage_is : stage ≡ SentOn deal
  pub coord_is : deal.coord ≡ name
  pub tx_is : deal.tx ≡ tx

result_last : (tx : Draw) (leg : Leg) (host : ℕ) (name : Draw) (t : Draw × Errand) → Among t (tagged name (closing tx leg host).errands ++ []) → (name, Result tx host) ≡ t
result_last tx leg host name t a = elim (closing-errand tx leg host name [] t a) [ inl r ↦ r.1 | inr none ↦ absurd none ]

module _ (name tx coord : Draw) (watch : Bool) (by to : ℕ) where
  abbrev asked : Draw × Errand
  asked = (name, Question tx coord watch by to)

  no_result : (n other : Draw) (host : ℕ) → (n, Result other host) ≡ asked → ⊥
  no_result n other host e = no_end_here other host (second e)
    where
      no_end_here : (t : Draw) (h : ℕ) → Result t h ≡ Question tx coord watch by to → ⊥
      no_end_here t h x = cc

  no_sent : (t : Draw) (host : ℕ) → Elsewhere t host ≡ Question tx coord watch by to → ⊥
  no_sent t host e = cc

  no_reply : (t : Draw) (w agreed : Bool) (host chief : ℕ) → Reply t w agreed host chief ≡ Question tx coord watch by to → ⊥
  no_reply t w agreed host chief e = cc

  question_in : (stage : Stage) → Among asked (tokens errands_of (parties_of stage)) → IsQuestionOf name tx coord watch stage
  question_in Still a = absurd a
  question_in (Ordered group chief work) a = absurd a
  question_in (Asks deal node) (inl e) =
      let same : Question deal.tx deal.coord (is_watch deal.turn) deal.chief node ≡ Question tx coord watch by to = second e in
      record { deal = deal; to = node; stage_is = refl; asked_is = first e; tx_is = cc; coord_is = cc; watch_is = cc }
  question_in (Asks deal node) (inr a) = absurd (no-errand deal.tx deal.turn asked a)
  question_in (SentOn deal) (inl e) = absurd (no_sent deal.tx deal.chief (second e))
  question_in (SentOn deal) (inr a) = absurd (no-errand deal.tx deal.turn asked a)
  question_in (Weighs deal host) a = absurd (no-errand deal.tx deal.turn asked a)
  question_in (Replied deal agreed host) (inl e) = absurd (no_reply deal.tx (is_watch deal.turn) agreed host deal.chief (second e))
  question_in (Replied deal agreed host) (inr a) = absurd (no-errand deal.tx deal.turn asked a)
  question_in (Recorded deal agreed host) a = absurd (no-errand deal.tx deal.turn asked a)
  question_in (Closes other party) a = absurd (no_result party.group other party.host (result_last other party.leg party.host party.group asked a))
  question_in (ClosesBoth other one two) a = elim (closing-errand other one.leg one.host one.group (tagged two.group (closing other two.leg two.host).errands ++ []) asked a) [
    | inl r ↦ absurd (no_result one.group other one.host r.1)
    | inr more ↦ absurd (no_result two.group other two.host (result_last other two.leg two.host two.group asked more))
  ]

  pub question_stage : (now : Scene) (stage : Stage) → IsAt stage now → Among (Question tx coord watch by to) (now.at name).errands → IsQuestionOf name tx coord watch stage
  question_stage now stage at among = question_in stage (found errands_of now.at name (Question tx coord watch by to) among (parties_of stage) at.parties refl)

module _ (name tx : Draw) (to : ℕ) where
  abbrev sent : Draw × Errand
  sent = (name, Elsewhere tx to)

  no_end : (n other : Draw) (host : ℕ) → (n, Result other host) ≡ sent → ⊥
  no_end n other host e = no_end_here other host (second e)
    where
      no_end_here : (t : Draw) (h : ℕ) → Result t h ≡ Elsewhere tx to → ⊥
      no_end_here t h x = cc

  no_question : (t c : Draw) (w : Bool) (by node : ℕ) → Question t c w by node ≡ Elsewhere tx to → ⊥
  no_question t c w by node e = cc

  no_vote : (t : Draw) (w agreed : Bool) (host chief : ℕ) → Reply t w agreed host chief ≡ Elsewhere tx to → ⊥
  no_vote t w agreed host chief e = cc

  elsewhere_in : (stage : Stage) → Among sent (tokens errands_of (parties_of stage)) → IsSentOnIn name tx stage
  elsewhere_in Still a = absurd a
  elsewhere_in (Ordered group chief work) a = absurd a
  elsewhere_in (Asks deal node) (inl e) = absurd (no_question deal.tx deal.coord (is_watch deal.turn) deal.chief node (second e))
  elsewhere_in (Asks deal node) (inr a) = absurd (no-errand deal.tx deal.turn sent a)
  elsewhere_in (SentOn deal) (inl e) =
      let same : Elsewhere deal.tx deal.chief ≡ Elsewhere tx to = second e in
      record { deal = deal; stage_is = refl; coord_is = first e; tx_is = cc }
  elsewhere_in (SentOn deal) (inr a) = absurd (no-errand deal.tx deal.turn sent a)
  elsewhere_in (Weighs deal host) a = absurd (no-errand deal.tx deal.turn sent a)
  elsewhere_in (Replied deal agreed host) (inl e) = absurd (no_vote deal.tx (is_watch deal.turn) agreed host deal.chief (second e))
  elsewhere_in (Replied deal agreed host) (inr a) = absurd (no-errand deal.tx deal.turn sent a)
  elsewhere_in (Recorded deal agreed host) a = absurd (no-errand deal.tx deal.turn sent a)
  elsewhere_in (Closes other party) a = absurd (no_end party.group other party.host (result_last other party.leg party.host party.group sent a))
  elsewhere_in (ClosesBoth other one two) a = elim (closing-errand other one.leg one.host one.group (tagged two.group (closing other two.leg two.host).errands ++ []) sent a) [
    | inl r ↦ absurd (no_end one.group other one.host r.1)
    | inr more ↦ absurd (no_end two.group other two.host (result_last other two.leg two.host two.group sent more))
  ]

  pub elsewhere_stage : (now : Scene) (stage : Stage) → IsAt stage now → Among (Elsewhere tx to) (now.at name).errands → IsSentOnIn name tx stage
  elsewhere_stage now stage at among = elsewhere_in stage (found errands_of now.at name (Elsewhere tx to) among (parties_of stage) at.parties refl)

-- ---- mail that is left
