-- What is said of calls, and of all other commands.
use Rattle.std.proofs.Common.{◌≡◌, ℕ, Bool, true, false, [], Option, Some, None, refl, sym, ap, ◌∙◌, if◌then◌else◌}
use Rattle.sc_words.specs.declared.commands.commands.Command.{Command}
use Rattle.sc_words.specs.declared.commands.commands.Command.TheVariants.{Noop, Call, Join, Leave, Split, Begin, Prepared, RecordVote, GiveUp, Finish, Watched, RecordWatch}
use Rattle.sc_words.specs.commands.CommandDefinitions.{result_of}
use Rattle.sc_words.specs.declared.commands.effects.Effect.{Effect}
use Rattle.sc_words.specs.declared.commands.orders.OrderResult.{OrderResult}
use Rattle.sc_mail.specs.declared.bodies.AnswerBody.{AnswerBody}
use Rattle.sc_node_table.specs.declared.Before.{Before}
use Rattle.sc_node_table.specs.Replica.{ReplicaState, Place}
use Rattle.sc_node_table.specs.Spoken.{begun_reported, went_on, spoken_mails, spoken}
use Rattle.sc_node_table.specs.Execute.{answer_of, answered_or_put_back, effect_reported, order_result, announced}
use Rattle.sc_node_parts.specs.replica.Requests.{is_request}

-- of a call nothing is said but its answer
pub nothing_of_requests : (counted : Bool) (before : Before) (effect : Effect) (c : Command) (place : Place) → is_request c ≡ true
    → spoken counted before effect c (announced counted effect c place) ≡ (if counted then answered_or_put_back (answer_of effect) c place else place)
unfolding spoken spoken_mails begun_reported went_on effect_reported announced
nothing_of_requests true before effect (Call client seq op) place e = refl
nothing_of_requests false before effect (Call client seq op) place e = refl
nothing_of_requests counted before effect Noop place e = absurd (cc)
nothing_of_requests counted before effect (Join node order) place e = absurd (cc)
nothing_of_requests counted before effect (Leave node order) place e = absurd (cc)
nothing_of_requests counted before effect (Split at child order) place e = absurd (cc)
nothing_of_requests counted before effect (Begin tx body order) place e = absurd (cc)
nothing_of_requests counted before effect (Prepared tx offer) place e = absurd (cc)
nothing_of_requests counted before effect (RecordVote tx vote by) place e = absurd (cc)
nothing_of_requests counted before effect (GiveUp tx) place e = absurd (cc)
nothing_of_requests counted before effect (Finish tx outcome) place e = absurd (cc)
nothing_of_requests counted before effect (Watched tx watch) place e = absurd (cc)
nothing_of_requests counted before effect (RecordWatch tx vote by) place e = absurd (cc)

answered : (counted : Bool) (a : Option AnswerBody) (c : Command) (place : Place) → is_request c ≡ false → (if counted then answered_or_put_back a c place else place) ≡ place
unfolding answered_or_put_back
answered false a c place e = refl
answered true a (Call client seq op) place e = absurd (cc)
answered true None Noop place e = refl
answered true None (Join node order) place e = refl
answered true None (Leave node order) place e = refl
answered true None (Split at child order) place e = refl
answered true None (Begin tx body order) place e = refl
answered true None (Prepared tx offer) place e = refl
answered true None (RecordVote tx vote by) place e = refl
answered true None (GiveUp tx) place e = refl
answered true None (Finish tx outcome) place e = refl
answered true None (Watched tx watch) place e = refl
answered true None (RecordWatch tx vote by) place e = refl
answered true (Some answer) Noop place e = refl
answered true (Some answer) (Join node order) place e = refl
answered true (Some answer) (Leave node order) place e = refl
answered true (Some answer) (Split at child order) place e = refl
answered true (Some answer) (Begin tx body order) place e = refl
answered true (Some answer) (Prepared tx offer) place e = refl
answered true (Some answer) (RecordVote tx vote by) place e = refl
answered true (Some answer) (GiveUp tx) place e = refl
answered true (Some answer) (Finish tx outcome) place e = refl
answered true (Some answer) (Watched tx watch) place e = refl
answered true (Some answer) (RecordWatch tx vote by) place e = refl

-- no other command is answered
pub no_answer_of_others : (counted : Bool) (effect : Effect) (c : Command) (place : Place) → is_request c ≡ false → announced counted effect c place ≡ effect_reported (order_result c effect) c place
unfolding announced
no_answer_of_others counted effect c place e = ap (effect_reported (order_result c effect) c) (answered counted (answer_of effect) c place e)

-- what an executed join or leave comes to is all that is said of it
joined_none : (counted : Bool) (told : Option OrderResult) (before : Before) (effect : Effect) (node order : ℕ) (r : ReplicaState)
    → (spoken counted before effect (Join node order) (effect_reported told (Join node order) (r, []))).1 ≡ []
    → ((effect_reported told (Join node order) (r, [])).1 ≡ []) × ((spoken counted before effect (Join node order) (r, [])).1 ≡ [])
unfolding spoken spoken_mails begun_reported went_on effect_reported
joined_none true None before effect node order r e = (refl, refl)
joined_none true (Some result) before effect node order r e = (e, refl)
joined_none false None before effect node order r e = (refl, refl)
joined_none false (Some result) before effect node order r e = (e, refl)

left_none : (counted : Bool) (told : Option OrderResult) (before : Before) (effect : Effect) (node order : ℕ) (r : ReplicaState)
    → (spoken counted before effect (Leave node order) (effect_reported told (Leave node order) (r, []))).1 ≡ []
    → ((effect_reported told (Leave node order) (r, [])).1 ≡ []) × ((spoken counted before effect (Leave node order) (r, [])).1 ≡ [])
unfolding spoken spoken_mails begun_reported went_on effect_reported
left_none true None before effect node order r e = (refl, refl)
left_none true (Some result) before effect node order r e = (e, refl)
left_none false None before effect node order r e = (refl, refl)
left_none false (Some result) before effect node order r e = (e, refl)

-- of other commands nothing is told beside what their transaction says
told_none : (counted : Bool) (before : Before) (effect : Effect) (c : Command) (r : ReplicaState)
    → (spoken counted before effect c (effect_reported (order_result c effect) c (r, []))).1 ≡ []
    → ((effect_reported (order_result c effect) c (r, [])).1 ≡ []) × ((spoken counted before effect c (r, [])).1 ≡ [])
unfolding effect_reported
told_none counted before effect (Join node order) r e = joined_none counted (result_of effect) before effect node order r e
told_none counted before effect (Leave node order) r e = left_none counted (result_of effect) before effect node order r e
told_none counted before effect Noop r e = (refl, e)
told_none counted before effect (Call client seq op) r e = (refl, e)
told_none counted before effect (Split at child order) r e = (refl, e)
told_none counted before effect (Begin tx body order) r e = (refl, e)
told_none counted before effect (Prepared tx offer) r e = (refl, e)
told_none counted before effect (RecordVote tx vote by) r e = (refl, e)
told_none counted before effect (GiveUp tx) r e = (refl, e)
told_none counted before effect (Finish tx outcome) r e = (refl, e)
told_none counted before effect (Watched tx watch) r e = (refl, e)
told_none counted before effect (RecordWatch tx vote by) r e = (refl, e)

-- where nothing is said of a command that is no call, the desk is told nothing, and its transaction says nothing
pub others_none : (counted : Bool) (before : Before) (effect : Effect) (c : Command) (r : ReplicaState) → is_request c ≡ false
    → (spoken counted before effect c (announced counted effect c (r, []))).1 ≡ []
    → ((effect_reported (order_result c effect) c (r, [])).1 ≡ []) × ((spoken counted before effect c (r, [])).1 ≡ [])
others_none counted before effect c r other e =
    told_none counted before effect c r (ap (λ (p : Place). (spoken counted before effect c p).1) (sym (no_answer_of_others counted effect c (r, []) other)) ∙ e)
