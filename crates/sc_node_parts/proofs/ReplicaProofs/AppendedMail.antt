-- Mails are only appended: where there is none in the end, there was none before, and nobody was sent one.
use Rattle.std.proofs.Common.{◌≡◌, ℕ, Bool, true, false, ◌==◌, not, List, [], ◌∷◌, ◌++◌, if◌then◌else◌, cond, filter, Option, refl, sym, ap, ◌∙◌, All, arith, suc, ◌+◌, ◌<◌, add-one, length, get_or, drop}
use Rattle.std.proofs.lemmas.List.Elements.{All-nil, All-cons}
use Rattle.std.proofs.lemmas.Bool.{eqb-true, ltb-false}
use Rattle.std.proofs.Math.Seq.{drop-cons}
use Rattle.sc_base.specs.declared.names.Draw.{Draw}
use Rattle.sc_words.specs.declared.commands.commands.Command.{Command}
use Rattle.sc_words.specs.declared.commands.commands.Command.TheVariants.{Noop, Call, Join, Leave, Split, Begin, Prepared, RecordVote, GiveUp, Finish, Watched, RecordWatch}
use Rattle.sc_words.specs.declared.commands.orders.OrderResult.{OrderResult}
use Rattle.sc_mail.specs.declared.bodies.AnswerBody.{AnswerBody}
use Rattle.sc_mail.specs.declared.bodies.MailBody.{MailBody}
use Rattle.sc_mail.specs.declared.bodies.Mail.{Mail}
use Rattle.sc_group_table.specs.policy.Wishes.{is_reported}
use Rattle.sc_node_parts.specs.replica.Requests.{is_request}
use Rattle.sc_node_table.specs.Mails.{sent, sent_all, sent_others, answered, answered_all, order_number, order_reported, dismissed, dismissed_all}

-- behind one more there is one
pub one_more : {X : Type 0} (xs : List X) (x : X) → xs ++ x ∷ [] ≡ [] → ⊥
one_more [] x e = cc
one_more (y ∷ xs) x e = cc

-- one more or none
pub unless_one : {X : Type 0} (b : Bool) (xs : List X) (x : X) → (if b then xs else xs ++ x ∷ []) ≡ [] → xs ≡ []
unless_one true xs x e = e
unless_one false xs x e = absurd (one_more xs x e)

pub if_one : {X : Type 0} (b : Bool) (xs : List X) (x : X) → (if b then xs ++ x ∷ [] else xs) ≡ [] → xs ≡ []
if_one true xs x e = absurd (one_more xs x e)
if_one false xs x e = e

is_none : {X : Type 0} (b : Bool) (xs : List X) (x : X) → (if b then xs ++ x ∷ [] else xs) ≡ [] → b ≡ false
is_none true xs x e = absurd (one_more xs x e)
is_none false xs x e = refl

-- to each of several nodes
pub sent_all-before : (me : ℕ) (nodes : List ℕ) (body : MailBody) (mails : List Mail) → sent_all me nodes body mails ≡ [] → mails ≡ []
unfolding sent_all
sent_all-before me [] body mails e = e
sent_all-before me (node ∷ nodes) body mails e = absurd (one_more mails _ (sent_all-before me nodes body (sent me node body mails) e))

pub sent_all-none : (me : ℕ) (nodes : List ℕ) (body : MailBody) (mails : List Mail) → sent_all me nodes body mails ≡ [] → nodes ≡ []
unfolding sent_all
sent_all-none me [] body mails e = refl
sent_all-none me (node ∷ nodes) body mails e = absurd (one_more mails _ (sent_all-before me nodes body (sent me node body mails) e))

-- to each of several nodes but the sender
pub sent_others-before : (me : ℕ) (nodes : List ℕ) (body : MailBody) (mails : List Mail) → sent_others me nodes body mails ≡ [] → mails ≡ []
unfolding sent_others
sent_others-before me [] body mails e = e
sent_others-before me (node ∷ nodes) body mails e = unless_one (node == me) mails _ (sent_others-before me nodes body _ e)

is_sender : (b : Bool) (mails : List Mail) (mail : Mail) → (if b then mails else mails ++ mail ∷ []) ≡ [] → b ≡ true
is_sender true mails mail e = refl
is_sender false mails mail e = absurd (one_more mails mail e)

pub sent_others-alone : (me : ℕ) (nodes : List ℕ) (body : MailBody) (mails : List Mail) → sent_others me nodes body mails ≡ [] → All (λ node. node ≡ me) nodes
unfolding sent_others
sent_others-alone me [] body mails e = All-nil _
sent_others-alone me (node ∷ nodes) body mails e =
    All-cons (λ (n : ℕ). n ≡ me) node nodes (eqb-true node me (is_sender (node == me) mails _ (sent_others-before me nodes body _ e))) (sent_others-alone me nodes body _ e)

-- to the client of a call
pub answered-before : (me : ℕ) (group : Draw) (answer : AnswerBody) (command : Command) (mails : List Mail) → answered me group answer command mails ≡ [] → mails ≡ []
unfolding answered
answered-before me group answer (Call client seq op) mails e = absurd (one_more mails _ e)
answered-before me group answer Noop mails e = e
answered-before me group answer (Join node order) mails e = e
answered-before me group answer (Leave node order) mails e = e
answered-before me group answer (Split at child order) mails e = e
answered-before me group answer (Begin tx body order) mails e = e
answered-before me group answer (Prepared tx offer) mails e = e
answered-before me group answer (RecordVote tx vote by) mails e = e
answered-before me group answer (GiveUp tx) mails e = e
answered-before me group answer (Finish tx outcome) mails e = e
answered-before me group answer (Watched tx watch) mails e = e
answered-before me group answer (RecordWatch tx vote by) mails e = e

pub answered-others : (me : ℕ) (group : Draw) (answer : AnswerBody) (command : Command) (mails : List Mail) → answered me group answer command mails ≡ [] → is_request command ≡ false
unfolding answered
answered-others me group answer (Call client seq op) mails e = absurd (one_more mails _ e)
answered-others me group answer Noop mails e = refl
answered-others me group answer (Join node order) mails e = refl
answered-others me group answer (Leave node order) mails e = refl
answered-others me group answer (Split at child order) mails e = refl
answered-others me group answer (Begin tx body order) mails e = refl
answered-others me group answer (Prepared tx offer) mails e = refl
answered-others me group answer (RecordVote tx vote by) mails e = refl
answered-others me group answer (GiveUp tx) mails e = refl
answered-others me group answer (Finish tx outcome) mails e = refl
answered-others me group answer (Watched tx watch) mails e = refl
answered-others me group answer (RecordWatch tx vote by) mails e = refl

pub answered_all-before : (me : ℕ) (group : Draw) (answer : AnswerBody) (commands : List Command) (mails : List Mail) → answered_all me group answer commands mails ≡ [] → mails ≡ []
unfolding answered_all
answered_all-before me group answer [] mails e = e
answered_all-before me group answer (command ∷ commands) mails e = answered-before me group answer command mails (answered_all-before me group answer commands _ e)

-- to the desk
pub order_reported-before : (me number : ℕ) (result : OrderResult) (mails : List Mail) → order_reported me number result mails ≡ [] → mails ≡ []
unfolding order_reported
order_reported-before me number result mails e = if_one (is_reported number) mails _ e

pub dismissed-before : (me : ℕ) (group : Draw) (hint : Option ℕ) (answer : AnswerBody) (command : Command) (mails : List Mail) → dismissed me group hint answer command mails ≡ [] → mails ≡ []
unfolding dismissed
dismissed-before me group hint answer (Call client seq op) mails e = absurd (one_more mails _ e)
dismissed-before me group hint answer Noop mails e = order_reported-before me _ _ mails e
dismissed-before me group hint answer (Join node order) mails e = order_reported-before me _ _ mails e
dismissed-before me group hint answer (Leave node order) mails e = order_reported-before me _ _ mails e
dismissed-before me group hint answer (Split at child order) mails e = order_reported-before me _ _ mails e
dismissed-before me group hint answer (Begin tx body order) mails e = order_reported-before me _ _ mails e
dismissed-before me group hint answer (Prepared tx offer) mails e = order_reported-before me _ _ mails e
dismissed-before me group hint answer (RecordVote tx vote by) mails e = order_reported-before me _ _ mails e
dismissed-before me group hint answer (GiveUp tx) mails e = order_reported-before me _ _ mails e
dismissed-before me group hint answer (Finish tx outcome) mails e = order_reported-before me _ _ mails e
dismissed-before me group hint answer (Watched tx watch) mails e = order_reported-before me _ _ mails e
dismissed-before me group hint answer (RecordWatch tx vote by) mails e = order_reported-before me _ _ mails e

pub order_reported-unreported : (me number : ℕ) (result : OrderResult) (mails : List Mail) → order_reported me number result mails ≡ [] → number ≡ 0
unfolding order_reported
order_reported-unreported me number result mails e = omega (arith, ltb-false 0 number (is_none (is_reported number) mails _ e))

pub dismissed-unreported : (me : ℕ) (group : Draw) (hint : Option ℕ) (answer : AnswerBody) (command : Command) (mails : List Mail) → dismissed me group hint answer command mails ≡ [] → order_number command ≡ 0
unfolding dismissed
dismissed-unreported me group hint answer (Call client seq op) mails e = refl
dismissed-unreported me group hint answer Noop mails e = refl
dismissed-unreported me group hint answer (Join node order) mails e = order_reported-unreported me order _ mails e
dismissed-unreported me group hint answer (Leave node order) mails e = order_reported-unreported me order _ mails e
dismissed-unreported me group hint answer (Split at child order) mails e = order_reported-unreported me order _ mails e
dismissed-unreported me group hint answer (Begin tx body order) mails e = order_reported-unreported me order _ mails e
dismissed-unreported me group hint answer (Prepared tx offer) mails e = refl
dismissed-unreported me group hint answer (RecordVote tx vote by) mails e = refl
dismissed-unreported me group hint answer (GiveUp tx) mails e = refl
dismissed-unreported me group hint answer (Finish tx outcome) mails e = refl
dismissed-unreported me group hint answer (Watched tx watch) mails e = refl
dismissed-unreported me group hint answer (RecordWatch tx vote by) mails e = refl

pub dismissed_all-before : (me : ℕ) (group : Draw) (hint : Option ℕ) (answer : AnswerBody) (commands : List Command) (mails : List Mail)
    → dismissed_all me group hint answer commands mails ≡ [] → mails ≡ []
unfolding dismissed_all
dismissed_all-before me group hint answer [] mails e = e
dismissed_all-before me group hint answer (command ∷ commands) mails e =
    dismissed-before me group hint answer command mails (dismissed_all-before me group hint answer commands _ e)

dismissed_all-cons : (me : ℕ) (group : Draw) (hint : Option ℕ) (answer : AnswerBody) (command : Command) (commands : List Command) → dismissed_all me group hint answer (command ∷ commands) [] ≡ []
    → (dismissed me group hint answer command [] ≡ []) × (dismissed_all me group hint answer commands [] ≡ [])
unfolding dismissed_all
dismissed_all-cons me group hint answer command commands e =
    let n : dismissed me group hint answer command [] ≡ [] = dismissed_all-before me group hint answer commands _ e in
    (n, ap (dismissed_all me group hint answer commands) (sym n) ∙ e)

-- to several clients and the desk, a command at a time
dismissed_all-again : (me : ℕ) (group : Draw) (hint : Option ℕ) (answer : AnswerBody) (command : Command) (commands : List Command) (mails : List Mail)
    → dismissed_all me group hint answer commands (dismissed me group hint answer command mails) ≡ dismissed_all me group hint answer (command ∷ commands) mails
unfolding dismissed_all
dismissed_all-again me group hint answer command commands mails = refl

pub dismissed_all-more : (me : ℕ) (group : Draw) (hint : Option ℕ) (answer : AnswerBody) (commands : List Command) (i : ℕ) (command : Command) (mails more : List Mail) → i < length commands
    → command ≡ get_or commands i command → more ≡ dismissed me group hint answer command mails
    → dismissed_all me group hint answer (drop (i + 1) commands) more ≡ dismissed_all me group hint answer (drop i commands) mails
dismissed_all-more me group hint answer commands i command mails more less is same =
    ap (λ n. dismissed_all me group hint answer (drop n commands) more) (add-one i)
    ∙ ap (dismissed_all me group hint answer (drop (suc i) commands)) (same ∙ ap (λ c. dismissed me group hint answer c mails) is)
    ∙ dismissed_all-again me group hint answer (get_or commands i command) (drop (suc i) commands) mails
    ∙ ap (λ cs. dismissed_all me group hint answer cs mails) (sym (drop-cons commands i command less))

pub dismissed_all-none : (me : ℕ) (group : Draw) (hint : Option ℕ) (answer : AnswerBody) (commands : List Command) (i : ℕ) (command : Command) → i < length commands
    → command ≡ get_or commands i command → dismissed_all me group hint answer (drop i commands) [] ≡ []
    → (dismissed me group hint answer command [] ≡ []) × (dismissed_all me group hint answer (drop (i + 1) commands) [] ≡ [])
dismissed_all-none me group hint answer commands i command less is e =
    let both = dismissed_all-cons me group hint answer (get_or commands i command) (drop (suc i) commands) (ap (λ cs. dismissed_all me group hint answer cs []) (sym (drop-cons commands i command less)) ∙ e) in
    (ap (λ c. dismissed me group hint answer c []) is ∙ both.0, ap (λ n. dismissed_all me group hint answer (drop n commands) []) (add-one i) ∙ both.1)

-- a filter that keeps none
passes : {X : Type 0} (b : Bool) (x : X) (xs : List X) → cond (not b) (x ∷ xs) xs ≡ [] → b ≡ true
passes true x xs e = refl
passes false x xs e = cc

keeps_none : {X : Type 0} (b : Bool) (x : X) (xs : List X) → cond (not b) (x ∷ xs) xs ≡ [] → xs ≡ []
keeps_none true x xs e = e
keeps_none false x xs e = cc

pub filter-none : {X : Type 0} (p : X → Bool) (xs : List X) → filter (λ x. not (p x)) xs ≡ [] → All (λ x. p x ≡ true) xs
filter-none p [] e = All-nil _
filter-none p (x ∷ xs) e = All-cons (λ y. p y ≡ true) x xs (passes (p x) x _ e) (filter-none p xs (keeps_none (p x) x _ e))
