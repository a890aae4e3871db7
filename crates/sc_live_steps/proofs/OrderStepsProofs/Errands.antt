-- The errands of mail that is sent.
use Rattle.std.proofs.Common.{◌≡◌, ℕ, Bool, true, false, cond, List, [], ◌∷◌, ◌++◌, Some, None, refl, sym, ◌∙◌, ap, append-nil}
use Rattle.std.proofs.lemmas.List.{append_assoc}
use Rattle.sc_base.specs.Definitions.{same_draw}
use Rattle.sc_node_table.specs.Values.{Draw, Mail, MailBody}
use Rattle.sc_base.proofs.Lemmas.{draw_is, same_name}
use Rattle.sc_node_table.specs.NodeDefinitions.{sent, sent_all}
use Rattle.sc_live_steps.specs.orders.OrderDefinitions.{Errand, IsOnly, errand_by, errand_for, errands_for}

-- a mail that is put last
pub errands-push : (name : Draw) (mails : List Mail) (mail : Mail) → errands_for name (mails ++ mail ∷ []) ≡ errands_for name mails ++ errand_for name (errand_by mail.from mail.to mail.body)
errands-push name [] mail = append-nil (errand_for name (errand_by mail.from mail.to mail.body))
errands-push name (first ∷ mails) mail =
    ap (λ l. errand_for name (errand_by first.from first.to first.body) ++ l) (errands-push name mails mail)
    ∙ sym (append_assoc (errand_for name (errand_by first.from first.to first.body)) (errands_for name mails) (errand_for name (errand_by mail.from mail.to mail.body)))

-- one that is no errand
pub errands-none : (name : Draw) (me to : ℕ) (body : MailBody) (mails : List Mail) → errand_by me to body ≡ None → errands_for name (sent me to body mails) ≡ errands_for name mails
errands-none name me to body mails e =
    errands-push name mails (record { from = me; to = to; body = body }) ∙ (ap (λ o. errands_for name mails ++ errand_for name o) e ∙ append-nil (errands_for name mails))

-- a mail that is no errand, sent to several nodes
pub errands-all : (name : Draw) (me : ℕ) (nodes : List ℕ) (body : MailBody) (mails : List Mail) → ((to : ℕ) → errand_by me to body ≡ None) → errands_for name (sent_all me nodes body mails) ≡ errands_for name mails
unfolding sent_all
errands-all name me [] body mails e = refl
errands-all name me (node ∷ nodes) body mails e = errands-all name me nodes body (sent me node body mails) e ∙ errands-none name me node body mails (e node)

-- an errand is for its group
pub errand-own : (name : Draw) (errand : Errand) → errand_for name (Some (name, errand)) ≡ errand ∷ []
errand-own name errand = ap (λ b. cond b (errand ∷ []) []) (same_name name name refl)

pub errand-other : (name other : Draw) (errand : Errand) → (name ≡ other → ⊥) → errand_for name (Some (other, errand)) ≡ []
errand-other name other errand ne = by (same_draw other name) refl
  where
    by : (b : Bool) → same_draw other name ≡ b → cond b (errand ∷ []) [] ≡ []
    by true e = absurd (ne (sym (draw_is other name e)))
    by false e = refl

-- one errand alone
pub one-errand : (me to : ℕ) (body : MailBody) (name : Draw) (errand : Errand) → errand_by me to body ≡ Some (name, errand) → IsOnly [] ((name, errand ∷ []) ∷ []) (λ other. errands_for other (sent me to body []))
one-errand me to body name errand e = (
  (append-nil (errand_for name (errand_by me to body)) ∙ (ap (errand_for name) e ∙ errand-own name errand), tt),
  λ other none. append-nil (errand_for other (errand_by me to body)) ∙ (ap (errand_for other) e ∙ errand-other other name errand none.0),
)
