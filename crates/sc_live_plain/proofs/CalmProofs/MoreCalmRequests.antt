-- As more requests are begun, what is calm stays so; and clients send requests alone.
use Rattle.std.proofs.Common.{◌≡◌, ℕ, inl, inr, refl, ap}
use Rattle.sc_base.specs.Definitions.{Each}
use Rattle.sc_node_table.specs.Values.{Draw, OrderLine, Input, Got, Mail, MailBody, Request, Answer}
use Rattle.sc_actor.specs.declared.rows.Input.TheVariants.{Go}
use Rattle.sc_client_table.specs.table.TableDefinitions.{Client as ClientState, ClientStep, table}
use Rattle.sc_node_table.specs.NodeDefinitions.{NodeState}
use Rattle.sc_law_walks.proofs.WalkLemmas.{each_sent}
use Rattle.sc_live_plain.specs.PlainDefinitions.{Other, mark, Setting, IsCalmNode, IsAsideBody, IsCalmMail, Requests}
use Rattle.sc_live_plain.proofs.PlainProofs.MorePlainRequests.{IsMore, mail_more, node_more}

module _ (one two : Requests) (more : IsMore one two) (set : Setting) where
  aside_more : (from to : ℕ) (body : MailBody) → IsAsideBody one set from to body → IsAsideBody two set from to body
  aside_more from to (Request group client seq op) a = (a.0, a.1, more client seq op a.2)
  aside_more from to (Answer group seq answer) a = record { client = a.client; op = a.op; to_is = a.to_is; is_begun = more a.client seq a.op a.is_begun; says = a.says }
  aside_more from to _ a = absurd a

  pub calm_mail_more : (mail : Mail) → IsCalmMail one set mail → IsCalmMail two set mail
  calm_mail_more mail (inl p) = inl (mail_more one two more set.frames mail p)
  calm_mail_more mail (inr a) = inr (aside_more mail.from mail.to mail.body a)

  pub calm_node_more : (node : NodeState) → IsCalmNode one set node → IsCalmNode two set node
  calm_node_more node n = record { plain = node_more one two more set.frames node n.plain; own = n.own; has = n.has; runs = n.runs; stops = n.stops }

-- an aside mail is nothing to any group
pub aside_mark : (begun : Requests) (set : Setting) (name : Draw) (mail : Mail) → (body : MailBody) → mail.body ≡ body → IsAsideBody begun set mail.from mail.to body → mark name mail ≡ Other
aside_mark begun set name mail body e a = ap_mark body e a
  where
    ap_mark : (body : MailBody) → mail.body ≡ body → IsAsideBody begun set mail.from mail.to body → mark name mail ≡ Other
    ap_mark (Request group client seq op) e a = ap (λ (b : MailBody). mark name (record { from = mail.from; to = mail.to; body = b })) e
    ap_mark (Answer group seq answer) e a = ap (λ (b : MailBody). mark name (record { from = mail.from; to = mail.to; body = b })) e
    ap_mark _ e a = absurd a

-- ---- clients send requests alone, which are nothing to any group

abbrev pub AsksOnly : ClientStep → Type 0
AsksOnly step = Each (λ mail. (name : Draw) → mark name mail ≡ Other) step.1

asks_only : (client : ClientState) (input : Input Mail OrderLine) → AsksOnly (table client input)
asks_only client input = each_sent (λ mail. (name : Draw) → mark name mail ≡ Other) client (λ group target request name. refl) input

pub takes_only : (mail : Mail) (client : ClientState) → AsksOnly (table client (Got mail))
takes_only mail client = asks_only client (Got mail)

pub go_only : (client : ClientState) → AsksOnly (table client Go)
go_only client = asks_only client Go
