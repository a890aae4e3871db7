-- What a client may do: it sends its request on, begins the next one, ends, or takes no notice; and it asks a group that it knows.
use Rattle.std.proofs.Common.{◌≡◌, ℕ, ◌+◌, ◌-◌, ◌<◌, ◌≤◌, true, List, [], ◌∷◌, ◌++◌, length, Option, Some, None, ◌⊎◌, inl, inr, refl, sym, ◌∙◌, ap, subst, arith}
use Rattle.std.specs.Prelude.{nat_le, slice_get, is_some}
use Rattle.std.specs.Option.{option_map}
use Rattle.std.specs.Map.{lookup}
use Rattle.std.proofs.lemmas.Bool.{cond_both, leb-true, leb-false, both_ways}
use Rattle.std.proofs.lemmas.List.{length_push}
use Rattle.std.proofs.lemmas.Option.{slice_get_within, slice_get_cases}
use Rattle.sc_base.specs.Definitions.{Among, key_of, same_draw, pos_of}
use Rattle.sc_base.proofs.Lemmas.{same_name}
use Rattle.sc_node_table.specs.Values.{Draw, Op, Reply, AnswerBody, Value, Mail, Answer}
use Rattle.sc_client_table.specs.declared.lookup.ways.Way.{Way}
use Rattle.sc_client_table.specs.lookup.LookupDefinitions.{KnownGroups, way_to, changed, target_of}
use Rattle.sc_client_table.proofs.LookupProofs.KnownLemmas.{set_value-known, length-changed}
use Rattle.sc_client_table.specs.table.TableDefinitions.{Client, request_at, waiting_request, ClientStep, asked_of, sent_to, sent_where, chosen_for, request_sent, started, request_of}
use Rattle.sc_live_plain.proofs.PlainLemmas.{one_chosen, chosen_is}
use Rattle.sc_law_walks.proofs.WalkLemmas.{some_there, redirects}
use Rattle.sc_live_healed.specs.AskingClients.{IsAskingOn, IsAskingClient}

-- ---- groups that are known

in_known : (group : Draw) (known : KnownGroups) (entry : Draw × Way) → Among entry known → entry.0 ≡ group → is_some (way_to group known) ≡ true
in_known group [] entry a e = absurd a
in_known group (f ∷ known) entry (inl fact) e =
    cond_both (same_draw group f.0) (Some f.1) (lookup (same_draw group) known) (λ o. is_some o ≡ true) (λ _. refl)
    (λ no. absurd (both_ways (same_draw group f.0) no (same_name group f.0 (sym (ap (λ (x : Draw × Way). x.0) fact ∙ e)))))
in_known group (f ∷ known) entry (inr a) e =
    cond_both (same_draw group f.0) (Some f.1) (lookup (same_draw group) known) (λ o. is_some o ≡ true) (λ _. refl) (λ _. in_known group known entry a e)

changed_known : (change : Way → Way) (other group : Draw) (known : KnownGroups) (way : Option Way) → is_some (way_to other (changed change group known way)) ≡ is_some (way_to other known)
changed_known change other group known None = refl
changed_known change other group known (Some way) = set_value-known (same_draw other) (same_draw group) known (change way)

-- ---- a request is sent

-- a client in which a request waits
pub record IsReady (seq : ℕ) (op : Op) (client : Client) : Type 0 where
  pub waits : client.waiting ≡ Some seq
  pub number : seq ≡ length client.replies + 1
  pub op_is : slice_get client.requests (seq - 1) ≡ Some op
  pub some : 1 ≤ length client.known

-- the client asks a group that it knows: its waiting request is all that is sent
pub record DidAskOn (seq : ℕ) (op : Op) (client : Client) (after : ClientStep) : Type 0 where
  pub group : Draw
  pub target : ℕ
  pub after_is : after ≡ (record client { asked = Some (group, target) }, request_of client.me group target (seq, op) ∷ [])
  pub knows : is_some (way_to group client.known) ≡ true

request_is : (seq : ℕ) (op : Op) (client : Client) → IsReady seq op client → waiting_request client ≡ Some (seq, op)
request_is seq op client k = ap (request_at client.requests) k.waits ∙ ap (λ (o : Option Op). option_map (λ x. (seq, x)) o) k.op_is

-- it is sent to a group that is known
sent_on : (seq : ℕ) (op : Op) (client : Client) (group : Draw) → IsReady seq op client → is_some (way_to group client.known) ≡ true → DidAskOn seq op client (sent_to group client)
sent_on seq op client group k known =
    let way = some_there (way_to group client.known) known in
    record {
      group = group;
      target = target_of way.0;
      after_is =
          ap (λ (o : Option ℕ). asked_of client group o (waiting_request client)) (ap (option_map target_of) way.1)
          ∙ ap (asked_of client group (Some (target_of way.0))) (request_is seq op client k);
      knows = known;
    }

-- it is sent to the group that is chosen
pub chosen_on : (seq : ℕ) (op : Op) (client : Client) → IsReady seq op client → DidAskOn seq op client (request_sent client)
chosen_on seq op client k =
    let one = one_chosen (pos_of (key_of op)) client.known k.some in
    let c = chosen_is (pos_of (key_of op)) client.known one.0 one.1 in
    let s = sent_on seq op client one.0 k (in_known one.0 client.known c.entry c.stands c.name) in
    record {
      group = s.group;
      target = s.target;
      after_is = ap (λ (o : Option (ℕ × Op)). sent_where client (chosen_for client o)) (request_is seq op client k) ∙ ap (sent_where client) one.1 ∙ s.after_is;
      knows = s.knows;
    }

-- ---- what a client does

-- the client asks: it waits for this request, of the group and node that it asked, and asks nothing else
pub record Asks (before : Client) (seq : ℕ) (after : ClientStep) : Type 0 where
  pub op : Op
  pub group : Draw
  pub target : ℕ
  pub waits : after.0.waiting ≡ Some seq
  pub asked : after.0.asked ≡ Some (group, target)
  pub sends : after.1 ≡ request_of before.me group target (seq, op) ∷ []
  pub me : after.0.me ≡ before.me
  pub requests : after.0.requests ≡ before.requests
  pub holds : IsAskingClient true after.0

-- the client has all replies now, and sends nothing
pub record Ends (before : Client) (after : ClientStep) : Type 0 where
  pub waits : after.0.waiting ≡ None
  pub sends : after.1 ≡ []
  pub me : after.0.me ≡ before.me
  pub requests : after.0.requests ≡ before.requests
  pub holds : IsAskingClient true after.0

-- the client takes no notice: the mail is no reply to the request that waits, and does not send it on from the node that was asked
pub record Ignores (before : Client) (mail : Mail) (after : ClientStep) : Type 0 where
  pub after_is : after ≡ (before, [])
  pub no_reply : (seq : ℕ) (group : Draw) (reply : Reply) → before.waiting ≡ Some seq → mail.body ≡ Answer group seq (Value reply) → ⊥
  pub not_sent : (seq : ℕ) (group : Draw) (answer : AnswerBody) → before.waiting ≡ Some seq → before.asked ≡ Some (group, mail.from) → mail.body ≡ Answer group seq answer → redirects answer ≡ true → ⊥

-- what a client that asks does with a mail: it asks on with the same request or the next one, ends, or takes no notice
pub data Does (before : Client) (seq : ℕ) (mail : Mail) (after : ClientStep) : Type 0 where
  AsksOn : Asks before seq after → Does before seq mail after
  AsksNext : Asks before (seq + 1) after → Does before seq mail after
  EndsNow : Ends before after → Does before seq mail after
  TakesNoNotice : Ignores before mail after → Does before seq mail after

-- who asked on, asks
as_asks : (before client : Client) (seq : ℕ) (op : Op) (after : ClientStep) → client.me ≡ before.me → client.requests ≡ before.requests → IsReady seq op client → DidAskOn seq op client after → Asks before seq after
as_asks before client seq op after me requests k d =
    let now : Client = record client { asked = Some (d.group, d.target) } in
    subst (λ (x : ClientStep). Asks before seq x) (sym d.after_is) (record {
      op = op;
      group = d.group;
      target = d.target;
      waits = k.waits;
      asked = refl;
      sends = ap (λ (n : ℕ). request_of n d.group d.target (seq, op) ∷ []) me;
      me = me;
      requests = requests;
      holds = record {
        some = k.some;
        state = inr (refl, record { seq = seq; op = op; waits = k.waits; number = k.number; op_is = k.op_is; group = d.group; target = d.target; asked = refl; knows = d.knows });
      };
    })

-- ---- other groups and nodes are known

-- a client that waits, with other groups known
ready_with : (client : Client) (known : KnownGroups) (a : IsAskingOn client) → 1 ≤ length known → IsReady a.seq a.op (record client { known = known })
ready_with client known a some = record { waits = a.waits; number = a.number; op_is = a.op_is; some = some }

-- the request goes to a group that stays known
to_group : (client : Client) (known : KnownGroups) (a : IsAskingOn client) (group : Draw) → 1 ≤ length known → is_some (way_to group known) ≡ true → Asks client a.seq (sent_to group (record client { known = known }))
to_group client known a group some knows = as_asks client (record client { known = known }) a.seq a.op _ refl refl (ready_with client known a some) (sent_on a.seq a.op (record client { known = known }) group (ready_with client known a some) knows)

-- the request goes to the group that is chosen
pub to_chosen : (client : Client) (known : KnownGroups) (a : IsAskingOn client) → 1 ≤ length known → Asks client a.seq (request_sent (record client { known = known }))
to_chosen client known a some = as_asks client (record client { known = known }) a.seq a.op _ refl refl (ready_with client known a some) (chosen_on a.seq a.op (record client { known = known }) (ready_with client known a some))

-- where what is known of one group is changed, as many are known
pub changed_to : (change : Way → Way) (client : Client) (a : IsAskingOn client) (group : Draw) → is_some (way_to group client.known) ≡ true → 1 ≤ length client.known → Asks client a.seq (sent_to group (record client { known = changed change group client.known (way_to group client.known) }))
changed_to change client a group knows some =
    let many = length-changed change group client.known (way_to group client.known) in
    to_group client (changed change group client.known (way_to group client.known)) a group (omega (arith, some, many)) (changed_known change group group client.known (way_to group client.known) ∙ knows)

-- ---- the next request

request_there : (ops : List Op) (place : ℕ) → place < length ops → (op : Op) × (slice_get ops place ≡ Some op)
request_there ops place low = elim (slice_get_cases ops place).1 [ inl a ↦ (a.0, a.2) | inr none ↦ (let past = none.0 in absurd (omega (arith, low, past))) ]

-- a request is begun, where there is one with this number
pub begun_on : (seq : ℕ) (before client : Client) → client.me ≡ before.me → client.requests ≡ before.requests → 1 ≤ seq → seq ≡ length client.replies + 1 → length client.replies ≤ length client.requests → 1 ≤ length client.known → Asks before seq (started seq client) ⊎ Ends before (started seq client)
begun_on seq before client me requests one number most some =
    cond_both (nat_le seq (length client.requests)) (request_sent (record client { waiting = Some seq })) (record client { waiting = None }, []) (λ (x : ClientStep). Asks before seq x ⊎ Ends before x)
    (λ t. (
    let low = leb-true seq (length client.requests) t in
    let op = request_there client.requests (seq - 1) (omega (arith, low, one)) in
    let k : IsReady seq op.0 (record client { waiting = Some seq }) = record { waits = refl; number = number; op_is = op.1; some = some } in
    inl (as_asks before (record client { waiting = Some seq }) seq op.0 _ me requests k (chosen_on seq op.0 (record client { waiting = Some seq }) k))))
    (λ f. (
    let high = leb-false seq (length client.requests) f in
    inr (record { waits = refl; sends = refl; me = me; requests = requests; holds = record { some = some; state = inl (record { waits = refl; replies = inr (refl, omega (arith, high, number, most)) }) } })))

-- a client that waits has fewer replies than requests
within : (client : Client) (a : IsAskingOn client) → length client.replies + 1 ≤ length client.requests
within client a = (let low = slice_get_within client.requests (a.seq - 1) a.op a.op_is in let n = a.number in omega (arith, low, n))

-- the reply is kept, and the next request begun
pub replied : (reply : Reply) (client : Client) (a : IsAskingOn client) → 1 ≤ length client.known → Asks client (a.seq + 1) (started (a.seq + 1) (record client { replies = client.replies ++ reply ∷ [] })) ⊎ Ends client (started (a.seq + 1) (record client { replies = client.replies ++ reply ∷ [] }))
replied reply client a some =
    let longer = length_push client.replies reply in
    let number = a.number in
    let most = within client a in
    begun_on (a.seq + 1) client (record client { replies = client.replies ++ reply ∷ [] }) refl refl (omega arith) (omega (arith, longer, number)) (omega (arith, longer, most)) some
