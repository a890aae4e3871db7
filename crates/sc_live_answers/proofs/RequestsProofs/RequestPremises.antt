-- What a node finds in the mail of requests.
use Rattle.std.proofs.Common.{◌≡◌, ℕ, Option, Some, None, inl, inr, refl, sym, ◌∙◌, ap, subst, arith}
use Rattle.sc_base.specs.Definitions.{Each, client_actor, same_draw}
use Rattle.sc_node_table.specs.Values.{Draw, Op, Route, Mail, MailBody, Request}
use Rattle.sc_base.proofs.Lemmas.{draw_is}
use Rattle.sc_words.proofs.PaxosProofs.PaxosLemmas.{Each-among, find_found}
use Rattle.sc_node_table.specs.NodeDefinitions.{NodeState, ReplicaState, Executed, name_of}
use Rattle.sc_live_steps.specs.calm.CalmDefinitions.{Chart, IsCalmMailAt, Takes, MayPump, Points, group_owes, after_mail, Elsewhere}
use Rattle.sc_live_plain.specs.PlainDefinitions.{Setting, KnowsBetter, IsSetting, IsCalmNode, IsCalmMail, ComesInTime, IsFrame, IsBegun, Requests, IsPlainBody, IsPlainMail}
use Rattle.sc_live_plain.proofs.PlainLemmas.{StepsAside, aside_step, turns, plain_owes, group_same, may_take, IsFor, for_node, replica_row}
use Rattle.sc_live_answers.specs.AnswerDefinitions.{CountsAs, RequestsAreTakenCalmly}

module _ (begun : Requests) (set : Setting) (fact : IsSetting set) (chart : Chart) (counts : CountsAs set chart) (elsewhere : Elsewhere) (node : NodeState) (n : IsCalmNode begun set node) (pumps : Each MayPump node.replicas) (mail : Mail) (to : mail.to ≡ node.me)
    (not_client : (client seq : ℕ) (op : Op) → begun client seq op → node.me ≡ client_actor client → ⊥) (due : ComesInTime begun set node mail) where
  abbrev Finds : Type 0
  Finds = IsCalmMailAt chart.ways chart.groups elsewhere mail.from mail.body node

  plain_finds : IsPlainMail begun set.frames mail → Finds
  plain_finds m =
      let frame_is : IsFrame m.frame = fact.are m.frame m.is_frame in
      let says : IsPlainBody begun m.frame mail.from node.me mail.body = subst (λ who. IsPlainBody begun m.frame mail.from who mail.body) to m.says in
      let for : IsFor begun set.frames fact.are fact.apart m.frame mail.from node.me mail.body = for_node begun set.frames fact.are fact.apart m.frame frame_is mail.from node.me mail.body says not_client in
      let here = n.plain.has m.frame for.slot m.is_frame for.member in
      let k = n.plain.replicas m.frame here.0 m.is_frame here.1 in
      let d = due m.frame here.0 m.is_frame m.says here.1 in
      let row = replica_row begun m.frame frame_is here.0 mail.from d.1 node.me mail.body k says d.0 not_client in
      let home = fact.leads m.frame m.is_frame in
      Takes m.frame.core.id here.0 (counts.named m.frame.core.id m.frame.lead home) (record {
        stays = record {
          taken = record { comes = for.may; named = for.group; found = here.1 };
          here = n.own m.frame.core.id here.0 here.1;
          same = row.0.name_is;
        };
        may = may_take begun m.frame frame_is chart.ways counts.bounded node.me mail.from mail.body here.0 k says d.0 not_client;
        alone = λ led. plain_owes begun m.frame frame_is node.me here.0 (after_mail mail.from mail.body here.0).0 k row.0.after (λ left. group_same begun m.frame frame_is node.me mail.from mail.body here.0 (after_mail mail.from mail.body here.0) left says row.0.response);
      })

  -- a hint of one that does not run is nearer
  points : (group : Draw) (r : ReplicaState) (gone : Option Route) → r.group.core.gone ≡ gone → KnowsBetter set group r gone → Points chart.ways group r
  points group r (Some into) e better off stands = absurd (some_none into (sym e ∙ stands))
    where
      some_none : (into : Route) → Some into ≡ None → ⊥
      some_none into e = cc
  points group r None e better off stands =
      let near = better.2.near in
      let one = counts.far group better.0 in
      let two = counts.far group r.me in
      (better.0, better.1, omega (arith, near, one, two))

  aside_finds : StepsAside begun set fact node n mail to not_client due → Finds
  aside_finds a =
      let own = n.own a.group a.r a.found in
      let name : name_of a.r ≡ a.group = draw_is (name_of a.r) a.group (find_found (λ (x : ReplicaState). same_draw (name_of x) a.group) node.replicas a.r a.found).1 in
      let among = (find_found (λ (x : ReplicaState). same_draw (name_of x) a.group) node.replicas a.r a.found).0 in
      let step = aside_step a.r a.group mail.from a.client a.seq a.op a.stopped in
      let stays : (after_mail mail.from (Request a.group a.client a.seq a.op) a.r).0 ≡ a.r = ap (λ (e : Executed). e.0.0) step in
      subst (λ (body : MailBody). IsCalmMailAt chart.ways chart.groups elsewhere mail.from body node) (sym a.body_is)
      (Takes a.group a.r (counts.named a.group node.me a.home) (record {
        stays = record {
          taken = record { comes = refl; named = refl; found = a.found };
          here = own;
          same = ap name_of stays ∙ name;
        };
        may = (name, Each-among MayPump node.replicas a.r pumps among, points a.group a.r a.r.group.core.gone refl (n.stops a.group a.r a.found a.stopped));
        alone = λ led. (let same = ap group_owes stays in omega (arith, same));
      }))

  finds : IsCalmMail begun set mail → Finds
  finds m = elim (turns begun set fact node n mail to not_client due m) [
    | inl k ↦ plain_finds (record { frame = k.frame; is_frame = k.is_frame; says = k.says })
    | inr a ↦ aside_finds a
  ]

-- While clients ask alone, a node whose replicas may pump finds what it needs in each mail that comes to it when it is due.
pub requests_taken : RequestsAreTakenCalmly
requests_taken scenario rows set chart elsewhere node mail fact counts n pumps m to not_client due =
    (to, finds (IsBegun scenario rows) set fact chart counts elsewhere node n pumps mail to not_client due m)
