-- A poll begins: a tick of a replica that is not settled elects it with its next ballot, and asks each member for its promise.
use Rattle.std.proofs.Common.{◌≡◌, ℕ, ◌+◌, ◌-◌, ◌^◌, ◌||◌, not, nat_le, eqb, true, false, List, [], ◌∷◌, replicate, None, inl, inr, ◌∙◌, ap, arith}
use Rattle.std.specs.Prelude.{is_some}
use Rattle.std.proofs.lemmas.Bool.{cond-true, cond-false, and_parts, leb-true, or_left}
use Rattle.sc_base.specs.Definitions.{Among, Drawer, is_member, most_nodes}
use Rattle.sc_words.proofs.PaxosProofs.PaxosLemmas.{Among-filter}
use Rattle.sc_paxos_law.proofs.Lemmas.{Among-left, Among-right}
use Rattle.sc_node_table.specs.Values.{Ballot, Base, Core, Mail, MailBody, Prepare}
use Rattle.sc_node_table.specs.NodeDefinitions.{elected, sent, sent_all, open_nodes, nodes_to, numbers_from, is_in_some, is_node, settled, members, name_of, next, slots_ahead, tick_row, ReplicaState}
use Rattle.sc_law_walks.proofs.WalkLemmas.{elected_place}
use Rattle.sc_live_plain.proofs.PlainLemmas.{to_numbers}
use Rattle.sc_live_healed.proofs.FixedWalks.{IsFresh, IsMember, IsFixedPlace}

-- the ballot with which a replica is elected next
abbrev pub next_ballot : ReplicaState → Ballot
next_ballot r = record { round = r.top.round + 1; node = r.me }

-- who is not settled is elected at its tick, where a round is left
pub elected_at_tick : (base : Base) (me : ℕ) (fresh : IsFresh base me) (drawer : Drawer) (r : ReplicaState) (mails : List Mail) → IsFixedPlace base me (r, []) → settled r ≡ false → eqb r.top.round (2 ^ 32 - 1) ≡ false → tick_row false drawer (r, mails) ≡ elected_place (r, mails)
unfolding tick_row elected
elected_at_tick base me fresh drawer r mails f off room =
    cond-false (is_some r.group.core.gone || not (is_member (members r) r.me)) (r, mails) _ here
    ∙ (cond-true (not (settled r)) (elected (r, mails)) _ (ap not off) ∙ cond-false (eqb r.top.round (2 ^ 32 - 1)) (r, mails) (elected_place (r, mails)) room)
  where
    gone : r.group.core.gone ≡ None
    gone = ap (λ (core : Core). core.gone) f.fixed.group ∙ fresh.stands

    member : is_member (members r) r.me ≡ true
    member = ap (λ (core : Core). is_member core.members r.me) f.fixed.group ∙ (ap (λ (node : ℕ). is_member base.core.members node) f.me_is ∙ fresh.member)

    here : (is_some r.group.core.gone || not (is_member (members r) r.me)) ≡ false
    here = ap (λ o. is_some o || not (is_member (members r) r.me)) gone ∙ ap not member

-- ---- each member is asked

taught_among : (me : ℕ) (body : MailBody) (mail : Mail) (nodes : List ℕ) (mails : List Mail) → Among mail mails → Among mail (sent_all me nodes body mails)
unfolding sent_all
taught_among me body mail [] mails a = a
taught_among me body mail (node ∷ nodes) mails a = taught_among me body mail nodes (sent me node body mails) (Among-left mail mails (record { from = me; to = node; body = body } ∷ []) a)

all_among : (me : ℕ) (body : MailBody) (to : ℕ) (nodes : List ℕ) (mails : List Mail) → Among to nodes → Among (record { from = me; to = to; body = body }) (sent_all me nodes body mails)
unfolding sent_all
all_among me body to [] mails a = absurd a
all_among me body to (node ∷ nodes) mails (inl same) =
    taught_among me body (record { from = me; to = to; body = body }) nodes (sent me node body mails)
    (Among-right (record { from = me; to = to; body = body }) mails (record { from = me; to = node; body = body } ∷ []) (inl (ap (λ (n : ℕ). record { from = me; to = n; body = body }) same)))
all_among me body to (node ∷ nodes) mails (inr a) = all_among me body to nodes (sent me node body mails) a

-- the replica that is elected asks each member
pub members_are_asked : (base : Base) (me : ℕ) (r : ReplicaState) (mails : List Mail) → IsFixedPlace base me (r, []) → (m : ℕ) → IsMember base m → is_node m ≡ true → Among (record { from = r.me; to = m; body = Prepare (name_of r) (next_ballot r) (next r) }) (elected_place (r, mails)).1
unfolding nodes_to
members_are_asked base me r mails f m member node =
    let bounds = and_parts (nat_le 1 m) (nat_le m most_nodes) node in
    let low = leb-true 1 m bounds.0 in
    let high = leb-true m most_nodes bounds.1 in
    all_among r.me (Prepare (name_of r) (next_ballot r) (next r)) m (open_nodes r.sets) mails
    (Among-filter (λ (n : ℕ). is_in_some r.sets n) (numbers_from 1 most_nodes) m (to_numbers 1 most_nodes m low (omega (arith, high))) (in_some f.fixed.sets))
  where
    in_some : r.sets ≡ replicate slots_ahead base.core.members → is_in_some r.sets m ≡ true
    in_some e = ap (λ (sets : List (List ℕ)). is_in_some sets m) e ∙ or_left (is_member base.core.members m) _ member
