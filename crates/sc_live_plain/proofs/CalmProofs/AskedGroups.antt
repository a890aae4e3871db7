-- What a client that waits knows of the group that it asked, while clients ask alone, and what it learns by NotMine.
use Rattle.std.proofs.Common.{◌≡◌, ℕ, ◌-◌, ◌<◌, Bool, true, false, List, [], ◌∷◌, length, map, take, drop, Some, None, ◌⊎◌, inl, inr, refl, sym, ◌∙◌, ap, subst, arith, take-append-drop}
use Rattle.std.specs.Prelude.{slice_get}
use Rattle.std.proofs.lemmas.Option.{slice_get_within}
use Rattle.sc_base.specs.Definitions.{Among, Arc, client_actor, key_of, pos_of}
use Rattle.sc_node_table.specs.Values.{Draw, Op, Link, Route, NotMine, Mail, MailBody, Answer}
use Rattle.sc_words.specs.ideal.IdealDefinitions.{holds_key}
use Rattle.sc_client_table.specs.lookup.LookupDefinitions.{KnownGroups, way_to, chosen}
use Rattle.sc_client_table.specs.declared.lookup.ways.Way.{Way}
use Rattle.sc_paxos_law.proofs.Lemmas.{from_map, Among-left}
use Rattle.sc_client_table.specs.table.TableDefinitions.{Client as ClientState}
use Rattle.sc_scenario.specs.declared.scenario.scenarios.Asks.{Asks}
use Rattle.sc_live_plain.specs.PlainDefinitions.{IsLinkedSetting, Knows, IsCalmClient, FollowedBy, AreRoundRing, KnowsFirst, Setting, HasGoneTo, IsSetting, IsAsideBody, IsCalmMail, Frame, IsWaiting, IsResting, Requests, IsPlainBody}
use Rattle.sc_live_plain.proofs.CalmProofs.ChosenGroups.{chosen_among}
use Rattle.sc_live_plain.proofs.CalmProofs.KnownGroups.{name_in, id_of, learn_in_turn}
use Rattle.sc_live_plain.proofs.PlainRowsProofs.Lists.{some_is}

-- ---- what a body of calm mail says

-- plain words of a group
pub record SaysPlain (begun : Requests) (set : Setting) (from to : ℕ) (body : MailBody) : Type 0 where
  pub frame : Frame
  pub is_frame : Among frame set.frames
  pub says : IsPlainBody begun frame from to body

-- or what stands beside them
abbrev pub CalmSays : Requests → Setting → ℕ → ℕ → MailBody → Type 0
CalmSays begun set from to body = SaysPlain begun set from to body ⊎ IsAsideBody begun set from to body

pub calm_says : (begun : Requests) (set : Setting) (mail : Mail) → IsCalmMail begun set mail → (body : MailBody) → mail.body ≡ body → CalmSays begun set mail.from mail.to body
calm_says begun set mail m body e = elim m [
  | inl q ↦ inl (record { frame = q.frame; is_frame = q.is_frame; says = subst (IsPlainBody begun q.frame mail.from mail.to) e q.says })
  | inr a ↦ inr (subst (IsAsideBody begun set mail.from mail.to) e a)
]

-- a client in which a request waits has started, and asked
pub awaiting : (client : ClientState) (gone : Bool) → IsResting gone client ⊎ ((gone ≡ true) × IsWaiting client) → (seq : ℕ) → client.waiting ≡ Some seq → (gone ≡ true) × (w : IsWaiting client) × (w.seq ≡ seq)
awaiting client gone (inl rests) seq waits = (let bad : None ≡ Some seq = sym rests.waits ∙ waits in cc)
awaiting client gone (inr (started, w)) seq waits = (started, w, some_is (sym w.waits ∙ waits))

-- and a reply is missing
pub reply_missing : (client : ClientState) (w : IsWaiting client) → length client.replies < length client.requests
reply_missing client w = (let low = slice_get_within client.requests (w.seq - 1) w.op w.op_is in let number = w.number in omega (arith, low, number))

-- ---- what is known of the group that was asked

-- the group behind one that stands, round the ring
pub record Behind (set : Setting) (frame : Frame) : Type 0 where
  pub other : Frame
  pub is_frame : Among other set.frames
  pub after : FollowedBy frame other

-- a client that knows groups round the ring, and chose one that stands
pub record RingKnown (set : Setting) (frame : Frame) (known : KnownGroups) : Type 0 where
  pub ring : List Frame
  pub round : AreRoundRing ring
  pub within : (other : Frame) → Among other ring → Among other set.frames
  pub among : Among frame ring
  pub reached : ℕ
  pub first : KnowsFirst ring reached known

-- a group that stands, and of which the client knows nothing
pub record IsNewGroup (set : Setting) (known : KnownGroups) (name : Draw) : Type 0 where
  pub other : Frame
  pub is_frame : Among other set.frames
  pub named : other.core.id ≡ name
  pub none : way_to name known ≡ None

module _ (begun : Requests) (set : Setting) (fact : IsSetting set) (linked : IsLinkedSetting set) where
  pub behind : (frame : Frame) → Among frame set.frames → Behind set frame
  behind frame a = (let ring = linked.rings frame a in by ring.0 ring.1.round ring.1.within)
    where
      by : (rest : List Frame) → AreRoundRing (frame ∷ rest) → ((other : Frame) → Among other (frame ∷ rest) → Among other set.frames) → Behind set frame
      by [] round within = record { other = frame; is_frame = a; after = round.last [] [] frame frame refl refl }
      by (other ∷ rest) round within = record { other = other; is_frame = within other (inr (inl refl)); after = round.next [] rest frame other refl }

  module _ (asks : Asks) (gone : Bool) (client : ClientState) (k : IsCalmClient set asks gone client) (w : IsWaiting client) where
    -- where a group that stands was asked, those that are known are the first round the ring
    pub ring_known : (frame : Frame) → Among frame set.frames → w.group ≡ frame.core.id → RingKnown set frame client.known
    ring_known frame a name = by (k.knows (reply_missing client w))
      where
        chosen_here : chosen (pos_of (key_of w.op)) client.known ≡ Some frame.core.id
        chosen_here = w.chosen_is ∙ ap Some name

        by : Knows set client.known → RingKnown set frame client.known
        by (inl one) =
            let among = subst (λ l. Among frame.core.id (map name_in l)) one.2 (chosen_among (pos_of (key_of w.op)) client.known frame.core.id chosen_here) in
            let same : one.0 ≡ frame.core.id = elim among [ inl e ↦ e | inr none ↦ absurd none ] in
            let known_is : client.known ≡ (frame.core.id, one.1) ∷ [] = one.2 ∙ ap (λ d. (d, one.1) ∷ []) same in
            let ring = linked.rings frame a in
            record { ring = frame ∷ ring.0; round = ring.1.round; within = ring.1.within; among = inl refl; reached = 1; first = subst (KnowsFirst (frame ∷ ring.0) 1) (sym known_is) (learn_in_turn.gone ring.0 frame one.1) }
        by (inr r) =
            let among = subst (Among frame.core.id) r.first.names (chosen_among (pos_of (key_of w.op)) client.known frame.core.id chosen_here) in
            let f = from_map id_of (take r.reached r.ring) frame.core.id among in
            let in_ring : Among f.0 r.ring = subst (Among f.0) (take-append-drop r.reached r.ring) (Among-left f.0 (take r.reached r.ring) (drop r.reached r.ring) f.1) in
            let same : f.0 ≡ frame = fact.apart f.0 frame (r.is_ring.within f.0 in_ring) a f.2 in
            record { ring = r.ring; round = r.is_ring.round; within = r.is_ring.within; among = subst (λ (x : Frame). Among x r.ring) same in_ring; reached = r.reached; first = r.first }

    -- where a group that is gone was asked, it is known alone
    pub alone : (into : Route) → HasGoneTo set w.group into → (way : Way) × (client.known ≡ (w.group, way) ∷ [])
    alone into went = by (k.knows (reply_missing client w))
      where
        by : Knows set client.known → (way : Way) × (client.known ≡ (w.group, way) ∷ [])
        by (inl one) =
            let among = subst (λ l. Among w.group (map name_in l)) one.2 (chosen_among (pos_of (key_of w.op)) client.known w.group w.chosen_is) in
            let same : one.0 ≡ w.group = elim among [ inl e ↦ e | inr none ↦ absurd none ] in
            (one.1, one.2 ∙ ap (λ d. (d, one.1) ∷ []) same)
        by (inr r) =
            let among = subst (Among w.group) r.first.names (chosen_among (pos_of (key_of w.op)) client.known w.group w.chosen_is) in
            let f = from_map id_of (take r.reached r.ring) w.group among in
            let in_ring : Among f.0 r.ring = subst (Among f.0) (take-append-drop r.reached r.ring) (Among-left f.0 (take r.reached r.ring) (drop r.reached r.ring) f.1) in
            absurd (linked.stand f.0 into (r.is_ring.within f.0 in_ring) (subst (λ d. HasGoneTo set d into) (sym f.2) went))

    -- ---- an answer to the request that waits

    module _ (mail : Mail) (to : mail.to ≡ client_actor client.me) (asked_right : (seq : ℕ) (op : Op) → begun client.me seq op → slice_get client.requests (seq - 1) ≡ Some op) where
      -- the request of an answer to the client is the one that waits
      pub op_same : (who : ℕ) (op : Op) → mail.to ≡ client_actor who → begun who w.seq op → op ≡ w.op
      op_same who op receiver b =
          let same : who ≡ client.me = omega (arith, to, receiver) in
          some_is (sym (asked_right w.seq op (subst (λ c. begun c w.seq op) same b)) ∙ w.op_is)

      -- the key is not that group's
      pub lacks : (arc : Arc) (succ : Link) (s : SaysPlain begun set mail.from mail.to (Answer w.group w.seq (NotMine arc succ))) → holds_key s.frame.core.arc (key_of w.op) ≡ false
      lacks arc succ s = (let reply = s.says.1 in ap (λ x. holds_key s.frame.core.arc (key_of x)) (sym (op_same reply.client reply.op reply.to_is reply.is_begun)) ∙ reply.says.0)

      -- the group that it names stands, and is new to the client
      pub new_group : (arc : Arc) (succ : Link) → CalmSays begun set mail.from mail.to (Answer w.group w.seq (NotMine arc succ)) → IsNewGroup set client.known succ.group
      new_group arc succ (inr s) = absurd (s.says)
      new_group arc succ (inl s) =
          let frame : Frame = s.frame in
          let b = behind frame s.is_frame in
          let succ_is = ap (λ (x : Link). x.group) s.says.1.says.2 in
          let r = ring_known frame s.is_frame s.says.0 in
          let next_ = learn_in_turn.not_mine r.ring r.reached (pos_of (key_of w.op)) frame client.known r.round r.first r.among (w.chosen_is ∙ ap Some s.says.0) (lacks arc succ s) in
          record { other = b.other; is_frame = b.is_frame; named = sym b.after.name ∙ sym succ_is; none = ap (λ d. way_to d client.known) succ_is ∙ next_.0 }
