-- The groups that stand are round the ring from each of them on: who is followed by whom is one cycle through them.
use Rattle.std.proofs.Common.{◌≡◌, ℕ, ◌+◌, ◌-◌, ◌%◌, ◌<◌, ◌≤◌, ◌^◌, arith, sym, ◌∙◌, ap, subst}
use Rattle.std.specs.Prelude.{IsTrue}
use Rattle.std.proofs.lemmas.Bool.{lt-ltb}
use Rattle.sc_base.specs.Definitions.{Among, Arc, IsArc, offset, holds, end_of}
use Rattle.sc_meaning.specs.entries.EntryDefinitions.{IsPlaced, Covers, StoreWorld}
use Rattle.sc_meaning.specs.declared.entries.Cut.{Cut}
use Rattle.sc_live_plain.specs.PlainDefinitions.{FollowedBy, Setting, Frame}
use Rattle.sc_live_answers.specs.AnswerDefinitions.{IsOfCut, AreOfCuts, StandingGroupsAreRound}
use Rattle.sc_live_plain.proofs.CalmProofs.GroupsRoundRing.{round_from}

-- ---- the frames of the cuts

-- the last position before an end
abbrev last_before : ℕ → ℕ
last_before end = (end + (2 ^ 32 - 1)) % 2 ^ 32

last_on : (end : ℕ) → last_before end < 2 ^ 32
last_on end = omega arith

last_near : (lo len : ℕ) → lo < 2 ^ 32 → 1 ≤ len → len ≤ 2 ^ 32 → ((last_before ((lo + len) % 2 ^ 32) + 2 ^ 32) - lo) % 2 ^ 32 < len
last_near lo len a b c = omega arith

-- an arc holds its last one
last_held : (arc : Arc) → IsArc arc × (arc.lo < 2 ^ 32) → IsTrue (holds arc (last_before (end_of arc)))
last_held arc fact = lt-ltb (offset arc (last_before (end_of arc))) arc.len (last_near arc.lo arc.len fact.1 fact.0.some fact.0.most)

module _ (world : StoreWorld) (set : Setting) (covers : Covers world.ring) (placed : (cut : Cut) → Among cut world.ring → IsPlaced world cut) (cuts : AreOfCuts world set.frames) where
  -- the arc of a group that stands is that of its cut
  arc_is : (frame : Frame) (cut : Cut) → IsOfCut world frame cut → frame.core.arc ≡ cut.arc
  arc_is frame cut fact = (let p = placed cut fact.among in ap (λ core. core.arc) (sym (fact.placed p)) ∙ p.arc)

  step : (frame : Frame) → Among frame set.frames → (other : Frame) × Among other set.frames × FollowedBy frame other
  step frame a =
      let c = cuts.cut frame a in
      let p = placed c.0 c.1.among in
      let next = p.succ in
      let f = cuts.frame next.0 next.1 in (
        f.0,
        f.1,
        record {
          name = ap (λ core. core.succ.group) (sym (c.1.placed p)) ∙ (next.3 ∙ f.2.named);
          starts = ap (λ arc. arc.lo) (arc_is f.0 next.0 f.2) ∙ (next.2 ∙ ap end_of (sym (arc_is frame c.0 c.1)));
        },
      )

  back : (one other next : Frame) → Among one set.frames → Among other set.frames → Among next set.frames → FollowedBy one next → FollowedBy other next → one ≡ other
  back one other next a b n first second =
      let c = cuts.cut one a in
      let d = cuts.cut other b in
      let ends : end_of c.0.arc ≡ end_of d.0.arc = ap end_of (sym (arc_is one c.0 c.1)) ∙ (sym first.starts ∙ (second.starts ∙ ap end_of (arc_is other d.0 d.1))) in
      let p = last_before (end_of c.0.arc) in
      let arcs = covers.arcs c.0 c.1.among in
      let its = covers.arcs d.0 d.1.among in
      let fact = covers.only p (last_on (end_of c.0.arc)) c.0 d.0 c.1.among d.1.among (last_held c.0.arc arcs) (subst (λ q. IsTrue (holds d.0.arc (last_before q))) (sym ends) (last_held d.0.arc its)) in
      cuts.apart one other a b (sym c.1.named ∙ (ap (λ (cut : Cut). cut.group) fact ∙ d.1.named))

  arcs_of : (frame : Frame) → Among frame set.frames → IsArc frame.core.arc × (frame.core.arc.lo < 2 ^ 32)
  arcs_of frame a = (let c = cuts.cut frame a in subst (λ arc. IsArc arc × (arc.lo < 2 ^ 32)) (sym (arc_is frame c.0 c.1)) (covers.arcs c.0 c.1.among))

-- Where the ring covers, and each cut's group is one that stands and names the group of the next cut, the groups that stand are round the ring from each of them on: one is followed by the next, and the last by the first.
pub standing_round : StandingGroupsAreRound
standing_round world set covers placed cuts frame a = round_from set cuts.apart (arcs_of world set covers placed cuts) (step world set covers placed cuts) (back world set covers placed cuts) frame a
