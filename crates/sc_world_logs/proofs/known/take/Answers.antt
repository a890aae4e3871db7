use Rattle.std.proofs.Common.{◌≡◌, ℕ, true, List, [], ◌∷◌, ◌++◌, refl, subst, arith}
use Rattle.std.specs.Ordering.{nat_cmp}
use Rattle.std.specs.BTreeMap.{get_by}
use Rattle.std.proofs.lemmas.Option.{slice_get_within}
use Rattle.sc_meaning.specs.sound.Players.{as_nodes}
use Rattle.sc_meaning.specs.sound.Accepts.{accepts}
use Rattle.sc_meaning.specs.sound.Logs.{rule_of}
use Rattle.sc_world_logs.specs.Acceptances.{step_of}
use Rattle.sc_world_logs.specs.Indexes.{listed_in, IsIndexed}
use Rattle.sc_world_logs.specs.Known.{kept_of}
use Rattle.sc_world_logs.specs.declared.accepting.Acceptance.{Acceptance}
use Rattle.sc_world_logs.proofs.Chosen.{ends_still}
use Rattle.sc_world_logs.proofs.Grown.{one_more, still_chosen}
use Rattle.sc_world_logs.proofs.Stays.{later_known, stays_known}
use Rattle.sc_world_logs.proofs.known.take.Goals as goal

pub returns-then-slot-len : goal.returns-then-slot-len
returns-then-slot-len c = λ rows after all is.
    let k = c.args.known.now in
    let h = accepts k.base.core.id rows in
    let kept : ℕ → List Acceptance = λ slot. listed_in (λ at. at.items) (get_by (nat_cmp slot) c.add.new.index) in
    let recorded = one_more h k.base (kept_of k) kept k.log.items k.members.items k.state k.behind c.args.acceptance.now
    (λ found indexed. subst (λ (a : Acceptance). IsIndexed kept (found ++ a ∷ [])) c.in_ok-dup.ensures (c.in_ok-add.ensures found indexed)) is.agrees
    (λ n v at got. absurd (omega (arith, at, slice_get_within k.log.items n v got, c.if-slot-len.true))) in
    let done = c.in_ok-calm.ensures (step_of c.args.acceptance.now ∷ h) recorded in
    record {
      holds = λ held. (later_known rows after k _ (step_of c.args.acceptance.now ∷ h) done.1 all done.0 done.2 (done.3 is.children), done.1);
      calm = λ calm. stays_known rows after k _ (step_of c.args.acceptance.now ∷ h) done.1 all done.0 done.2 (done.3 is.children) (done.4 calm);
    }

pub returns-then-slot-eq0 : goal.returns-then-slot-eq0
returns-then-slot-eq0 c = λ rows after all is.
    let k = c.args.known.now in
    let h = accepts k.base.core.id rows in
    let a = c.args.acceptance.now in
    let kept : ℕ → List Acceptance = λ slot. listed_in (λ at. at.items) (get_by (nat_cmp slot) c.add.new.index) in
    let recorded = one_more h k.base (kept_of k) kept k.log.items k.members.items k.state k.behind a
    (λ found indexed. subst (λ (x : Acceptance). IsIndexed kept (found ++ x ∷ [])) c.in_ok-dup.ensures (c.in_ok-add.ensures found indexed)) is.agrees
    (λ n v at got. absurd (omega (arith, at, c.if-slot-eq0.true))) in
    let ends = ends_still (rule_of as_nodes k.base) a.node a.ballot a.slot a.command h k.log.items (omega (arith, c.if-slot-eq0.true)) is.ends in
    record {
      holds = λ held. (later_known rows after k _ (step_of a ∷ h) refl all recorded ends is.children, refl);
      calm = λ calm. stays_known rows after k _ (step_of a ∷ h) refl all recorded ends is.children refl;
    }

pub returns : goal.returns
returns c = λ rows after all is.
    let k = c.args.known.now in
    let h = accepts k.base.core.id rows in
    let a = c.args.acceptance.now in
    let kept : ℕ → List Acceptance = λ slot. listed_in (λ at. at.items) (get_by (nat_cmp slot) c.add.new.index) in
    let index = λ (found : List Acceptance) (indexed : IsIndexed (kept_of k) found). subst (λ (x : Acceptance). IsIndexed kept (found ++ x ∷ [])) c.in_ok-dup.ensures (c.in_ok-add.ensures found indexed) in
    let recorded = λ (still : c.is_still_chosen-still.result ≡ true). one_more h k.base (kept_of k) kept k.log.items k.members.items k.state k.behind a index is.agrees
    (still_chosen h k.base (kept_of k) kept k.log.items k.members.items k.state k.behind a index is.agrees (c.is_still_chosen-still.ensures still)) in
    let ends = ends_still (rule_of as_nodes k.base) a.node a.ballot a.slot a.command h k.log.items (omega (arith, c.if-slot-len.false)) is.ends in
    record {
      holds = λ still. (later_known rows after k _ (step_of a ∷ h) refl all (recorded still) ends is.children, refl);
      calm = λ still. stays_known rows after k _ (step_of a ∷ h) refl all (recorded still) ends is.children refl;
    }
