-- The setting of a quiet journal is linked.
use Rattle.std.proofs.Common.{◌≡◌, Some, sym, ◌∙◌, ap, subst}
use Rattle.std.proofs.lemmas.Option.{none-some}
use Rattle.sc_live_steps.proofs.FollowingProofs.FollowingLemmas.{least_in}
use Rattle.sc_base.specs.Definitions.{least_of}
use Rattle.sc_live_plain.specs.PlainDefinitions.{setting_at, IsHome, Frame}
use Rattle.sc_live_answers.specs.AnswerDefinitions.{QuietSettingsAreLinked}

-- Its setting is linked, where its groups stand round the ring, links and routes name nodes, and those that a route names have a replica of its group.
pub settings_linked : QuietSettingsAreLinked
settings_linked at frames ways are reach named rings = record {
  rings = rings;
  links = λ frame a. (let f = are.are frame a in
      let home = f.1.linked.nodes (least_of f.1.lead.group.core.succ.members) (least_in f.1.lead.group.core.succ.members (reach.links f.0 f.1)) in
      subst (λ (x : Frame). IsHome (setting_at at frames ways) x.core.succ.group (least_of x.core.succ.members)) f.2 (record { r = home.0; is_there = home.1 }));
  routes = λ group into went. (let k = reach.routes group went.node went.r into went.is_there went.went in
      let home = k.1 (least_of into.members) (least_in into.members k.0) in
      record { r = home.0; is_there = home.1 });
  stand = λ frame into a went. (let f = are.are frame a in
      let name : f.0 ≡ frame.core.id = sym (named f.0 f.1) ∙ ap (λ (x : Frame). x.core.id) f.2 in
      let stands = reach.stand f.0 f.1 went.node went.r (subst (λ n. at n went.node ≡ Some went.r) (sym name) went.is_there) in
      none-some into (sym stands ∙ went.went));
}
