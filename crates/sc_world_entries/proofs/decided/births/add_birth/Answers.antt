use Rattle.std.proofs.Common.{List, [], ◌∷◌, ◌++◌, sym, ap, subst, ◌∙◌, append_assoc}
use Rattle.sc_words.specs.declared.commands.cores.Base.{Base}
use Rattle.sc_world_logs.specs.declared.known.Known.{Known}
use Rattle.sc_world_entries.specs.decided.Found.{AreKnown}
use Rattle.sc_world_entries.proofs.DecidedProofs.Families.{birth_was, birth_is, known_push}
use Rattle.sc_world_entries.proofs.decided.births.add_birth.Goals as goal

pub returns-then-is_there : goal.returns-then-is_there
returns-then-is_there c = λ heard pool bases known.
    let all = subst (λ (born : List Known). AreKnown c.args.rows.now bases (c.args.knowns.now ++ born)) (sym c.as_slice-kept.ensures.value) known in
    let was = birth_was c.args.rows.now bases (c.args.knowns.now ++ c.as_slice-kept.result.now) c.args.child.now all (sym c.is_there.ensures ∙ c.if-is_there.true) in
    (subst (λ (bs : List Base). AreKnown c.args.rows.now bs (c.args.knowns.now ++ c.args.born.now.items)) (sym was) known, pool)

pub returns : goal.returns
returns c = λ heard pool bases known.
    let all = subst (λ (born : List Known). AreKnown c.args.rows.now bases (c.args.knowns.now ++ born)) (sym c.as_slice-kept.ensures.value) known in
    let is = birth_is c.args.rows.now bases (c.args.knowns.now ++ c.as_slice-kept.result.now) c.args.child.now all (sym c.is_there.ensures ∙ c.if-is_there.false) in
    let one = c.in_ok-known.ensures heard pool in
    let more = ap (λ (born : List Known). c.args.knowns.now ++ born) c.in_ok-push.ensures.items ∙ sym (append_assoc c.args.knowns.now c.args.born.now.items (c.in_ok-known.known ∷ [])) in (
      subst (λ (bs : List Base). AreKnown c.args.rows.now bs (c.args.knowns.now ++ c.push.new.self.items)) (sym is)
          (subst (AreKnown c.args.rows.now (bases ++ c.args.child.now ∷ [])) (sym more)
          (known_push c.args.rows.now bases (c.args.knowns.now ++ c.args.born.now.items) c.args.child.now _ known one.0 one.1)),
      one.2,
    )
