use Rattle.std.proofs.Common.{◌≡◌, true, false, ◌<◌, btree_map_len, sym, subst, ◌∙◌, arith}
use Rattle.serde_json.specs.View.{view}
use Rattle.sc_json_read.specs.Reading.{Spells}
use Rattle.sc_json_read.proofs.Members.{parts_of_first, spells_only}
use Rattle.sc_json_read.proofs.tagged.variant_parts.Goals as goal

pub returns-in-Some-clause-finds : goal.returns-in-Some-clause-finds
returns-in-Some-clause-finds c = λ may. let parts = parts_of_first c.args.json.now c.in-Object.members c.in-Some.name.now c.in-Some.content.now c.in-Object.is c.in-Some.ensures.first in (c.as_str-in-Some.ensures.value ∙ parts.0, parts.1)

pub returns-in-Some-clause-exact : goal.returns-in-Some-clause-exact
returns-in-Some-clause-exact c =
    let one : btree_map_len c.in-Object.members ≡ 1 = omega arith in
    subst (λ n. Spells (view c.args.json.now) n (view c.in-Some.content.now)) (sym c.as_str-in-Some.ensures.value) (spells_only c.args.json.now c.in-Object.members c.in-Some.name.now c.in-Some.content.now c.in-Object.is one c.in-Some.ensures.first)

pub returns-in-None-clause-finds : goal.returns-in-None-clause-finds
returns-in-None-clause-finds c =
    let some : 0 < btree_map_len c.in-Object.members = omega arith in
    λ may. let clash : false ≡ true = c.in-None.ensures.variant.1 some in cc
