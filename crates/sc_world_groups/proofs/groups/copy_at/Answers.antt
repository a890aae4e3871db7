use Rattle.std.proofs.Common.{refl, sym, ap, ◌∙◌}
use Rattle.std.proofs.lemmas.Option.{get_or_from_slice_get}
use Rattle.sc_meaning.specs.entries.Worlds.{is_named}
use Rattle.sc_world_groups.proofs.Executing.{copied-self, copied-other, copied-named}
use Rattle.sc_world_groups.proofs.groups.copy_at.Goals as goal

pub returns-then-i-at : goal.returns-then-i-at
returns-then-i-at c = record {
  long = refl;
  value = λ after group here is. copied-self c.args.groups.now.items c.args.at c.args.i c.args.name after group c.if-i-at.true here is;
}

pub returns-then-is_named : goal.returns-then-is_named
returns-then-is_named c = record {
  long = c.in_ok-copy.ensures.long;
  value = λ after group here is.
      let read = c.index.ensures ∙ get_or_from_slice_get c.args.groups.now.items c.args.i group c.index.result.now is in
      copied-named c.args.groups.now.items _ c.args.i c.args.name after group (c.in_ok-copy.ensures.value after here) (ap (is_named c.args.name) (sym read) ∙ sym c.is_named.ensures ∙ c.if-is_named.true);
}

pub returns : goal.returns
returns c = record {
  long = refl;
  value = λ after group here is.
      let read = c.index.ensures ∙ get_or_from_slice_get c.args.groups.now.items c.args.i group c.index.result.now is in
      copied-other c.args.groups.now.items c.args.i c.args.name after group is (ap (is_named c.args.name) (sym read) ∙ sym c.is_named.ensures ∙ c.if-is_named.false);
}
