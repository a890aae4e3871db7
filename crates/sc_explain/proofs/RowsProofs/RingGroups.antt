-- What is said of a group of the ring, by its effective record.
use Rattle.std.proofs.Common.{◌≡◌, length, Option, Some, None, refl, sym, ap}
use Rattle.std.specs.Option.{option_map}
use Rattle.std.proofs.lemmas.Option.{none-some, same_Some}
use Rattle.sc_base.specs.declared.names.Draw.{Draw}
use Rattle.sc_words.specs.declared.commands.cores.Base.{Base}
use Rattle.sc_explain.specs.facts.Facts.{ring_group_of}
use Rattle.sc_explain.specs.declared.facts.facts.RingGroup.{RingGroup}
use Rattle.sc_group_table.specs.machine.Group.{Group, base_of}

-- what is said of a group with this record
abbrev pub said_of_base : Draw → Base → RingGroup
said_of_base name base = record {
  arc = base.core.arc;
  name = name;
  pairs = length base.pairs;
  pred = base.core.pred.group;
  succ = base.core.succ.group;
}

-- what is said of a group that was found, by its record
pub said_of_found : (name : Draw) (base : Base) (said : RingGroup) (found : Option Group) → option_map base_of found ≡ Some base → ((group : Group) → base ≡ base_of group → said ≡ ring_group_of name group)
    → Some said ≡ option_map (ring_group_of name) found
said_of_found name base said None is by = absurd (none-some base is)
said_of_found name base said (Some group) is by = ap (λ (r : RingGroup). Some r) (by group (sym (same_Some (base_of group) base is)))

-- of a group that was not found nothing is said
pub said_of_none : (name : Draw) (found : Option Group) → option_map base_of found ≡ None → None ≡ option_map (ring_group_of name) found
said_of_none name None is = refl
said_of_none name (Some group) is = absurd (none-some (base_of group) (sym is))
