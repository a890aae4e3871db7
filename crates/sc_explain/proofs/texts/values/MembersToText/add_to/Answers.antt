use Rattle.std.proofs.Common.{◌≡◌, ◌++◌, subst}
use Rattle.std.specs.Prelude.{OnOk}
use Rattle.serde_json.specs.Data.{Data}
use Rattle.serde_json.specs.Written.{compact_text}
use Rattle.sc_explain.proofs.TextsProofs.Lists.{nodes_are}
use Rattle.sc_explain.proofs.texts.values.MembersToText.add_to.Goals as goal

pub returns : goal.returns
returns c =
    subst (λ (json : Data). OnOk c.add_list.result (c.add_list.new.text.items ≡ c.args.text.now.items ++ compact_text json)) (nodes_are c.as_slice.result.now c.args.self.now c.as_slice.ensures.same) c.add_list.ensures
