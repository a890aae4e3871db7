use Rattle.sc_explain.proofs.rows.explaining.say.Goals as goal

pub returns : goal.returns
returns c = λ same. (c.in_ok-after.ensures same, λ was decided said entries. c.in_ok-add_row.ensures was decided said (c.in_ok-after.ensures same) entries)
