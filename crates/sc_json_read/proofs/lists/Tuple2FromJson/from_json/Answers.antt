use Rattle.sc_json_read.proofs.lists.Tuple2FromJson.from_json.Goals as goal

pub returns-clause-finds : goal.returns-clause-finds
returns-clause-finds g c = λ value fits e. c.pair_in.ensures.finds value.0 value.1 fits.0 fits.1 e
