use Rattle.std.proofs.Common.{rules, tests}
use Rattle.std.proofs.lemmas.Iterator.Search.{any_from_yields_List}
use Rattle.std.proofs.lemmas.Iterator.{YieldsList-from_slice}
use Rattle.field_schema.specs.Bytes.{bytes_eq}
use Rattle.doc_model.proofs.json.lists.Goals as goal

pub returns-in-Names : goal.returns-in-Names
returns-in-Names c =
    rw (c.in-Names.is, ← c.get.ensures)
    (any_from_yields_List (bytes_eq c.args.field.now.name) _ _ c.any.result c.any.ensures.ran (YieldsList-from_slice c.get.result.now cc) (λ x b q k. search (rules, tests)))
