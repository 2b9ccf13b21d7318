use Rattle.std.proofs.Common.{◌∙◌}
use Rattle.std.proofs.lemmas.List.Sorted.{searched}
use Rattle.doc_sets.specs.declared.TheConstants.{MAX_DOCS}
use Rattle.doc_sets.proofs.Rising.{Rises-not_falling, is_in-searched}
use Rattle.doc_sets.proofs.listed.has.Goals as goal

pub returns : goal.returns
returns c =
    let xs = c.args.numbers.now in
    c.is_ok.ensures.value
    ∙ is_in-searched xs _ _ (searched xs _ _ c.binary_search.ensures.position (Rises-not_falling 0 MAX_DOCS xs c.requires))
