use Rattle.std.proofs.Common.{◌++◌, ap, sym, ◌∙◌, map}
use Rattle.std.proofs.lemmas.Iterator.Consumers.{YieldsList-end, YieldsList-from_enumerate}
use Rattle.std.proofs.lemmas.Iterator.Adapters.{YieldsList-from_vec}
use Rattle.field_schema.specs.declared.key.Key.TheVariants.{Token}
use Rattle.segment_postings.specs.Segments.{occurrence}
use Rattle.segment_postings.proofs.Occurrences.{paired}
use Rattle.segment_postings.proofs.occurrence.add_tokens.Goals as goal

pub returns : goal.returns
returns c =
    let t = YieldsList-end (YieldsList-from_enumerate {s = c.into_iter-i-iterator.result} (YieldsList-from_vec {s = c.into_iter-i-iterator.result.iter} c.args.tokens.items (cc) (cc)) (cc)) c.loop-i.yielded c.loop-i.i-iterator c.loop-i.yielded_by c.next.result c.next.new.self c.in-None.is c.next.ensures.steps in
    c.loop-i.invariant
    ∙ ap (λ xs. c.args.found.now.items ++ map (λ e. occurrence c.args.doc c.args.value (e.0, Token e.1)) xs) (sym (paired c.loop-i.yielded) ∙ t.0)
