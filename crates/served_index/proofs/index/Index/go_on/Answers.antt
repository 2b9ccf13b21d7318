use Rattle.std.proofs.Common.{◌≡◌, ◌++◌, ◌+◌, ◌≤◌, ap, sym, subst, ◌∙◌, arith}
use Rattle.std.specs.Arc.{arc_value}
use Rattle.segment_postings.specs.Numbered.{docs}
use Rattle.served_index.specs.IndexState.{IndexState}
use Rattle.served_index.specs.Standing.{staying}
use Rattle.served_index.proofs.Indexing.{IsIndex-opened, docs-anew}
use Rattle.served_index.proofs.index.Index.go_on.Goals as goal

pub invariant_of-self : goal.invariant_of-self
invariant_of-self c =
    let v = (arc_value c.self.inside.current).seen in
    let w = (arc_value c.args.view).seen in
    let stands : docs w ≡ staying v c.self.inside.gone.items ++ c.self.inside.pending.docs = c.requires.docs ∙ sym (ap (λ (k : IndexState). k.docs) c.self.view_is) in
    let low : w.size ≤ v.size + c.self.inside.pending.slots = subst (λ (k : IndexState). w.size ≤ k.numbers) (sym c.self.view_is) c.requires.size in
    IsIndex-opened v w c.self.inside.gone.items c.new.result.items c.self.inside.pending c.new-2.result c.self.inside.keys.items c.self.invariant
    stands low c.new.ensures.items c.new-2.ensures.docs c.new-2.ensures.slots

pub returns-clause-served : goal.returns-clause-served
returns-clause-served c = c.requires.docs

pub returns-clause-docs : goal.returns-clause-docs
returns-clause-docs c =
    docs-anew (arc_value c.args.view).seen c.new.result.items c.new-2.result.docs c.new.ensures.items c.new-2.ensures.docs ∙ c.requires.docs

pub returns-clause-numbers : goal.returns-clause-numbers
returns-clause-numbers c =
    let w = (arc_value c.args.view).seen in
    let none = c.new-2.ensures.slots in
    let low = c.requires.size in
    omega (arith, low, none)
