use Rattle.std.proofs.Common.{rules, sym, ap, subst, ◌∙◌, ◌≤◌, length}
use Rattle.cache_traces.specs.Named.{steps_of, AllNamed}
use Rattle.cache_traces.proofs.Naming.{steps_insert, named_insert, grows-insert, grows-same}
use Rattle.cache_traces.specs.Traced.{Grows}
use Rattle.cache_traces.proofs.trace.Trace.number.Goals.{in-Ok, in-Err}
use Rattle.cache_traces.proofs.trace.Trace.number.Goals as goal

pub invariant_of-self : goal.invariant_of-self
invariant_of-self g c =
    let keys = c.self.inside.keys.keys in
    let rs = c.self.inside.records.items in
    elim c.match-insert_full.branch [
      | in-Ok w ↦ (search rules, subst (λ ks. AllNamed ks rs) (sym w.in-Ok.ensures.keys) (named_insert g.K.PartialEq.eq keys c.args.key rs c.self.invariant.1))
      | in-Err w ↦ subst (λ ks. (length ks ≤ 4294967296) × AllNamed ks rs) (sym w.in-Err.ensures.err) c.self.invariant
    ]

pub returns-clause-steps : goal.returns-clause-steps
returns-clause-steps g c =
    let keys = c.self.inside.keys.keys in
    let rs = c.self.inside.records.items in
    elim c.match-insert_full.branch [
      | in-Ok w ↦ ap (λ ks. steps_of ks rs) w.in-Ok.ensures.keys ∙ steps_insert g.K.PartialEq.eq keys c.args.key rs c.self.invariant.1 ∙ ap (λ v. v.steps) c.self.view_is
      | in-Err w ↦ ap (λ ks. steps_of ks rs) w.in-Err.ensures.err ∙ ap (λ v. v.steps) c.self.view_is
    ]

pub returns-clause-grows : goal.returns-clause-grows
returns-clause-grows g c =
    let keys = c.self.inside.keys.keys in
    let here = ap (λ v. v.keys) c.self.view_is in
    elim c.match-insert_full.branch [
      | in-Ok w ↦ subst (λ ks. Grows ks c.insert_full.new.self.keys) here (subst (Grows keys) (sym w.in-Ok.ensures.keys) (grows-insert g.K.PartialEq.eq keys c.args.key))
      | in-Err w ↦ subst (λ ks. Grows ks c.insert_full.new.self.keys) here (grows-same keys c.insert_full.new.self.keys w.in-Err.ensures.err)
    ]
