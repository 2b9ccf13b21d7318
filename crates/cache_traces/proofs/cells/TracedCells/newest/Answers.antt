use Rattle.std.proofs.Common.{Some, sym, ap, ◌∙◌}
use Rattle.std.specs.Prelude.{Result, Ok, Err, IfOk}
use Rattle.cache_machine.specs.Machine.{recent_keys}
use Rattle.cache_traces.specs.Named.{all_named}
use Rattle.cache_traces.proofs.Holding.{names_recent}
use Rattle.cache_traces.proofs.cells.TracedCells.newest.Goals as goal

if_ok : {T E : Type 0} {P Q : T → Type 0} (result : Result T E) → ((x : T) → P x → Q x) → IfOk result P → IfOk result Q
if_ok (Ok x) f p = f x p
if_ok (Err e) f p = tt

pub returns : goal.returns
returns g c =
    let inside = c.self.inside in
    let keys = inside.trace.keys in
    if_ok c.newest.result (λ ns is.
    ap (λ v. all_named v.keys ns.items) (sym c.self.view_is) ∙ ap (all_named keys) is ∙ names_recent keys c.args.most inside.cells c.self.invariant.in_keys
    ∙ ap (λ v. Some (recent_keys c.args.most v.cache.kept)) c.self.view_is) c.newest.ensures
