use Rattle.std.proofs.Common.{ℕ, [], ◌∷◌, sym, arith}
use Rattle.std.proofs.lemmas.List.{map-append}
use Rattle.doc_model.proofs.Members.{no_values_more}
use Rattle.doc_model.proofs.object.no_values.Goals as goal

pub loop-number-preserved : goal.loop-number-preserved
loop-number-preserved c =
    let n : ℕ = c.loop-number._number in
    rw (c.in_ok-push.ensures.items, map-append (λ v. v.items) c.loop-number.empty.items (c.new.result ∷ []), c.new.ensures.items, c.loop-number.invariant)
    (sym (no_values_more c.args.schema.now.list n (omega arith)))
