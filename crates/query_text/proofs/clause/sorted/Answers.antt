use Rattle.std.proofs.Common.{◌≡◌, ◌++◌, [], ◌∷◌, reverse, refl, sym, ap, ◌∙◌}
use Rattle.std.proofs.lemmas.List.{append-nil, append_assoc}
use Rattle.query_text.specs.declared.clause.Mark.TheVariants.{Must, Should, Not}
use Rattle.query_text.specs.Clauses.{mark, conj_before, marked}
use Rattle.query_text.proofs.Sorting.{marked_more}
use Rattle.query_text.proofs.clause.sorted.Goals as goal

pub loop-clause-init : goal.loop-clause-init
unfolding marked
loop-clause-init c = ([], (sym (append-nil c.args.clauses), refl, ap reverse c.new-must.ensures.items, ap reverse c.new-should.ensures.items, ap reverse c.new-not.ensures.items))

pub loop-clause-preserved : goal.loop-clause-preserved
loop-clause-preserved c =
    let inv = c.loop-clause.invariant in
    let last = c.in-Some.clause in
    let is : c.mark_of-mark.result ≡ mark c.args.op last.before last.sign (conj_before inv.0) =
    c.mark_of-mark.ensures ∙ ap (mark c.args.op last.before last.sign) inv.1.1 in (
      last ∷ inv.0,
      (
        inv.1.0 ∙ ap (λ cs. cs ++ inv.0) c.in-Some.ensures ∙ append_assoc c.pop.new.self (last ∷ []) inv.0,
        refl,
        marked_more Must _ c.args.op last inv.0 c.loop-clause.must.items c.add.new.must.items inv.1.2 is c.in_ok-add.ensures.must,
        marked_more Should _ c.args.op last inv.0 c.loop-clause.should.items c.add.new.should.items inv.1.3 is c.in_ok-add.ensures.should,
        marked_more Not _ c.args.op last inv.0 c.loop-clause.not.items c.add.new.not.items inv.1.4 is c.in_ok-add.ensures.not,
      ),
    )
