use Rattle.std.proofs.Common.{◌≡◌, [], ◌∷◌, ◌++◌, length, vec_len, true≢false, refl, sym, subst, ◌∙◌}
use Rattle.view_cells.specs.Closing.{AllIdle, FitsAll, KeepsEach}
use Rattle.view_cells.proofs.Closing.{last_of, one_less, next_left, fits_left, keeps_left, none_left}
use Rattle.view_cells.proofs.make.CellTable.close_all.Goals as goal

pub loop-other-init : goal.loop-other-init
loop-other-init g c =
    let xs = c.pop.new.self.items in
    let one = c.in-Some.one in
    last_of (xs ++ one ∷ []) xs one refl (subst (λ ls. AllIdle ls) c.in-Some.ensures.items c.requires.row)

pub join-requires-clause-table : goal.join-requires-clause-table
join-requires-clause-table g c =
    (next_left (c.pop.new.self.items ++ c.in-Some.one ∷ []) c.loop-other.seats.items c.pop-in-loop-other.new.self.items c.loop-other.one c.in-Some-pop.other c.in-Some-pop.ensures.items c.loop-other.invariant).1

pub join-requires-clause-other_idle : goal.join-requires-clause-other_idle
join-requires-clause-other_idle g c =
    (next_left (c.pop.new.self.items ++ c.in-Some.one ∷ []) c.loop-other.seats.items c.pop-in-loop-other.new.self.items c.loop-other.one c.in-Some-pop.other c.in-Some-pop.ensures.items c.loop-other.invariant).0

pub loop-other-preserved : goal.loop-other-preserved
loop-other-preserved g c =
    one_less (c.pop.new.self.items ++ c.in-Some.one ∷ []) c.loop-other.seats.items c.pop-in-loop-other.new.self.items c.loop-other.one c.in-Some-pop.other c.join.new.self c.in-Some-pop.ensures.items c.loop-other.invariant c.join.ensures

pub returns-clause-fits : goal.returns-clause-fits
returns-clause-fits g c =
    subst (λ ls. FitsAll g.T.Fits.fits ls c.close.result) (sym c.in-Some.ensures.items)
    (fits_left g.T.Fits.fits (c.pop.new.self.items ++ c.in-Some.one ∷ []) c.loop-other.seats.items c.loop-other.one c.close.result c.loop-other.invariant c.close.ensures.fits)

pub returns-clause-lists : goal.returns-clause-lists
returns-clause-lists g c =
    let seats = c.loop-other.seats in
    let none : length seats.items ≡ 0 = sym seats.ok.0 ∙ none_left (vec_len seats) (λ lt. true≢false (sym (c.in_default-pop.ensures.variant.1 lt))) in
    subst (λ ls. KeepsEach g.T.Fits.entries ls c.close.result) (sym c.in-Some.ensures.items)
    (keeps_left g.T.Fits.entries (c.pop.new.self.items ++ c.in-Some.one ∷ []) seats.items c.loop-other.one c.close.result none c.loop-other.invariant c.close.ensures.lists c.close.ensures.distinct)
