use Rattle.std.proofs.Common.{◌≡◌, ◌∙◌, [], ◌∷◌, ◌++◌, length, Some, sym, ap, refl, arith}
use Rattle.view_cells.specs.Lists.{names, first_number, blank}
use Rattle.view_cells.proofs.Numbers.{blank_first}
use Rattle.view_cells.proofs.Opening.{opens}
use Rattle.view_cells.proofs.seat.Seat.first.Goals as goal

pub new-requires : goal.new-requires
new-requires g c =
    let one : c.push_reserved.new.self.items ≡ Some c.args.value ∷ [] = c.push_reserved.ensures.items ∙ ap (λ xs. xs ++ Some c.args.value ∷ []) c.in-Ok.ensures.items in
    opens g.T.Fits.fits g.T.Fits.entries _ _ _ c.args.value c.args.view.now refl refl one c.of.ensures c.requires.fits c.requires.empty

pub invariant_of-result : goal.invariant_of-result
invariant_of-result g c =
    let h = c.in-Ok-new.ensures.ok in
    let k = c.in-Ok-new-2.ensures.ok in
    let one : length c.push_reserved.new.self.items ≡ 1 = ap length (c.push_reserved.ensures.items ∙ ap (λ xs. xs ++ Some c.args.value ∷ []) c.in-Ok.ensures.items) in
    let lists : c.in-Ok-new.place.me.0.lists ≡ blank 0 c.args.seats = ap (λ m. m.0.lists) h.4 in
    let first = blank_first g.row.T-Entry.Denot 0 c.args.seats c.requires.seats.0 in
    record {
      at_table = h.2 ∙ ap (λ t. t.shared.table_id) (sym k);
      sized = (ap (λ z. z.words) h.2 ∙ h.0, ap (λ z. z.slots) h.2 ∙ h.1 ∙ one);
      told = ap (λ m. m.0.setting) h.4 ∙ ap (λ x. Some x) (sym h.5) ∙ ap (λ t. Some t.shared.key) (sym k);
      few = let a = ap (λ t. t.shared.key.seats) k in let b = ap (λ x. x.seats) h.5 in let s = c.requires.seats in omega arith;
      numbered = sym first.0 ∙ ap first_number (sym lists);
      named = ap (names 0) lists ∙ first.1;
    }
