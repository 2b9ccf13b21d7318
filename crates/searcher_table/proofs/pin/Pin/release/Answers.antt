use Rattle.std.proofs.Common.{◌≡◌, ◌+◌, ◌*◌, ◌/◌, ◌%◌, ◌∙◌, cond, eq-eqb, [], ◌∷◌, None, inl, inr, refl, sym, ap, subst, arith}
use Rattle.std.specs.Prelude.{◌^◌}
use Rattle.searcher_table.specs.Words.{limits}
use Rattle.registry_machine.specs.Legal.{state_of}
use Rattle.searcher_table.specs.Counts.{pinned}
use Rattle.atomic_table.specs.Table.{rest}
use Rattle.searcher_table.specs.declared.board.Cell.TheVariants.{Full, Empty}
use Rattle.searcher_table.specs.declared.board.Known.{Known}
use Rattle.searcher_table.specs.declared.board.Plan.{Plan}
use Rattle.searcher_table.specs.Doors.{cell_of, shown_in, IsDoor}
use Rattle.searcher_table.proofs.Filling.{has_out}
use Rattle.searcher_table.proofs.Taking.{out_is}
use Rattle.searcher_table.specs.Pins.{plan_of}
use Rattle.searcher_table.proofs.Release.{releases_slot}
use Rattle.searcher_table.proofs.Freeing.{frees}
use Rattle.searcher_table.proofs.Pinning.{rests, drains, released_by, freed_by}
use Rattle.searcher_table.proofs.pin.Pin.release.Goals as goal

pub exchange-requires : goal.exchange-requires
exchange-requires g c =
    let pin = c.args.self in
    let table = c.deref.result.now.shared in
    let same : pin.place.table_id ≡ table.table_id = pin.at_table ∙ sym (ap (λ t. t.shared.table_id) c.deref.ensures) in
    (same, (Empty, has_out pin.place.me.1 [] (cell_of pin.slot pin.caller) (cell_of pin.slot pin.caller) Empty pin.out refl))

pub fetch_add-found-requires : goal.fetch_add-found-requires
fetch_add-found-requires g c =
    let pin = c.args.self in
    let table = c.deref-2.result.now.shared in
    let same : pin.place.table_id ≡ table.table_id = pin.at_table ∙ sym (ap (λ t. t.shared.table_id) c.deref-2.ensures) in
    let words : table.table_id.words ≡ 1168 = ap (λ z. z.words) (sym same) ∙ pin.sized in
    let met = c.exchange.new.seat.me in
    let is = out_is met pin.place.me [] (cell_of pin.slot pin.caller) (cell_of pin.slot pin.caller) Empty (Full pin.door) pin.out refl c.exchange.ensures.3 in
    let numbered : met.0.caller ≡ pin.caller = ap (λ m. m.0.caller) is ∙ pin.numbered in
    let r = pin.ranged in
    let b = pin.below in (
      c.exchange.ensures.0 ∙ same,
      omega arith,
      releases_slot g.D.Shown.setting g.D.Shown.docs g.D.Shown.list table.key table.table_id.slots c.exchange.new.seat.id met (64 + 8 * pin.slot) pin.slot pin.generation refl pin.below (omega arith) (omega arith) (ap (λ m. m.0.back) is ∙ pin.none_back)
          (ap (λ m. pinned m.0.caller m.0.mine) is ∙ ap (λ d. pinned d pin.place.me.0.mine) pin.numbered ∙ pin.holds) (ap (λ m. m.0.task) is ∙ pin.idle)
          (ap (λ m. (state_of (limits table.key) m.0.seen).slots pin.slot) is ∙ ap (λ t. (state_of (limits t.shared.key) pin.place.me.0.seen).slots pin.slot) c.deref-2.ensures ∙ pin.opened) pin.door
          (ap (λ m. m.1) is ∙ (λ i. (cell_of pin.slot (sym numbered i), Full pin.door) ∷ []))
          (subst (λ (z : Plan g.row.D-Setting.Denot × Known g.row.D-Setting.Denot g.row.U.Denot g.row.D-Docs.Denot g.row.D-Deed.Denot). IsDoor g.D.Shown.setting g.D.Shown.docs z.0 (shown_in z.1.seen pin.generation) pin.door) (λ i. (ap (λ t. t.shared.key) (sym c.deref-2.ensures) i, ap (λ m. m.0) (sym is) i)) c.requires.door),
    )

pub invariant_of-result : goal.invariant_of-result
invariant_of-result g c =
    let pin = c.args.self in
    let e = c.fetch_add-found.ensures in
    let met = c.exchange.new.seat.me in
    let new = c.fetch_add-found.new.seat.me in
    let n = c.fetch_add-found.result in
    let is = out_is met pin.place.me [] (cell_of pin.slot pin.caller) (cell_of pin.slot pin.caller) Empty (Full pin.door) pin.out refl c.exchange.ensures.3 in
    let made = e.2 pin.slot pin.generation pin.door refl (ap (λ m. pinned m.0.caller m.0.mine) is ∙ ap (λ d. pinned d pin.place.me.0.mine) pin.numbered ∙ pin.holds) (ap (λ m. m.1) is ∙ (λ i. (cell_of pin.slot (sym (ap (λ m. m.0.caller) is ∙ pin.numbered) i), Full pin.door) ∷ [])) in
    let k = released_by (plan_of pin) pin.caller pin.generation pin.slot n (g.D.Shown.list pin.door) pin.place.me.0 ((cell_of pin.slot pin.caller, Full pin.door) ∷ []) met new is pin.told pin.numbered pin.ranged.0 made.0 in
    record {
      at_table = e.0 ∙ c.exchange.ensures.0 ∙ pin.at_table;
      sized = ap (λ z. z.words) (e.0 ∙ c.exchange.ensures.0) ∙ pin.sized;
      told = k.plan ∙ pin.told;
      numbered = k.caller ∙ pin.numbered;
      ranged = pin.ranged;
      own = k.entered.own;
      tried = (let a = k.tries in let b = pin.tried in omega arith);
      most = pin.most;
      within = pin.within;
      unpinned = k.pin ∙ ap (λ b. cond b None (pinned pin.caller pin.place.me.0.mine)) (eq-eqb pin.caller pin.caller refl);
      empty_handed = k.hand;
      idle = k.task_is ∙ rests n pin.slot pin.generation c.if-found.true;
      none_back = k.back ∙ pin.none_back;
      bare = made.1 ∙ ap (λ m. rest m.1) is;
    }

pub returns-then-found : goal.returns-then-found
returns-then-found g c =
    let pin = c.args.self in
    let e = c.fetch_add-found.ensures in
    let met = c.exchange.new.seat.me in
    let new = c.fetch_add-found.new.seat.me in
    let n = c.fetch_add-found.result in
    let is = out_is met pin.place.me [] (cell_of pin.slot pin.caller) (cell_of pin.slot pin.caller) Empty (Full pin.door) pin.out refl c.exchange.ensures.3 in
    let made = e.2 pin.slot pin.generation pin.door refl (ap (λ m. pinned m.0.caller m.0.mine) is ∙ ap (λ d. pinned d pin.place.me.0.mine) pin.numbered ∙ pin.holds) (ap (λ m. m.1) is ∙ (λ i. (cell_of pin.slot (sym (ap (λ m. m.0.caller) is ∙ pin.numbered) i), Full pin.door) ∷ [])) in
    let k = released_by (plan_of pin) pin.caller pin.generation pin.slot n (g.D.Shown.list pin.door) pin.place.me.0 ((cell_of pin.slot pin.caller, Full pin.door) ∷ []) met new is pin.told pin.numbered pin.ranged.0 made.0 in
    record {
      same = record { table = sym (e.0 ∙ c.exchange.ensures.0); plan = refl; caller = refl };
      after = new.0;
      entered = k.entered;
      ended = inl refl;
    }

pub fetch_or-requires : goal.fetch_or-requires
fetch_or-requires g c =
    let pin = c.args.self in
    let table = c.deref-3.result.now.shared in
    let e = c.fetch_add-found.ensures in
    let new = c.fetch_add-found.new.seat.me in
    let n = c.fetch_add-found.result in
    let same : pin.place.table_id ≡ table.table_id = pin.at_table ∙ sym (ap (λ t. t.shared.table_id) c.deref-3.ensures) in
    let words : table.table_id.words ≡ 1168 = ap (λ z. z.words) (sym same) ∙ pin.sized in
    let b = pin.below in
    let met = c.exchange.new.seat.me in
    let is = out_is met pin.place.me [] (cell_of pin.slot pin.caller) (cell_of pin.slot pin.caller) Empty (Full pin.door) pin.out refl c.exchange.ensures.3 in
    let made = e.2 pin.slot pin.generation pin.door refl (ap (λ m. pinned m.0.caller m.0.mine) is ∙ ap (λ d. pinned d pin.place.me.0.mine) pin.numbered ∙ pin.holds) (ap (λ m. m.1) is ∙ (λ i. (cell_of pin.slot (sym (ap (λ m. m.0.caller) is ∙ pin.numbered) i), Full pin.door) ∷ [])) in
    let k = released_by (plan_of pin) pin.caller pin.generation pin.slot n (g.D.Shown.list pin.door) pin.place.me.0 ((cell_of pin.slot pin.caller, Full pin.door) ∷ []) met new is pin.told pin.numbered pin.ranged.0 made.0 in
    let r = pin.ranged in
    let numbered = k.caller ∙ pin.numbered in (
      e.0 ∙ c.exchange.ensures.0 ∙ same,
      omega arith,
      frees g.D.Shown.setting g.D.Shown.docs g.D.Shown.list table.key table.table_id.slots c.fetch_add-found.new.seat.id new (24 + 8 * (pin.slot / 64)) (1 * 2 ^ (pin.slot % 64) % 2 ^ 64) pin.slot pin.generation _ refl (omega arith) (inl (omega arith))
          (k.task_is ∙ drains n pin.slot pin.generation c.if-found.false) (λ words long low m. refl),
    )

pub invariant_of-result-2 : goal.invariant_of-result-2
invariant_of-result-2 g c =
    let pin = c.args.self in
    let e = c.fetch_add-found.ensures in
    let e2 = c.fetch_or.ensures in
    let met = c.exchange.new.seat.me in
    let mid = c.fetch_add-found.new.seat.me in
    let n = c.fetch_add-found.result in
    let is = out_is met pin.place.me [] (cell_of pin.slot pin.caller) (cell_of pin.slot pin.caller) Empty (Full pin.door) pin.out refl c.exchange.ensures.3 in
    let made = e.2 pin.slot pin.generation pin.door refl (ap (λ m. pinned m.0.caller m.0.mine) is ∙ ap (λ d. pinned d pin.place.me.0.mine) pin.numbered ∙ pin.holds) (ap (λ m. m.1) is ∙ (λ i. (cell_of pin.slot (sym (ap (λ m. m.0.caller) is ∙ pin.numbered) i), Full pin.door) ∷ [])) in
    let k = released_by (plan_of pin) pin.caller pin.generation pin.slot n (g.D.Shown.list pin.door) pin.place.me.0 ((cell_of pin.slot pin.caller, Full pin.door) ∷ []) met mid is pin.told pin.numbered pin.ranged.0 made.0 in
    let f = freed_by (plan_of pin) pin.caller mid c.fetch_or.new.seat.me pin.generation (k.plan ∙ pin.told) (k.caller ∙ pin.numbered) pin.ranged.0 (e2.2 pin.slot pin.generation (k.task_is ∙ drains n pin.slot pin.generation c.if-found.false)) in
    record {
      at_table = e2.0 ∙ e.0 ∙ c.exchange.ensures.0 ∙ pin.at_table;
      sized = ap (λ z. z.words) (e2.0 ∙ e.0 ∙ c.exchange.ensures.0) ∙ pin.sized;
      told = f.plan ∙ k.plan ∙ pin.told;
      numbered = f.caller ∙ k.caller ∙ pin.numbered;
      ranged = pin.ranged;
      own = f.freed.own;
      tried = (let a = k.tries in let b = pin.tried in let d = f.tries in omega arith);
      most = pin.most;
      within = pin.within;
      unpinned = f.pin ∙ k.pin ∙ ap (λ b. cond b None (pinned pin.caller pin.place.me.0.mine)) (eq-eqb pin.caller pin.caller refl);
      empty_handed = f.hand;
      idle = f.task_is;
      none_back = f.back ∙ k.back ∙ pin.none_back;
      bare = f.carried ∙ made.1 ∙ ap (λ m. rest m.1) is;
    }

pub returns : goal.returns
returns g c =
    let pin = c.args.self in
    let e = c.fetch_add-found.ensures in
    let e2 = c.fetch_or.ensures in
    let met = c.exchange.new.seat.me in
    let mid = c.fetch_add-found.new.seat.me in
    let n = c.fetch_add-found.result in
    let is = out_is met pin.place.me [] (cell_of pin.slot pin.caller) (cell_of pin.slot pin.caller) Empty (Full pin.door) pin.out refl c.exchange.ensures.3 in
    let made = e.2 pin.slot pin.generation pin.door refl (ap (λ m. pinned m.0.caller m.0.mine) is ∙ ap (λ d. pinned d pin.place.me.0.mine) pin.numbered ∙ pin.holds) (ap (λ m. m.1) is ∙ (λ i. (cell_of pin.slot (sym (ap (λ m. m.0.caller) is ∙ pin.numbered) i), Full pin.door) ∷ [])) in
    let k = released_by (plan_of pin) pin.caller pin.generation pin.slot n (g.D.Shown.list pin.door) pin.place.me.0 ((cell_of pin.slot pin.caller, Full pin.door) ∷ []) met mid is pin.told pin.numbered pin.ranged.0 made.0 in
    let f = freed_by (plan_of pin) pin.caller mid c.fetch_or.new.seat.me pin.generation (k.plan ∙ pin.told) (k.caller ∙ pin.numbered) pin.ranged.0 (e2.2 pin.slot pin.generation (k.task_is ∙ drains n pin.slot pin.generation c.if-found.false)) in
    record {
      same = record { table = sym (e2.0 ∙ e.0 ∙ c.exchange.ensures.0); plan = refl; caller = refl };
      after = mid.0;
      entered = k.entered;
      ended = inr f.freed;
    }
