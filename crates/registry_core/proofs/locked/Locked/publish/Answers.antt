use Rattle.std.proofs.Common.{◌≡◌, None, ◌∷◌, [], ◌++◌, length, refl, sym, ap, subst, ◌∙◌, arith}
use Rattle.searcher_table.specs.Registrars.{seen_of}
use Rattle.registry_core.specs.Journal.{entry_told, by_nobody}
use Rattle.registry_core.specs.Freshness.{generation_of}
use Rattle.registry_core.specs.Finishing.{IsEnd, end_of, place_of}
use Rattle.registry_core.specs.Publications.{published_told}
use Rattle.registry_core.proofs.Kept.{places_kept}
use Rattle.registry_core.proofs.Finishings.{is_end, gone, finishes_one}
use Rattle.registry_core.proofs.locked.Locked.publish.Goals as goal

pub publish-published-requires-clause-room : goal.publish-published-requires-clause-room
publish-published-requires-clause-room g c =
    let l = c.args.self.now in
    let a = places_kept g.W.Writer l c.requires.kept in
    let b = l.journal.ok.0 in
    let s = l.journal.small in
    let r = c.requires.kept.spare.room in
    omega arith

pub push_reserved-requires : goal.push_reserved-requires
push_reserved-requires g c =
    let l = c.args.self.now in
    let o = gone (g.D.Shown.list c.args.fresh.own) l.registrar c.publish-published.new.self c.args.fresh c.publish-published.result c.publish-published.ensures in
    let b = l.journal.ok.0 in
    let n = c.requires.kept.spare.warming in
    let r = c.requires.kept.spare.room in
    omega arith

pub push_reserved-requires-2 : goal.push_reserved-requires-2
push_reserved-requires-2 g c =
    let l = c.args.self.now in
    let o = gone (g.D.Shown.list c.args.fresh.own) l.registrar c.publish-published.new.self c.args.fresh c.publish-published.result c.publish-published.ensures in
    let b = l.finishes.ok.0 in
    let n = c.requires.kept.spare.warming in
    let r = c.requires.kept.ended.space in
    omega arith

pub returns-clause-kept : goal.returns-clause-kept
returns-clause-kept g c =
    let l = c.args.self.now in
    let f = c.args.fresh in
    let p = c.publish-published.result in
    let tells : entry_told (record { caller = None; line = None; what = c.told-what.result }) ≡ by_nobody (published_told (generation_of f) p) = ap by_nobody (c.told-what.ensures ∙ ap (λ n. published_told n p) c.generation-generation.ensures) in
    finishes_one g.W.Writer (g.D.Shown.list f.own) l _ f c.args.seat _ c.requires.kept c.push_reserved.ensures.items
    (c.push_reserved-2.ensures.items ∙ (λ i. l.finishes.items ++ record { seat = c.args.seat; finish = record { generation = c.generation-generation.ensures i; from = f.from } } ∷ [])) refl refl refl refl
    (ap length (c.get.ensures ∙ c.warming.ensures)) c.push_reserved.ensures.capacity c.push_reserved-2.ensures.capacity p c.publish-published.ensures tells

pub returns-clause-ended : goal.returns-clause-ended
returns-clause-ended g c =
    let l = c.args.self.now in
    let f = c.args.fresh in
    let list = g.D.Shown.list f.own in
    subst (λ q. IsEnd (end_of list f q) (place_of q) (seen_of l.registrar) (seen_of c.publish-published.new.self)) (sym c.answered.ensures) (is_end list l.registrar c.publish-published.new.self f c.publish-published.result c.publish-published.ensures)
