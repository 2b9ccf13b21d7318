use Rattle.std.proofs.Common.{◌≡◌, Some, refl, sym, ◌∙◌, arith}
use Rattle.std.proofs.lemmas.Option.{none-some}
use Rattle.registry_machine.specs.declared.entry.Entry.TheVariants.{Update}
use Rattle.registry_core.specs.Journal.{entry_told, by_caller, written}
use Rattle.registry_core.proofs.Next.{next_of}
use Rattle.registry_core.proofs.Endings.{ends_stay}
use Rattle.registry_core.proofs.Kept.{places_kept, enters, has_place}
use Rattle.registry_core.proofs.locked.Locked.enter.Goals as goal

pub execute_update-place-requires-clause-room : goal.execute_update-place-requires-clause-room
execute_update-place-requires-clause-room g c =
    let l = c.args.self.now in
    let a = places_kept g.W.Writer l c.requires.ahead in
    let b = l.journal.ok.0 in
    let s = l.journal.small in
    let r = c.requires.room in
    omega arith

pub returns-clause-kept : goal.returns-clause-kept
returns-clause-kept g c =
    let a = c.args.call in
    let l = c.args.self.now in
    let e = c.execute_update-place.ensures in
    let tells : entry_told c.placed.result ≡ by_caller a.caller a.asked.content (written a.asked.content.update) =
    c.placed.ensures ∙ (λ i. by_caller (sym c.requires.here.caller_is i) (e.content i) (written (e.content i).update)) in
    enters g.W.Writer l _ (Update a.caller a.asked.content) c.placed.result c.requires.ahead (next_of l.registrar c.execute_update-place.new.self a _ e.entry) c.push_reserved.ensures.items (λ i. Some (sym tells i)) refl
    (λ docs is. absurd (none-some docs is)) refl refl refl refl c.requires.ahead.spare.warming (let r = c.requires.room in omega arith)
    (ends_stay l _ (Update a.caller a.asked.content) c.requires.ahead.ended (next_of l.registrar c.execute_update-place.new.self a _ e.entry) c.requires.ahead.ended.space refl refl)

pub returns-clause-place : goal.returns-clause-place
returns-clause-place g c =
    let e = c.execute_update-place.ensures in
    has_place c.args.self.now.registrar c.execute_update-place.new.self c.args.call _ c.execute_update-place.result.0 e.entry e.place
