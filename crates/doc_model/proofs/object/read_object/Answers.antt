use Rattle.std.proofs.Common.{◌≡◌, ℕ, false, List, [], ◌∷◌, Some, Ok, Err, map, string_bytes, subst, sym}
use Rattle.std.specs.Prelude.{⊤}
use Rattle.std.specs.Bool.{MatchBool}
use Rattle.std.proofs.lemmas.Result.{err_from_is_err_and}
use Rattle.std.proofs.lemmas.List.{map-set}
use Rattle.serde_json.specs.View.{view, members_view}
use Rattle.serde_json.proofs.Views.{Entry}
use Rattle.field_schema.specs.Schema.{field_named}
use Rattle.field_schema.specs.declared.key.Key.{Key}
use Rattle.doc_model.specs.Document.{IsIdAt, with_id}
use Rattle.doc_model.specs.ReadDoc.{is_no_memory, lacks_id}
use Rattle.doc_model.specs.Readers.{member_or_fault}
use Rattle.doc_model.proofs.Members.{Walked, walk_on, walk_told, walk_ends}
use Rattle.doc_model.proofs.UniqueKey.{id_read}
use Rattle.doc_model.proofs.object.read_object.Goals as goal

pub loop-name-preserved : goal.loop-name-preserved
loop-name-preserved c =
    let l = c.loop-name in
    let fields = c.args.schema.now.list in
    let all = c.args.members.now.entries in
    let e : Entry = (c.in-Some.name.now, c.in-Some.value.now) in
    let left = c.next.new.self in
    let step : l.name-iterator ≡ e ∷ left = c.in-Some.ensures.steps in
    let number = c.in_ok-number.number in
    let values = c.in_ok-number.values in
    let w = subst (λ (es : List Entry). Walked fields all es (map (λ v. v.items) l.fields.items)) step l.invariant in
    let named : c.as_str.result.now ≡ string_bytes e.0 = c.as_str.ensures.value in
    let place = subst (λ (n : List ℕ). field_named n fields ≡ Some number) named c.in_ok-number.ensures.place in
    let told = subst (λ (n : List ℕ). member_or_fault fields n (view e.1) ≡ Ok (Some values.items)) named c.in_ok-number.ensures.read in
    let on = walk_on fields all left _ e number values.items c.key_field-key.ensures.lawful.distinct c.iter-name-items.ensures.ordered w place told in
    rw (map-set (λ v. v.items) l.fields.items number values) on

pub returns-clause-id : goal.returns-clause-id
returns-clause-id c =
    let l = c.loop-name in
    let s = c.args.schema.now in
    let all = c.args.members.now.entries in
    let vs = map (λ v. v.items) l.fields.items in
    let end : l.name-iterator ≡ [] = c.in-None.ensures.steps.0 in
    let walked = walk_ends s.list all vs (subst (λ (es : List Entry). Walked s.list all es vs) end l.invariant) in
    let some : lacks_id s (members_view all) ≡ false = cc in
    let id = id_read s (members_view all) c.key_field-key.ensures.lawful some walked.0 in
    subst (λ (x : List (List Key)). IsIdAt (with_id x s.key) s.key) (sym walked.1) id

pub returns-in_err-number-clause-read : goal.returns-in_err-number-clause-read
returns-in_err-number-clause-read c =
    let l = c.loop-name in
    let s = c.args.schema.now in
    let all = c.args.members.now.entries in
    let vs = map (λ v. v.items) l.fields.items in
    let e : Entry = (c.in-Some.name.now, c.in-Some.value.now) in
    let left = c.next.new.self in
    let step : l.name-iterator ≡ e ∷ left = c.in-Some.ensures.steps in
    let w = subst (λ (es : List Entry). Walked s.list all es vs) step l.invariant in
    let named : c.as_str.result.now ≡ string_bytes e.0 = c.as_str.ensures.value in
    let some : lacks_id s (members_view all) ≡ false = cc in
    let x = c.in_err-number.field-0.0 in
    let bad = subst (λ (n : List ℕ). MatchBool (is_no_memory x) ⊤ (member_or_fault s.list n (view e.1) ≡ Err x)) named c.in_err-number.ensures.read in
    let p = err_from_is_err_and c.from_residual-in_err-number.result c.from_residual-in_err-number.ensures.1 in
    rw (p.1, p.2) (walk_told s all left vs e x some w bad)
