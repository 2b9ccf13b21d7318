use Rattle.std.proofs.Common.{◌∙◌, not}
use Rattle.std.proofs.lemmas.Result.{IfOk-weaker}
use Rattle.doc_sets.specs.Sets.{is_in}
use Rattle.doc_sets.specs.BitRows.{has_bit}
use Rattle.doc_sets.proofs.Bits.{is_in-numbers_of}
use Rattle.doc_sets.proofs.SetsOf.{minus_of, filtered, filtered_rises}
use Rattle.doc_sets.proofs.FormOfSet.{listed_rises, listed_holds, row_holds}
use Rattle.doc_sets.proofs.doc_set.DocSet.minus.Goals as goal

pub settled_list-requires : goal.settled_list-requires
settled_list-requires c = filtered_rises _ _ _ c.in_ok-without-in-Listed-Listed.ensures (listed_rises _ _ _ c.self.invariant.0 c.in-Listed-Listed.is-0 c.deref.ensures.value)

pub settled_list-requires-in-Listed-Bits : goal.settled_list-requires-in-Listed-Bits
settled_list-requires-in-Listed-Bits c = filtered_rises _ _ _ c.in_ok-list_without-in-Listed-Bits.ensures (listed_rises _ _ _ c.self.invariant.0 c.in-Listed-Bits.is-0 c.deref-in-Listed-Bits.ensures.value)

pub returns-in_ok-without-in-Listed-Listed : goal.returns-in_ok-without-in-Listed-Listed
returns-in_ok-without-in-Listed-Listed c =
    let left = c.deref.result.now in
    let right = c.deref-in-Listed-Listed.result.now in
    IfOk-weaker c.settled_list.result _ _ (λ s e. e ∙ minus_of c.args.self.now c.args.other.now (is_in left) (is_in right) _
    (listed_holds _ _ _ _ c.self.view_is c.in-Listed-Listed.is-0 c.deref.ensures.value)
    (listed_holds _ _ _ _ c.other.view_is c.in-Listed-Listed.is-1 c.deref-in-Listed-Listed.ensures.value)
    (filtered (λ n. not (is_in right n)) left _ c.in_ok-without-in-Listed-Listed.ensures)) c.settled_list.ensures

pub returns-in_ok-list_without-in-Listed-Bits : goal.returns-in_ok-list_without-in-Listed-Bits
returns-in_ok-list_without-in-Listed-Bits c =
    let numbers = c.deref-in-Listed-Bits.result.now in
    let words = c.deref-in-Listed-Bits-2.result.now in
    IfOk-weaker c.settled_list-in-Listed-Bits.result _ _ (λ s e. e ∙ minus_of c.args.self.now c.args.other.now (is_in numbers) (has_bit words) _
    (listed_holds _ _ _ _ c.self.view_is c.in-Listed-Bits.is-0 c.deref-in-Listed-Bits.ensures.value)
    (row_holds _ _ _ _ c.other.view_is c.in-Listed-Bits.is-1 c.deref-in-Listed-Bits-2.ensures.value)
    (filtered (λ n. not (has_bit words n)) numbers _ c.in_ok-list_without-in-Listed-Bits.ensures)) c.settled_list-in-Listed-Bits.ensures

pub returns-in_ok-without_list-in-Bits-Listed : goal.returns-in_ok-without_list-in-Bits-Listed
returns-in_ok-without_list-in-Bits-Listed c =
    let words = c.deref-in-Bits-Listed.result.now in
    let numbers = c.deref-in-Bits-Listed-2.result.now in
    IfOk-weaker c.settled_row.result _ _ (λ s e. e ∙ minus_of c.args.self.now c.args.other.now (has_bit words) (is_in numbers) _
    (row_holds _ _ _ _ c.self.view_is c.in-Bits-Listed.is-0 c.deref-in-Bits-Listed.ensures.value)
    (listed_holds _ _ _ _ c.other.view_is c.in-Bits-Listed.is-1 c.deref-in-Bits-Listed-2.ensures.value)
    (λ n. is_in-numbers_of _ n ∙ c.in_ok-without_list-in-Bits-Listed.ensures.members n)) c.settled_row.ensures

pub returns-in_ok-without-in-Bits-Bits : goal.returns-in_ok-without-in-Bits-Bits
returns-in_ok-without-in-Bits-Bits c =
    let left = c.deref-in-Bits-Bits.result.now in
    let right = c.deref-in-Bits-Bits-2.result.now in
    IfOk-weaker c.settled_row-in-Bits-Bits.result _ _ (λ s e. e ∙ minus_of c.args.self.now c.args.other.now (has_bit left) (has_bit right) _
    (row_holds _ _ _ _ c.self.view_is c.in-Bits-Bits.is-0 c.deref-in-Bits-Bits.ensures.value)
    (row_holds _ _ _ _ c.other.view_is c.in-Bits-Bits.is-1 c.deref-in-Bits-Bits-2.ensures.value)
    (λ n. is_in-numbers_of _ n ∙ c.in_ok-without-in-Bits-Bits.ensures.members n)) c.settled_row-in-Bits-Bits.ensures
