-- How two documents stand is a total order, which ties only documents of one number.
use Rattle.std.proofs.Common.{◌≡◌, Bool, true, false, List, [], ◌∷◌, subst}
use Rattle.std.specs.declared.cmp.Ordering.{Ordering}
use Rattle.std.specs.declared.cmp.Ordering.TheVariants.{Equal}
use Rattle.std.specs.Cmp.{IsTotalOrder, nat_cmp_total, on_total, back_total, then_total}
use Rattle.std.specs.Cmp.Lexicographic.{options_total}
use Rattle.field_schema.specs.Laws.{key_cmp_total}
use Rattle.query_tree.specs.declared.sort.SortBy.{SortBy}
use Rattle.query_tree.specs.declared.sort.SortBy.TheVariants.{Field, DocId}
use Rattle.query_tree.specs.declared.sort.SortKey.{SortKey}
use Rattle.query_tree.specs.OrderLaws.{both_Equal, nats_apart}
use Rattle.sort_order.specs.Order.{Entry, first_value, by_cmp, turned, doc_cmp}

by_total : (by : SortBy) → IsTotalOrder (by_cmp by)
by_total (Field field) = on_total (λ e. first_value e field) (options_total key_cmp_total)
by_total DocId = on_total (λ e. e.0) nat_cmp_total

turned_total : (down : Bool) {R : Entry → Entry → Ordering} → IsTotalOrder R → IsTotalOrder (λ a b. turned down (R a b))
turned_total false o = o
turned_total true o = subst IsTotalOrder (λ i a b. o.antisymm b a i) (back_total o)

pub doc_cmp_total : (sort : List SortKey) → IsTotalOrder (doc_cmp sort)
doc_cmp_total [] = on_total (λ e. e.0) nat_cmp_total
doc_cmp_total (k ∷ ks) = then_total (turned_total k.down (by_total k.by)) (doc_cmp_total ks)

pub tied_number : (sort : List SortKey) (a b : Entry) → doc_cmp sort a b ≡ Equal → a.0 ≡ b.0
tied_number [] a b e = nats_apart a.0 b.0 e
tied_number (k ∷ ks) a b e = tied_number ks a b (both_Equal (turned k.down (by_cmp k.by a b)) (doc_cmp ks a b) e).1
