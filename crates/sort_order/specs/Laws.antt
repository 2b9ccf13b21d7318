-- What holds of the order, whatever the sort and the documents.
use Rattle.std.specs.Prelude.{◌≡◌, ◌≢◌, ℕ, true, false, ◌||◌, List, [], map, nat_eq}
use Rattle.std.specs.Ordering.{nat_cmp}
use Rattle.std.specs.List.{IsDistinct, enumerate_from}
use Rattle.std.specs.List.Sorted.{IsPermutation, IsStrictlySortedBy}
use Rattle.doc_model.specs.Document.{Document}
use Rattle.query_tree.specs.declared.sort.SortKey.{SortKey}
use Rattle.sort_order.specs.Order.{Entry, doc_cmp, comes_before, in_order}

-- the numbers of documents
abbrev pub numbers : List Entry → List ℕ
numbers docs = map (λ e. e.0) docs

-- the documents without their numbers
abbrev pub documents : List Entry → List Document
documents docs = map (λ e. e.1) docs

-- No document comes before itself.
abbrev pub NoneBeforeItself : Type 0
NoneBeforeItself = (sort : List SortKey) (a : Entry) → comes_before sort a a ≡ false

-- What comes before a second that comes before a third comes before the third.
abbrev pub BeforeChains : Type 0
BeforeChains =
    (sort : List SortKey) (a b c : Entry) → comes_before sort a b ≡ true
    → comes_before sort b c ≡ true → comes_before sort a c ≡ true

-- Of two documents of different numbers one comes before the other.
abbrev pub OneComesBefore : Type 0
OneComesBefore =
    (sort : List SortKey) (a b : Entry) → a.0 ≢ b.0
    → (comes_before sort a b || comes_before sort b a) ≡ true

-- In order stand the same documents.
abbrev pub KeepsDocuments : Type 0
KeepsDocuments = (sort : List SortKey) (docs : List Entry) → IsPermutation docs (in_order sort docs)

-- Where no two have one number, each comes before all that stand behind it.
abbrev pub Ascends : Type 0
Ascends =
    (sort : List SortKey) (docs : List Entry) → IsDistinct nat_eq (numbers docs)
    → IsStrictlySortedBy (doc_cmp sort) (in_order sort docs)

-- Documents whose numbers ascend are in order by no key.
abbrev pub IndexOrderStays : Type 0
IndexOrderStays = (docs : List Entry) → IsStrictlySortedBy nat_cmp (numbers docs) → in_order [] docs ≡ docs

-- Of ascending numbers their order alone counts: documents stand as those of a list, numbered by their places in it.
abbrev pub OrderOfNumbersCounts : Type 0
OrderOfNumbersCounts =
    (sort : List SortKey) (docs : List Entry) → IsStrictlySortedBy nat_cmp (numbers docs)
    → documents (in_order sort docs) ≡ documents (in_order sort (enumerate_from 0 (documents docs)))
