use Rattle.std.proofs.Common.{ℕ, min, ap, sym, ◌∙◌, ◌-◌, ◌^◌}
use Rattle.searcher_books.specs.declared.book.Book.{Book}
use Rattle.searcher_books.specs.Books.{book_of}
use Rattle.searcher_books.proofs.Counting.{firsts, hits, stores, lists, keys_of}
use Rattle.searcher_books.proofs.book.of_trace.Goals as goal

-- a book of these numbers
book : ℕ → ℕ → ℕ → ℕ → ℕ → Book
book a b c d e = record { lookups = a; hits = b; stores = c; recents = d; keys = e }

pub returns : goal.returns
unfolding book
returns g c =
    let ks = c.args.trace.now.keys in
    let rs = c.records-records.result.now in
    let all = c.records-records.ensures.named in
    let keeps = g.V.Counted.keeps in
    let l = c.first_looks.ensures ∙ sym (firsts ks rs all) in
    let h = c.hits.ensures ∙ sym (hits ks rs all) in
    let s = c.stores.ensures ∙ sym (stores ks keeps rs all) in
    let r = c.lists.ensures ∙ sym (lists ks rs all) in
    let k = c.keys_listed.ensures ∙ ap (λ n. min n (2 ^ 64 - 1)) (sym (keys_of ks rs all)) in
    (λ i. book (l i) (h i) (s i) (r i) (k i)) ∙ ap (book_of keeps) (sym c.records-records.ensures.steps)
