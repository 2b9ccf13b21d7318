use Rattle.std.proofs.Common.{◌≡◌, ◌-◌, ◌^◌, min, sum_by, take}
use Rattle.searcher_books.specs.Records.{many_listed}
use Rattle.searcher_books.proofs.book.keys_listed.Given as goal

-- the keys of the calls so far
abbrev pub invariant-loop-record : goal.invariant-loop-record
invariant-loop-record g l = l.keys ≡ min (sum_by (λ r. many_listed r.done) (take l.record-index l.records)) (2 ^ 64 - 1)
