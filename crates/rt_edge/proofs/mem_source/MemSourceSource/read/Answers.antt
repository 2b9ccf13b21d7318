use Rattle.std.proofs.Common.{◌≡◌, ℕ, ◌+◌, ◌≤◌, List, ◌++◌, length, take, drop, arith, sym}
use Rattle.std.proofs.lemmas.Grind.{common_steps}
use Rattle.std.proofs.lemmas.List.{take_at, drop-drop, drop_all, take-append-drop, length-take-le}
use Rattle.rt_edge.proofs.mem_source.MemSourceSource.read.Goals as goal

-- the bytes from a place on are those that were copied out and those from behind them on
left_is :
    (at n : ℕ) (bytes front behind : List ℕ) → n ≤ length (drop at bytes) → front ≡ take n (drop at bytes)
    → drop at bytes ≡ take n (front ++ behind) ++ drop (at + n) bytes
left_is at n bytes front behind within is =
    rw (is, take_at (take n (drop at bytes)) behind n (length-take-le n (drop at bytes) within), ← drop-drop n at bytes)
    (sym (take-append-drop n (drop at bytes)))

pub returns-clause-bytes : goal.returns-clause-bytes
returns-clause-bytes c = (grind (arith, common_steps, left_is), grind (arith, common_steps, drop_all))
