-- One turn over the items of local parameters.
use Rattle.std.proofs.Common.{◌≡◌, ℕ, ◌+◌, ◌-◌, ◌<◌, suc, List, ap, arith}
use Rattle.query_lexemes.specs.declared.letter.Letter.{Letter}
use Rattle.query_lexemes.specs.declared.local.Items.{Items}
use Rattle.query_lexemes.specs.Local.{local_items}

-- where a turn is left, it is the next one
pub items_turn : (n i end : ℕ) (items : Items) (ls : List Letter) → i < n → local_items (n - i) end items ls ≡ local_items (suc (n - (i + 1))) end items ls
items_turn n i end items ls more = let e : n - i ≡ suc (n - (i + 1)) = omega arith in ap (λ k. local_items k end items ls) e
