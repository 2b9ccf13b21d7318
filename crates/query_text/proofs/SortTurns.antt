-- One turn of the reader of sorts.
use Rattle.std.proofs.Common.{◌≡◌, ℕ, ◌+◌, ◌-◌, ◌<◌, ◌≤◌, ◌++◌, suc, true, false, cond, List, Result, Ok, Err, ap, sym, arith, ◌∙◌, refl}
use Rattle.field_schema.specs.declared.field.Field.{Field}
use Rattle.query_tree.specs.declared.sort.SortKey.{SortKey}
use Rattle.query_lexemes.specs.declared.letter.Letter.{Letter}
use Rattle.query_lexemes.specs.declared.item.SortItem.{SortItem}
use Rattle.query_lexemes.specs.SortItems.{sort_item}
use Rattle.query_text.specs.declared.sort_text.SortFault.{SortFault}
use Rattle.query_text.specs.Sorts.{item_keys, and_then, sort_from}

-- what stands behind an item
abbrev behind : ℕ → List Field → ℕ → List SortKey → SortItem × List Letter → Result (List SortKey) SortFault
behind n fields end keys p = and_then (item_keys fields p.0) (λ more. cond (p.0).more (sort_from n fields end (keys ++ more) p.1) (Ok (keys ++ more)))

sort_turn : (n i end : ℕ) (fields : List Field) (keys : List SortKey) (ls rest : List Letter) (x : SortItem) → i < n → (x, rest) ≡ sort_item end ls
    → sort_from (n - i) fields end keys ls ≡ behind (n - (i + 1)) fields end keys (x, rest)
unfolding sort_from
sort_turn n i end fields keys ls rest x more is =
    let e : n - i ≡ suc (n - (i + 1)) = omega arith in
    ap (λ k. sort_from k fields end keys ls) e ∙ ap (behind (n - (i + 1)) fields end keys) (sym is)

-- an item with a fault
pub sort_fault : (n i end : ℕ) (fields : List Field) (keys : List SortKey) (ls rest : List Letter) (x : SortItem) (f : SortFault) → i < n → (x, rest) ≡ sort_item end ls
    → item_keys fields x ≡ Err f → sort_from (n - i) fields end keys ls ≡ Err f
sort_fault n i end fields keys ls rest x f more is tells = sort_turn n i end fields keys ls rest x more is ∙ rw tells refl

-- the last item
pub sort_last : (n i end : ℕ) (fields : List Field) (keys those : List SortKey) (ls rest : List Letter) (x : SortItem) → i < n → (x, rest) ≡ sort_item end ls
    → item_keys fields x ≡ Ok those → x.more ≡ false → sort_from (n - i) fields end keys ls ≡ Ok (keys ++ those)
sort_last n i end fields keys those ls rest x more is has ends = sort_turn n i end fields keys ls rest x more is ∙ rw (has, ends) refl

-- another item
pub sort_more : (n i end : ℕ) (fields : List Field) (keys those : List SortKey) (ls rest : List Letter) (x : SortItem) → i < n → (x, rest) ≡ sort_item end ls
    → item_keys fields x ≡ Ok those → x.more ≡ true → sort_from (n - i) fields end keys ls ≡ sort_from (n - (i + 1)) fields end (keys ++ those) rest
sort_more n i end fields keys those ls rest x more is has goes = sort_turn n i end fields keys ls rest x more is ∙ rw (has, goes) refl

-- no turn is left
pub sort_none : (n i end : ℕ) (fields : List Field) (keys : List SortKey) (ls : List Letter) → n ≤ i → sort_from (n - i) fields end keys ls ≡ Ok keys
unfolding sort_from
sort_none n i end fields keys ls done = let e : n - i ≡ 0 = omega arith in rw e refl
