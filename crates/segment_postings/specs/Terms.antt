-- The terms of fields.
use Rattle.std.specs.Prelude.{◌≡◌, ℕ, ◌+◌, ◌-◌, ◌^◌, List, [], ◌∷◌, Bool, true, not, min, false, take, filter, length, IsTrue, All, ◌≤◌}
use Rattle.std.specs.List.{list_any, list_all}
use Rattle.std.specs.Ordering.{is_lt, match_ordering}
use Rattle.field_schema.specs.declared.key.Key.{Key}
use Rattle.field_schema.specs.Keys.{key_eq, key_cmp}
use Rattle.segment_postings.specs.Numbered.{Numbered}
use Rattle.segment_postings.specs.Postings.{has_key_at}

-- the key stands in the list
abbrev pub is_among : Key → List Key → Bool
is_among k keys = list_any (key_eq k) keys

-- x stands before y
abbrev pub is_before : Key → Key → Bool
is_before x y = is_lt (key_cmp x y)

-- the keys ascend, and each stands once
abbrev pub Ascending : List Key → Type 0
Ascending [] = Unit {0}
Ascending (k ∷ ks) = IsTrue (list_all (is_before k) ks) × Ascending ks

-- the first `most` terms at or after a key
abbrev pub terms_from : List Key → Key → ℕ → List Key
terms_from terms from most = take most (filter (λ k. not (is_before k from)) terms)

-- each field's terms ascend, and each key of a live document in the field is among them
pub record AreTerms (v : Numbered) (terms : ℕ → List Key) : Type 0 where
  pub ascending : (field : ℕ) → Ascending (terms field)
  pub covering : (field : ℕ) (k : Key) → IsTrue (list_any (λ e. has_key_at field k e.1) v.list) → IsTrue (is_among k (terms field))

-- a count after one more call; at its greatest number it stays
abbrev pub raised : ℕ → ℕ
raised count = min (count + 1) (2 ^ 64 - 1)

-- k at its place among ascending keys, where it does not stand yet
abbrev pub put_key : List Key → Key → List Key
put_key [] k = k ∷ []
put_key (x ∷ xs) k = match_ordering (key_cmp k x) (k ∷ x ∷ xs) (x ∷ xs) (x ∷ put_key xs k)

-- the keys begin with k
abbrev pub begins_with : Key → List Key → Bool
begins_with k [] = false
begins_with k (x ∷ xs) = key_eq k x

-- there are as many keys as are wanted, and k stands behind them all
pub record PastAll (keys : List Key) (k : Key) (most : ℕ) : Type 0 where
  pub full : most ≤ length keys
  pub before : All (λ x. is_before x k ≡ true) keys
