-- Documents on which the order is tried: four with a category and a price, some of which are missing.
use Rattle.std.specs.Prelude.{◌≡◌, ℕ, true, false, List, [], ◌∷◌, codes, pos, negsuc}
use Rattle.field_schema.specs.declared.key.Key.{Key}
use Rattle.field_schema.specs.declared.key.Key.TheVariants.{Str, Long, Bool as Truth}
use Rattle.query_tree.specs.declared.sort.SortBy.TheVariants.{Field, DocId}
use Rattle.query_tree.specs.declared.sort.SortKey.{SortKey}
use Rattle.sort_order.specs.Order.{Entry, in_order}
use Rattle.sort_order.specs.Laws.{numbers}

-- the fields
abbrev pub id : ℕ
id = 0

abbrev pub cat : ℕ
cat = 1

abbrev pub price : ℕ
price = 2

abbrev pub entry : ℕ → List ℕ → List Key → List Key → Entry
entry number name cats prices =
    (number, record { values = (Str name ∷ []) ∷ cats ∷ prices ∷ []; id = name })

abbrev pub a : Entry
a = entry 0 (codes "a") (Str (codes "x") ∷ []) (Long (pos 5) ∷ [])

abbrev pub b : Entry
b = entry 1 (codes "b") (Str (codes "y") ∷ []) (Long (pos 7) ∷ [])

abbrev pub c : Entry
c = entry 2 (codes "c") (Str (codes "x") ∷ []) (Long (pos 9) ∷ [])

abbrev pub d : Entry
d = entry 3 (codes "d") [] (Long (pos 5) ∷ [])

abbrev pub shop : List Entry
shop = a ∷ b ∷ c ∷ d ∷ []

abbrev pub asc : ℕ → SortKey
asc field = record { by = Field field; down = false }

abbrev pub desc : ℕ → SortKey
desc field = record { by = Field field; down = true }

abbrev pub index_desc : SortKey
index_desc = record { by = DocId; down = true }

-- a document with two categories, of which the first stands behind that of `b`
abbrev pub two_cats : Entry
two_cats = entry 4 (codes "e") (Str (codes "z") ∷ Str (codes "a") ∷ []) []

-- numbers whose texts stand the other way round
abbrev pub ten : Entry
ten = entry 5 (codes "f") [] (Long (pos 10) ∷ [])

abbrev pub minus_two : Entry
minus_two = entry 6 (codes "g") [] (Long (negsuc 1) ∷ [])

-- truth values
abbrev pub so : Entry
so = entry 7 (codes "h") [] (Truth true ∷ [])

abbrev pub not_so : Entry
not_so = entry 8 (codes "i") [] (Truth false ∷ [])

-- these documents stand so by the sort, and not so
abbrev pub Stand : List SortKey → List Entry → List Entry → Type 0
Stand sort docs order = numbers (in_order sort docs) ≡ numbers order

abbrev pub DoNotStand : List SortKey → List Entry → List Entry → Type 0
DoNotStand sort docs order = Stand sort docs order → ⊥
