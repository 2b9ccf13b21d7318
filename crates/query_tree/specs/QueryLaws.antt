-- Proofs, which no reader needs to believe: the laws of the order of queries.
use Rattle.std.specs.Prelude.{◌≡◌, ℕ, ◌+◌, ◌≤◌, ◌==◌, List, [], ◌∷◌, map, true, refl}
use Rattle.std.specs.Bool.{Decides}
use Rattle.std.specs.Ordering.{nat_cmp, ordering_then, ordering_reverse, on, is_eq}
use Rattle.std.specs.declared.cmp.Ordering.{Ordering}
use Rattle.std.specs.declared.cmp.Ordering.TheVariants.{Less, Equal}
use Rattle.std.specs.Cmp.{IsTotalOrder, then_total, on_total, nat_cmp_total, unsigned_ties}
use Rattle.std.specs.Cmp.Lexicographic.{slice_cmp, lists_total, pointwise, pointwise_decides}
use Rattle.std.proofs.Common.{zero, suc, max, arith}
use mathlib.Core.Path.{ap, subst, ◌∙◌, sym}
use mathlib.Core.Bool.{true≢false}
use Rattle.field_schema.specs.Bytes.{texts_cmp}
use Rattle.field_schema.specs.Keys.{key_cmp}
use Rattle.field_schema.specs.Laws.{key_cmp_total, key_cmp-same, texts_cmp_total, texts_cmp_ties, texts_eq-same}
use Rattle.query_tree.specs.declared.query.Query.{Query, Query-F, out-Query, roll-Query, out-roll-Query, roll-out-Query, fold-Query, fold_out-Query, fold-roll-Query, ind-Query, map-Query}
use Rattle.query_tree.specs.declared.query.Query.TheOpen as node
use Rattle.query_tree.specs.Order.{end_cmp, kind, field_of, keys_of, texts_of, ends_of, parts_of, layer_cmp, query_cmp, queries_cmp, query_eq, queries_eq}
use Rattle.query_tree.specs.OrderLaws.{TellsApart, both_Equal, lists_apart, nats_apart, end_cmp_total, end_cmp-same, decided}

-- ---- lists and layers along a map

module _ {A B C : Type 0} (R : B → C → Ordering) (f : A → B) where
  items_cmp-map : (xs : List A) (ys : List C) → slice_cmp R (map f xs) ys ≡ slice_cmp (λ x y. R (f x) y) xs ys
  items_cmp-map [] [] = refl
  items_cmp-map [] (y ∷ ys) = refl
  items_cmp-map (x ∷ xs) [] = refl
  items_cmp-map (x ∷ xs) (y ∷ ys) = ap (ordering_then (R (f x) y)) (items_cmp-map xs ys)

  parts_cmp-map : (xss : List (List A)) (yss : List (List C)) → slice_cmp (slice_cmp R) (map (map f) xss) yss ≡ slice_cmp (slice_cmp (λ x y. R (f x) y)) xss yss
  parts_cmp-map [] [] = refl
  parts_cmp-map [] (ys ∷ yss) = refl
  parts_cmp-map (xs ∷ xss) [] = refl
  parts_cmp-map (xs ∷ xss) (ys ∷ yss) = λ i. ordering_then (items_cmp-map xs ys i) (parts_cmp-map xss yss i)

-- the order of two layers, given that of their parts
abbrev layer_by : {A B : Type 0} → Query-F A → Query-F B → Ordering → Ordering
layer_by x y last =
    ordering_then (nat_cmp (kind x) (kind y))
    (ordering_then (nat_cmp (field_of x) (field_of y))
    (ordering_then (slice_cmp key_cmp (keys_of x) (keys_of y))
    (ordering_then (texts_cmp (texts_of x) (texts_of y))
    (ordering_then (slice_cmp end_cmp (ends_of x) (ends_of y)) last))))

module _ {A B C : Type 0} (R : B → C → Ordering) (f : A → B) where
  layer_cmp-map : (x : Query-F A) (y : Query-F C) → layer_cmp R (map-Query A B f x) y ≡ layer_cmp (λ a c. R (f a) c) x y
  layer_cmp-map node.All y = ap (layer_by {A = A} node.All y) (parts_cmp-map R f [] (parts_of y))
  layer_cmp-map (node.Exists g) y = ap (layer_by {A = A} (node.Exists g) y) (parts_cmp-map R f [] (parts_of y))
  layer_cmp-map (node.Term g k) y = ap (layer_by {A = A} (node.Term g k) y) (parts_cmp-map R f [] (parts_of y))
  layer_cmp-map (node.Words g ws) y = ap (layer_by {A = A} (node.Words g ws) y) (parts_cmp-map R f [] (parts_of y))
  layer_cmp-map (node.Prefix g p) y = ap (layer_by {A = A} (node.Prefix g p) y) (parts_cmp-map R f [] (parts_of y))
  layer_cmp-map (node.Range g a b) y = ap (layer_by {A = A} (node.Range g a b) y) (parts_cmp-map R f [] (parts_of y))
  layer_cmp-map (node.Bool must should not_) y = ap (layer_by (node.Bool must should not_) y) (parts_cmp-map R f (must ∷ should ∷ not_ ∷ []) (parts_of y))

parts_of-map : {A B : Type 0} (f : A → B) (x : Query-F A) → parts_of (map-Query A B f x) ≡ map (map f) (parts_of x)
parts_of-map f node.All = refl
parts_of-map f (node.Exists g) = refl
parts_of-map f (node.Term g k) = refl
parts_of-map f (node.Words g ws) = refl
parts_of-map f (node.Prefix g p) = refl
parts_of-map f (node.Range g a b) = refl
parts_of-map f (node.Bool must should not_) = refl

-- ---- the order by layers

-- one layer, given how its parts compare with a query
abbrev order_step : Query-F (Query → Ordering) → Query → Ordering
order_step layer b = layer_cmp (λ (compare : Query → Ordering) (q : Query). compare q) layer (out-Query b)

query_cmp-roll : (x : Query-F Query) (b : Query) → query_cmp (roll-Query x) b ≡ layer_cmp query_cmp x (out-Query b)
query_cmp-roll x b = (λ i. fold-roll-Query (Query → Ordering) order_step x i b) ∙ layer_cmp-map (λ compare q. compare q) query_cmp x (out-Query b)

-- the order of two queries, by their outermost layers
pub query_cmp-is : (a b : Query) → query_cmp a b ≡ layer_cmp query_cmp (out-Query a) (out-Query b)
query_cmp-is a b = (λ i. fold_out-Query (Query → Ordering) order_step a i b) ∙ layer_cmp-map (λ compare q. compare q) query_cmp (out-Query a) (out-Query b)

-- ---- the order is total, since it is so down to each depth

layer_total : {A : Type 0} {R : A → A → Ordering} → IsTotalOrder R → IsTotalOrder (layer_cmp R)
layer_total {A} total =
    then_total (on_total (kind {A = A}) nat_cmp_total)
    (then_total (on_total (field_of {A = A}) nat_cmp_total)
    (then_total (on_total (keys_of {A = A}) (lists_total key_cmp_total))
    (then_total (on_total (texts_of {A = A}) texts_cmp_total)
    (then_total (on_total (ends_of {A = A}) (lists_total end_cmp_total))
    (on_total (parts_of {A = A}) (lists_total (lists_total total)))))))

-- the order that looks at n layers
abbrev order_to : ℕ → Query → Query → Ordering
order_to zero = λ a b. Equal
order_to (suc n) = on out-Query (layer_cmp (order_to n))

order_to_total : (n : ℕ) → IsTotalOrder (order_to n)
order_to_total zero = record { antisymm = λ x y. refl; trans = λ x y z p q. p; congr = λ x y z p. refl }
order_to_total (suc n) = on_total out-Query (layer_total (order_to_total n))

-- the largest number, or 0
abbrev most : List ℕ → ℕ
most [] = 0
most (n ∷ ns) = max n (most ns)

-- one level more than the deepest part
abbrev depth_step : Query-F ℕ → ℕ
depth_step x = suc (most (map most (parts_of x)))

-- how many layers lie inside one another
abbrev depth : Query → ℕ
depth = fold-Query ℕ depth_step

-- looking at as many layers as the query has settles the order
abbrev Settles : Query → Type 0
Settles a = (n : ℕ) (b : Query) → depth a ≤ n → query_cmp a b ≡ order_to n a b

-- a query with that proof
abbrev Settled : Type 0
Settled = (q : Query) × Settles q

module _ (n : ℕ) where
  items_settle : (xs : List Settled) (ys : List Query) → most (map depth (map (λ e. e.0) xs)) ≤ n → slice_cmp (λ (e : Settled) q. query_cmp e.0 q) xs ys ≡ slice_cmp (λ (e : Settled) q. order_to n e.0 q) xs ys
  items_settle [] [] h = refl
  items_settle [] (y ∷ ys) h = refl
  items_settle (x ∷ xs) [] h = refl
  items_settle (x ∷ xs) (y ∷ ys) h = λ i. ordering_then (x.1 n y (omega arith) i) (items_settle xs ys (omega arith) i)

  parts_settle : (xss : List (List Settled)) (yss : List (List Query)) → most (map most (map (map depth) (map (map (λ e. e.0)) xss))) ≤ n → slice_cmp (slice_cmp (λ (e : Settled) q. query_cmp e.0 q)) xss yss ≡ slice_cmp (slice_cmp (λ (e : Settled) q. order_to n e.0 q)) xss yss
  parts_settle [] [] h = refl
  parts_settle [] (ys ∷ yss) h = refl
  parts_settle (xs ∷ xss) [] h = refl
  parts_settle (xs ∷ xss) (ys ∷ yss) h = λ i. ordering_then (items_settle xs ys (omega arith) i) (parts_settle xss yss (omega arith) i)

-- a layer with proofs beside its parts, without them
abbrev bare : Query-F Settled → Query-F Query
bare y = map-Query Settled Query (λ e. e.0) y

depth-bare : (y : Query-F Settled) → depth (roll-Query (bare y)) ≡ suc (most (map most (map (map depth) (map (map (λ e. e.0)) (parts_of y)))))
depth-bare y =
    fold-roll-Query ℕ depth_step (bare y)
    ∙ ap (λ parts. suc (most (map most parts))) (parts_of-map depth (bare y) ∙ ap (map (map depth)) (parts_of-map (λ (e : Settled). e.0) y))

layer_settles : (y : Query-F Settled) → Settles (roll-Query (bare y))
layer_settles y zero b h = absurd (omega (arith, depth-bare y))
layer_settles y (suc n) b h =
    query_cmp-roll (bare y) b
    ∙ layer_cmp-map query_cmp (λ (e : Settled). e.0) y (out-Query b)
    ∙ ap (layer_by y (out-Query b)) (parts_settle n (parts_of y) (parts_of (out-Query b)) (omega (arith, depth-bare y)))
    ∙ sym (layer_cmp-map (order_to n) (λ (e : Settled). e.0) y (out-Query b))
    ∙ ap (λ x. layer_cmp (order_to n) x (out-Query b)) (sym (out-roll-Query (bare y)))

settles : (a : Query) → Settles a
settles = ind-Query Settles (λ x y is. subst (λ z. Settles (roll-Query z)) is (layer_settles y))

module _ (x y : Query) where
  deep : ℕ
  deep = depth x + depth y

  first_deep : depth x ≤ deep
  unfolding deep
  first_deep = omega arith

  second_deep : depth y ≤ deep
  unfolding deep
  second_deep = omega arith

  query_antisymm : query_cmp x y ≡ ordering_reverse (query_cmp y x)
  query_antisymm = settles x deep y first_deep ∙ (order_to_total deep).antisymm x y ∙ ap ordering_reverse (sym (settles y deep x second_deep))

  query_trans : (z : Query) → query_cmp x y ≡ Less → query_cmp y z ≡ Less → query_cmp x z ≡ Less
  query_trans z p q =
      settles x deep z first_deep
      ∙ (order_to_total deep).trans x y z (sym (settles x deep y first_deep) ∙ p) (sym (settles y deep z second_deep) ∙ q)

  query_congr : (z : Query) → query_cmp x y ≡ Equal → query_cmp x z ≡ query_cmp y z
  query_congr z p =
      settles x deep z first_deep
      ∙ (order_to_total deep).congr x y z (sym (settles x deep y first_deep) ∙ p)
      ∙ sym (settles y deep z second_deep)

pub query_cmp_total : IsTotalOrder query_cmp
query_cmp_total = record { antisymm = query_antisymm; trans = query_trans; congr = query_congr }

-- ---- queries that the order does not tell apart are one

-- the first item, or d
abbrev first_or : {A : Type 0} → A → List A → A
first_or d [] = d
first_or d (x ∷ xs) = x

-- all but the first item
abbrev rest : {A : Type 0} → List A → List A
rest [] = []
rest (x ∷ xs) = xs

texts_apart : TellsApart texts_cmp
texts_apart s t e = texts_eq-same s t (texts_cmp_ties s t ∙ ap is_eq e)

module _ {A B : Type 0} {R : A → B → Ordering} (f : A → B) (same : (a : A) (b : B) → R a b ≡ Equal → f a ≡ b) where
  items_same : (xs : List A) (ys : List B) → slice_cmp R xs ys ≡ Equal → map f xs ≡ ys
  items_same [] [] e = refl
  items_same [] (y ∷ ys) e = absurd (true≢false (sym (ap is_eq e)))
  items_same (x ∷ xs) [] e = absurd (true≢false (sym (ap is_eq e)))
  items_same (x ∷ xs) (y ∷ ys) e =
      let both : (R x y ≡ Equal) × (slice_cmp R xs ys ≡ Equal) = both_Equal (R x y) (slice_cmp R xs ys) e in
      λ i. same x y both.0 i ∷ items_same xs ys both.1 i

-- what two layers share that the order does not tell apart
record Shares {A B : Type 0} (f : A → B) (x : Query-F A) (y : Query-F B) : Type 0 where
  kinds : (kind x == kind y) ≡ true
  fields : field_of x ≡ field_of y
  keys : keys_of x ≡ keys_of y
  texts : texts_of x ≡ texts_of y
  ends : ends_of x ≡ ends_of y
  parts : map (map f) (parts_of x) ≡ parts_of y

shares_all : {A B : Type 0} (f : A → B) (x : Query-F A) (y : Query-F B) → Shares f x y → map-Query A B f x ≡ y
shares_all f node.All node.All s = refl
shares_all f (node.Exists g) (node.Exists h) s = ap node.Exists s.fields
shares_all f (node.Term g k) (node.Term h l) s = λ i. node.Term (s.fields i) (first_or k (s.keys i))
shares_all f (node.Words g ws) (node.Words h vs) s = λ i. node.Words (s.fields i) (s.texts i)
shares_all f (node.Prefix g p) (node.Prefix h q) s = λ i. node.Prefix (s.fields i) (first_or p (s.texts i))
shares_all f (node.Range g a b) (node.Range h c d) s = λ i. node.Range (s.fields i) (first_or a (s.ends i)) (first_or b (rest (s.ends i)))
shares_all f (node.Bool m o n) (node.Bool m' o' n') s = λ i. node.Bool (first_or [] (s.parts i)) (first_or [] (rest (s.parts i))) (first_or [] (rest (rest (s.parts i))))
shares_all f x y s = absurd (true≢false (sym s.kinds))

module _ {A B : Type 0} {R : A → B → Ordering} (f : A → B) (same : (a : A) (b : B) → R a b ≡ Equal → f a ≡ b) where
  layer_same : (x : Query-F A) (y : Query-F B) → layer_cmp R x y ≡ Equal → map-Query A B f x ≡ y
  layer_same x y e =
      let a : (nat_cmp (kind x) (kind y) ≡ Equal) × _ = both_Equal _ _ e in
      let b : (nat_cmp (field_of x) (field_of y) ≡ Equal) × _ = both_Equal _ _ a.1 in
      let c : (slice_cmp key_cmp (keys_of x) (keys_of y) ≡ Equal) × _ = both_Equal _ _ b.1 in
      let d : (texts_cmp (texts_of x) (texts_of y) ≡ Equal) × _ = both_Equal _ _ c.1 in
      let g : (slice_cmp end_cmp (ends_of x) (ends_of y) ≡ Equal) × _ = both_Equal _ _ d.1 in
      shares_all f x y (record {
        kinds = unsigned_ties (kind x) (kind y) ∙ ap is_eq a.0;
        fields = nats_apart (field_of x) (field_of y) b.0;
        keys = lists_apart key_cmp-same (keys_of x) (keys_of y) c.0;
        texts = texts_apart (texts_of x) (texts_of y) d.0;
        ends = lists_apart end_cmp-same (ends_of x) (ends_of y) g.0;
        parts = items_same (map f) (items_same f same) (parts_of x) (parts_of y) g.1;
      })

-- what ties with the query is the query
abbrev IsTold : Query → Type 0
IsTold a = (b : Query) → query_cmp a b ≡ Equal → a ≡ b

-- a query with that proof
abbrev Told : Type 0
Told = (q : Query) × IsTold q

layer_told : (y : Query-F Told) → IsTold (roll-Query (map-Query Told Query (λ e. e.0) y))
layer_told y b e =
    let layers : layer_cmp (λ (e : Told) q. query_cmp e.0 q) y (out-Query b) ≡ Equal =
    sym (query_cmp-roll (map-Query Told Query (λ e. e.0) y) b ∙ layer_cmp-map query_cmp (λ (e : Told). e.0) y (out-Query b)) ∙ e in
    ap roll-Query (layer_same (λ (e : Told). e.0) (λ e q. e.1 q) y (out-Query b) layers) ∙ roll-out-Query b

pub query_cmp-same : TellsApart query_cmp
query_cmp-same = ind-Query IsTold (λ x y is. subst (λ z. IsTold (roll-Query z)) is (layer_told y))

-- ---- equality

pub query_eq-Decides : (a b : Query) → Decides (query_eq a b) (a ≡ b)
query_eq-Decides = decided query_cmp_total query_cmp-same

pub query_eq-same : (a b : Query) → query_eq a b ≡ true → a ≡ b
query_eq-same a b = (query_eq-Decides a b).0

pub query_eq-refl : (a : Query) → query_eq a a ≡ true
query_eq-refl a = (query_eq-Decides a a).1 refl

-- ---- lists of queries

pub queries_cmp_total : IsTotalOrder queries_cmp
queries_cmp_total = lists_total query_cmp_total

pub queries_cmp-same : TellsApart queries_cmp
queries_cmp-same = lists_apart query_cmp-same

pub queries_eq-Decides : (a b : List Query) → Decides (queries_eq a b) (a ≡ b)
queries_eq-Decides = decided queries_cmp_total queries_cmp-same

pub queries_eq-same : (a b : List Query) → queries_eq a b ≡ true → a ≡ b
queries_eq-same a b = (queries_eq-Decides a b).0

pub queries_eq-refl : (a : List Query) → queries_eq a a ≡ true
queries_eq-refl a = (queries_eq-Decides a a).1 refl

-- slices of queries that `==` finds equal are one
pub slices_eq-Decides : (a b : List Query) → Decides (pointwise query_eq a b) (a ≡ b)
slices_eq-Decides = pointwise_decides query_eq-Decides

pub slices_eq-same : (a b : List Query) → pointwise query_eq a b ≡ true → a ≡ b
slices_eq-same a b = (slices_eq-Decides a b).0
