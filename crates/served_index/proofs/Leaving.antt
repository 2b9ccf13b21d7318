-- What a view keeps as more of its documents go.
use Rattle.std.proofs.Common.{◌≡◌, ℕ, suc, ◌+◌, ◌≤◌, Bool, true, false, not, ◌||◌, cond, List, [], ◌∷◌, ◌++◌, length, map, filter, All, refl, sym, ap, ◌∙◌, arith}
use Rattle.std.specs.List.{enumerate_from, flat_map, list_any}
use Rattle.std.specs.FinSet.{contains, from_list, contains-from_list_nat, len}
use Rattle.std.proofs.lemmas.Bool.{ne_eqb}
use Rattle.std.proofs.Common.{eq-eqb}
use Rattle.std.proofs.lemmas.List.{map-append, length-map}
use Rattle.std.proofs.lemmas.List.Elements.{All-head, All-tail, All-cons}
use Rattle.field_schema.specs.declared.key.Key.TheVariants as key
use Rattle.field_schema.specs.Bytes.{bytes_eq}
use Rattle.field_schema.specs.Keys.{key_eq}
use Rattle.doc_model.specs.Document.{Document, IsIdAt}
use Rattle.doc_sets.specs.Sets.{Numbers, Rises, is_in}
use Rattle.doc_sets.proofs.Rising.{Rises-lower, is_in-below, is_in-append}
use Rattle.doc_sets.proofs.SetsOf.{len_of}
use Rattle.query_tree.specs.KeysOfDocs.{keys_of_value}
use Rattle.segment_postings.specs.Numbered.{Numbered, docs, numbers, extended, IsNumbered}
use Rattle.segment_postings.specs.Postings.{has_key_at}
use Rattle.search_model.specs.Live.{has_id}
use Rattle.served_index.specs.Standing.{numbers_where, staying}

or_false : (b : Bool) → (b || false) ≡ b
or_false true = refl
or_false false = refl

module _ (p : Document → Bool) where
  -- the numbers of those that pass ascend
  pub where_rises : (low high : ℕ) (es : List (ℕ × Document)) → Rises low high (map (λ e. e.0) es) → Rises low high (numbers_where p es)
  where_rises low high [] r = tt
  where_rises low high (e ∷ es) r =
      let rest : Rises (suc e.0) high (numbers_where p es) = where_rises (suc e.0) high es r.2 in
      elim (p e.1) as (λ b. Rises low high (map (λ f. f.0) (cond b (e ∷ filter (λ f. p f.1) es) (filter (λ f. p f.1) es)))) [
        | true ↦ (r.0, r.1, rest)
        | false ↦ Rises-lower low (suc e.0) high (numbers_where p es) (omega (arith, r.0)) rest
      ]

  -- the first is among them where it passes
  pub where_here : (high : ℕ) (e : ℕ × Document) (es : List (ℕ × Document)) → Rises (suc e.0) high (map (λ f. f.0) es) → is_in (numbers_where p (e ∷ es)) e.0 ≡ p e.1
  where_here high e es r =
      elim (p e.1) as (λ b. is_in (map (λ f. f.0) (cond b (e ∷ filter (λ f. p f.1) es) (filter (λ f. p f.1) es))) e.0 ≡ b) [
        | true ↦ ap (λ b. b || is_in (numbers_where p es) e.0) (eq-eqb e.0 e.0 refl)
        | false ↦ is_in-below (suc e.0) high (numbers_where p es) e.0 (where_rises (suc e.0) high es r) (omega arith)
      ]

  -- another is where it is among the rest
  pub where_other : (e : ℕ × Document) (es : List (ℕ × Document)) (n : ℕ) → (e.0 ≡ n → ⊥) → is_in (numbers_where p (e ∷ es)) n ≡ is_in (numbers_where p es) n
  where_other e es n apart =
      elim (p e.1) as (λ b. is_in (map (λ f. f.0) (cond b (e ∷ filter (λ f. p f.1) es) (filter (λ f. p f.1) es))) n ≡ is_in (numbers_where p es) n) [
        | true ↦ ap (λ b. b || is_in (numbers_where p es) n) (ne_eqb e.0 n apart)
        | false ↦ refl
      ]

  drop_step : (a b : Bool) (e : ℕ × Document) (xs ys : List (ℕ × Document)) → p e.1 ≡ b → map (λ f. f.1) xs ≡ filter (λ d. not (p d)) (map (λ f. f.1) ys)
      → map (λ f. f.1) (cond (not (a || b)) (e ∷ xs) xs) ≡ filter (λ d. not (p d)) (map (λ f. f.1) (cond (not a) (e ∷ ys) ys))
  drop_step true b e xs ys is same = same
  drop_step false true e xs ys is same = same ∙ sym (ap (λ c. cond (not c) (e.1 ∷ filter (λ d. not (p d)) (map (λ f. f.1) ys)) (filter (λ d. not (p d)) (map (λ f. f.1) ys))) is)
  drop_step false false e xs ys is same =
      ap (λ ds. e.1 ∷ ds) same ∙ sym (ap (λ c. cond (not c) (e.1 ∷ filter (λ d. not (p d)) (map (λ f. f.1) ys)) (filter (λ d. not (p d)) (map (λ f. f.1) ys))) is)

  -- those of s and those that pass are dropped
  dropped_from : (s t : ℕ → Bool) (low high : ℕ) (es : List (ℕ × Document)) → Rises low high (map (λ e. e.0) es)
      → ((n : ℕ) → low ≤ n → t n ≡ (s n || is_in (numbers_where p es) n))
      → map (λ e. e.1) (filter (λ e. not (t e.0)) es) ≡ filter (λ d. not (p d)) (map (λ e. e.1) (filter (λ e. not (s e.0)) es))
  dropped_from s t low high [] r same = refl
  dropped_from s t low high (e ∷ es) r same =
      let here = where_here high e es r.2 in
      let later : (n : ℕ) → suc e.0 ≤ n → is_in (numbers_where p (e ∷ es)) n ≡ is_in (numbers_where p es) n = λ n up. where_other e es n (λ q. omega (arith, up, q)) in
      let rest = dropped_from s t (suc e.0) high es r.2 (λ n up. same n (omega (arith, r.0, up)) ∙ ap (λ b. s n || b) (later n up)) in
      let head : t e.0 ≡ (s e.0 || p e.1) = same e.0 r.0 ∙ ap (λ b. s e.0 || b) here in
      ap (λ b. map (λ f. f.1) (cond (not b) (e ∷ filter (λ f. not (t f.0)) es) (filter (λ f. not (t f.0)) es))) head
      ∙ drop_step (s e.0) (p e.1) e (filter (λ f. not (t f.0)) es) (filter (λ f. not (s f.0)) es) refl rest

  -- more are gone: those that pass
  pub staying-less : (v : Numbered) (gone more : List ℕ) → IsNumbered v → ((n : ℕ) → is_in more n ≡ (is_in gone n || is_in (numbers_where p v.list) n))
      → staying v more ≡ filter (λ d. not (p d)) (staying v gone)
  staying-less v gone more is same = dropped_from (is_in gone) (is_in more) 0 v.size v.list is.rising (λ n low. same n)

  -- their numbers stand behind those of the others
  pub staying-joined : (v : Numbered) (gone more found : List ℕ) → IsNumbered v → ((n : ℕ) → is_in found n ≡ is_in (numbers_where p v.list) n) → more ≡ gone ++ found
      → staying v more ≡ filter (λ d. not (p d)) (staying v gone)
  staying-joined v gone more found is at joined =
      staying-less v gone more is (λ n. ap (λ xs. is_in xs n) joined ∙ is_in-append gone found n ∙ ap (λ b. is_in gone n || b) (at n))

-- where no document is live, none passes
pub nothing_where : (p : Document → Bool) (v : Numbered) (s : Numbers) → IsNumbered v → s ≡ from_list (numbers v) → len s ≡ 0 → numbers_where p v.list ≡ []
nothing_where p v s is at none =
    by v.list (sym (length-map v.list (λ e. e.0)) ∙ sym (len_of 0 v.size (numbers v) is.rising) ∙ ap len (sym at) ∙ none)
  where
    by : (es : List (ℕ × Document)) → length es ≡ 0 → numbers_where p es ≡ []
    by [] h = refl
    by (e ∷ es) h = absurd (omega arith)

-- ---- a document in the field of its unique key

pub has_key_is : (field : ℕ) (id : List ℕ) (d : Document) → IsIdAt d field → has_key_at field (key.Str id) d ≡ has_id id d
has_key_is field id d is = ap (λ vs. list_any (key_eq (key.Str id)) (flat_map keys_of_value vs)) is ∙ or_false (bytes_eq id d.id)

-- ---- what stays

kept_all : {X : Type 0} (xs : List X) → filter (λ x. true) xs ≡ xs
kept_all [] = refl
kept_all (x ∷ xs) = ap (λ ys. x ∷ ys) (kept_all xs)

-- where nothing is gone
pub staying-all : (v : Numbered) → staying v [] ≡ docs v
staying-all v = ap (map (λ e. e.1)) (kept_all v.list)

pub staying_have : (Q : Document → Type 0) (v : Numbered) (gone : List ℕ) → All Q (docs v) → All Q (staying v gone)
staying_have Q v gone ids = by v.list ids
  where
    by : (es : List (ℕ × Document)) → All Q (map (λ e. e.1) es) → All Q (map (λ e. e.1) (filter (λ e. not (is_in gone e.0)) es))
    by [] h = h
    by (e ∷ es) h =
        let rest = by es (All-tail Q e.1 (map (λ f. f.1) es) h) in
        elim (not (is_in gone e.0)) as (λ b. All Q (map (λ f. f.1) (cond b (e ∷ filter (λ f. not (is_in gone f.0)) es) (filter (λ f. not (is_in gone f.0)) es)))) [
          | true ↦ All-cons Q e.1 _ (All-head Q e.1 (map (λ f. f.1) es) h) rest
          | false ↦ rest
        ]

pub enumerated : {X : Type 0} (n : ℕ) (xs : List X) → map (λ e. e.1) (enumerate_from n xs) ≡ xs
enumerated n [] = refl
enumerated n (x ∷ xs) = ap (λ ys. x ∷ ys) (enumerated (n + 1) xs)

-- the documents of the view that is opened next
pub docs-extended : (v : Numbered) (gone : List ℕ) (s : Numbers) (added : List Document) → s ≡ from_list gone → docs (extended v s added) ≡ staying v gone ++ added
docs-extended v gone s added is =
    map-append (λ e. e.1) (filter (λ e. not (contains s e.0)) v.list) (enumerate_from v.size added)
    ∙ (λ j. map (λ e. e.1) (filter (λ e. not (contains (is j) e.0)) v.list) ++ enumerated v.size added j)
    ∙ (λ j. map (λ e. e.1) (filter (λ e. not (contains-from_list_nat gone e.0 j)) v.list) ++ added)
