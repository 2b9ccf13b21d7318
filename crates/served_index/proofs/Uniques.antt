-- The documents with a unique key, by the postings in the fields where unique keys stand.
use Rattle.std.proofs.Common.{◌≡◌, ℕ, zero, suc, ◌+◌, ◌<◌, Bool, true, false, ◌||◌, cond, List, [], ◌∷◌, ◌++◌, length, get_or, take, map, filter, refl, sym, ap, subst, ◌∙◌, arith, Some, None, Option, inl, inr, All, IsSome}
use Rattle.std.specs.Prelude.{◌&&◌, nat_eq, find, option_map}
use Rattle.std.specs.List.{filter_map, list_any, cons_option}
use Rattle.std.proofs.lemmas.Bool.{true≢false}
use Rattle.std.proofs.lemmas.Bool.Decides.{eqb_tells}
use Rattle.std.proofs.lemmas.Option.{same_Some}
use Rattle.std.proofs.lemmas.List.{get_or-map, length-map, map-append, take_more}
use Rattle.std.proofs.lemmas.List.Elements.{All-head, All-tail}
use Rattle.std.proofs.lemmas.List.Folds.{list_any-append}
use Rattle.field_schema.specs.declared.key.Key.{Key}
use Rattle.field_schema.specs.declared.key.Key.TheVariants as key
use Rattle.field_schema.specs.Values.{values_at}
use Rattle.doc_model.specs.Document.{Document}
use Rattle.doc_sets.specs.Sets.{Rises, is_in}
use Rattle.doc_sets.proofs.Rising.{is_in-append, is_in-within}
use Rattle.segment_postings.specs.declared.posting.Posting.{Posting}
use Rattle.segment_postings.specs.Numbered.{Numbered, docs, doc_at, IsNumbered}
use Rattle.segment_postings.specs.Postings.{has_key_at, posting_of, places_of}
use Rattle.search_model.specs.Live.{has_id}
use Rattle.served_index.specs.Standing.{numbers_where, is_under, HaveIds, AreBelow}
use Rattle.served_index.proofs.Leaving.{where_rises, where_here, where_other}
use Rattle.served_index.proofs.Slots.{same_id}

-- the document of a number
abbrev pub document_at : List (ℕ × Document) → ℕ → Option Document
document_at es n = option_map (λ e. e.1) (find (λ e. nat_eq e.0 n) es)

-- whether there is one that passes
abbrev pub passes : (Document → Bool) → Option Document → Bool
passes p None = false
passes p (Some d) = p d

head_at : (e : ℕ × Document) (es : List (ℕ × Document)) (n : ℕ) → nat_eq e.0 n ≡ true → document_at (e ∷ es) n ≡ Some e.1
head_at e es n t = ap (λ b. option_map (λ f. f.1) (cond b (Some e) (find (λ f. nat_eq f.0 n) es))) t

tail_at : (e : ℕ × Document) (es : List (ℕ × Document)) (n : ℕ) → nat_eq e.0 n ≡ false → document_at (e ∷ es) n ≡ document_at es n
tail_at e es n t = ap (λ b. option_map (λ f. f.1) (cond b (Some e) (find (λ f. nat_eq f.0 n) es))) t

-- a number is among those of the documents that pass where its document does
pub where_at : (p : Document → Bool) (low high : ℕ) (es : List (ℕ × Document)) → Rises low high (map (λ e. e.0) es) → (n : ℕ)
    → is_in (numbers_where p es) n ≡ passes p (document_at es n)
where_at p low high [] r n = refl
where_at p low high (e ∷ es) r n = elim (eqb_tells e.0 n) [
  | inl t ↦ subst (λ m. is_in (numbers_where p (e ∷ es)) m ≡ p e.1) t.1 (where_here p high e es r.2) ∙ sym (ap (passes p) (head_at e es n t.0))
  | inr t ↦ where_other p e es n t.1 ∙ where_at p (suc e.0) high es r.2 n ∙ sym (ap (passes p) (tail_at e es n t.0))
]

pub there_is : (p : Document → Bool) (o : Option Document) → passes p o ≡ true → IsSome o
there_is p None e = absurd (true≢false (sym e))
there_is p (Some d) e = refl

-- both tests
pub passes_both : (p q : Document → Bool) (o : Option Document) → (passes p o && passes q o) ≡ passes (λ d. p d && q d) o
passes_both p q None = refl
passes_both p q (Some d) = refl

-- what holds of all documents holds of that of a number
have_at : (Q : Document → Type 0) (es : List (ℕ × Document)) → All Q (map (λ e. e.1) es) → (n : ℕ) (d : Document) → document_at es n ≡ Some d → Q d
have_at Q [] all n d e = let p : None ≡ Some d = e in absurd (cc)
have_at Q (f ∷ es) all n d e = elim (eqb_tells f.0 n) [
  | inl t ↦ subst Q (same_Some f.1 d (sym (head_at f es n t.0) ∙ e)) (All-head Q f.1 (map (λ g. g.1) es) all)
  | inr t ↦ have_at Q es (All-tail Q f.1 (map (λ g. g.1) es) all) n d (sym (tail_at f es n t.0) ∙ e)
]

-- ---- the postings of a unique key in a field

pub posted : (field : ℕ) (k : Key) (es : List (ℕ × Document)) → map (λ p. p.doc) (filter_map (posting_of field k) es) ≡ numbers_where (has_key_at field k) es
posted field k [] = refl
posted field k (e ∷ es) = one (has_key_at field k e.1) (record { doc = e.0; places = places_of k (values_at e.1.values field) }) (posted field k es)
  where
    one : (b : Bool) (told : Posting) → map (λ p. p.doc) (filter_map (posting_of field k) es) ≡ numbers_where (has_key_at field k) es
        → map (λ p. p.doc) (cons_option (cond b (Some told) None) (filter_map (posting_of field k) es))
        ≡ map (λ f. f.0) (cond b ((told.doc, e.1) ∷ filter (λ f. has_key_at field k f.1) es) (filter (λ f. has_key_at field k f.1) es))
    one true told rest = ap (λ ns. told.doc ∷ ns) rest
    one false told rest = rest

-- ---- in all fields

pub or_false : (b : Bool) → (b || false) ≡ b
or_false true = refl
or_false false = refl

none_any : (p : ℕ → Bool) (ks : List ℕ) → ((k : ℕ) → p k ≡ false) → list_any p ks ≡ false
none_any p [] never = refl
none_any p (k ∷ ks) never = ap (λ b. b || list_any p ks) (never k) ∙ none_any p ks never

and_false : (b : Bool) → (b && false) ≡ false
and_false true = refl
and_false false = refl

and_true : (b : Bool) → (b && true) ≡ b
and_true true = refl
and_true false = refl

of_one : (id : List ℕ) (d : Document) (fields : List ℕ) → list_any (λ field. has_key_at field (key.Str d.id) d) fields ≡ true
    → list_any (λ field. is_under field id d) fields ≡ has_id id d
of_one id d fields has = by (has_id id d) refl
  where
    by : (b : Bool) → has_id id d ≡ b → list_any (λ field. has_key_at field (key.Str id) d && b) fields ≡ b
    by false t = none_any (λ field. has_key_at field (key.Str id) d && false) fields (λ field. and_false (has_key_at field (key.Str id) d))
    by true t = (λ j. list_any (λ field. and_true (has_key_at field (key.Str (same_id id d.id t j)) d) j) fields) ∙ has

-- a number is found in some field where its document has the unique key
pub in_fields : (fields : List ℕ) (v : Numbered) (id : List ℕ) → IsNumbered v → HaveIds fields (docs v) → (n : ℕ)
    → list_any (λ field. is_in (numbers_where (is_under field id) v.list) n) fields ≡ is_in (numbers_where (has_id id) v.list) n
in_fields fields v id is have n =
    (λ j. list_any (λ field. where_at (is_under field id) 0 v.size v.list is.rising n j) fields)
    ∙ by (document_at v.list n) refl
    ∙ sym (where_at (has_id id) 0 v.size v.list is.rising n)
  where
    by : (o : Option Document) → document_at v.list n ≡ o → list_any (λ field. passes (is_under field id) o) fields ≡ passes (has_id id) o
    by None e = none_any (λ field. false) fields (λ field. refl)
    by (Some d) e = of_one id d fields (have_at (λ f. list_any (λ field. has_key_at field (key.Str f.id) f) fields ≡ true) v.list have n d e)

-- ---- what is found is below the greatest count

or_true : (b : Bool) → (b || true) ≡ true
or_true true = refl
or_true false = refl

first_in : (n : ℕ) (ns : List ℕ) → is_in (n ∷ ns) n ≡ true
first_in n ns = elim (eqb_tells n n) [
  | inl t ↦ ap (λ b. b || is_in ns n) t.0
  | inr t ↦ absurd (t.1 refl)
]

listed_here : (xs : List ℕ) (k d : ℕ) → k < length xs → is_in xs (get_or xs k d) ≡ true
listed_here [] k d low = absurd (omega arith)
listed_here (x ∷ xs) zero d low = first_in x xs
listed_here (x ∷ xs) (suc k) d low = ap (λ b. nat_eq x (get_or xs k d) || b) (listed_here xs k d (omega arith)) ∙ or_true (nat_eq x (get_or xs k d))

pub below_found : (p : Document → Bool) (v : Numbered) (found : List ℕ) → IsNumbered v → ((n : ℕ) → is_in found n ≡ is_in (numbers_where p v.list) n) → AreBelow found
below_found p v found is same k d low =
    let n : ℕ = get_or found k d in
    let within = is_in-within 0 v.size (numbers_where p v.list) n (where_rises p 0 v.size v.list is.rising) (sym (same n) ∙ listed_here found k d low) in
    let most = is.most in
    omega (arith, within.1, most)

-- ---- more fields

any_here : (p : ℕ → Bool) (n : ℕ) (ns : List ℕ) → is_in ns n ≡ true → p n ≡ true → list_any p ns ≡ true
any_here p n [] i t = absurd (true≢false (sym i))
any_here p n (m ∷ ns) i t = elim (eqb_tells m n) [
  | inl s ↦ ap (λ b. b || list_any p ns) (ap p s.1 ∙ t)
  | inr s ↦ ap (λ b. p m || b) (any_here p n ns (sym (ap (λ b. b || is_in ns n) s.0) ∙ i) t) ∙ or_true (p m)
]

any_more : (p : ℕ → Bool) (old new : List ℕ) → ((n : ℕ) → is_in old n ≡ true → is_in new n ≡ true) → list_any p old ≡ true → list_any p new ≡ true
any_more p [] new more has = absurd (true≢false (sym has))
any_more p (m ∷ ns) new more has =
    step (p m) refl has (any_more p ns new (λ n i. more n (ap (λ b. nat_eq m n || b) i ∙ or_true (nat_eq m n))))
  where
    step : (b : Bool) → p m ≡ b → (b || list_any p ns) ≡ true → (list_any p ns ≡ true → list_any p new ≡ true) → list_any p new ≡ true
    step true t h rest = any_here p m new (more m (first_in m ns)) t
    step false t h rest = rest h

pub HaveIds-more : (old new : List ℕ) (ds : List Document) → ((n : ℕ) → is_in old n ≡ true → is_in new n ≡ true) → HaveIds old ds → HaveIds new ds
HaveIds-more old new ds more have k d low = any_more (λ field. has_key_at field (key.Str (get_or ds k d).id) (get_or ds k d)) old new more (have k d low)

-- the field of a document's unique key is among those
pub has_own : (fields : List ℕ) (field : ℕ) (d : Document) → is_in fields field ≡ true → has_key_at field (key.Str d.id) d ≡ true
    → list_any (λ f. has_key_at f (key.Str d.id) d) fields ≡ true
has_own fields field d there has = any_more (λ f. has_key_at f (key.Str d.id) d) (field ∷ []) fields
    (λ n i. subst (λ m. is_in fields m ≡ true) (only n i) there) (ap (λ b. b || false) has)
  where
    only : (n : ℕ) → is_in (field ∷ []) n ≡ true → field ≡ n
    only n i = elim (eqb_tells field n) [
      | inl s ↦ s.1
      | inr s ↦ absurd (true≢false (sym i ∙ ap (λ b. b || false) s.0))
    ]

-- ---- walks

-- the view is as it was, and of the documents of these postings those with the unique key were found
pub record AreFound (v w : Numbered) (id : List ℕ) (before now : List ℕ) (ps : List Posting) : Type 0 where
  pub view : w ≡ v
  pub found : (n : ℕ) → is_in now n ≡ (is_in before n || (is_in (map (λ p. p.doc) ps) n && passes (has_id id) (doc_at v n)))

-- the documents of postings that have the unique key are added one by one
pub posting_more : (v : Numbered) (id : List ℕ) (before found new : List ℕ) (ps : List Posting) (i : ℕ) (d : Posting) (told : Document) → i < length ps
    → ((n : ℕ) → is_in found n ≡ (is_in before n || (is_in (map (λ p. p.doc) (take i ps)) n && passes (has_id id) (doc_at v n))))
    → doc_at v (get_or ps i d).doc ≡ Some told → new ≡ cond (has_id id told) (found ++ (get_or ps i d).doc ∷ []) found
    → (n : ℕ) → is_in new n ≡ (is_in before n || (is_in (map (λ p. p.doc) (take (i + 1) ps)) n && passes (has_id id) (doc_at v n)))
posting_more v id before found new ps i d told within so_far at put n =
    let x : ℕ = (get_or ps i d).doc in
    let list : map (λ p. p.doc) (take (i + 1) ps) ≡ map (λ p. p.doc) (take i ps) ++ x ∷ [] =
    ap (map (λ p. p.doc)) (take_more ps i d within) ∙ map-append (λ (p : Posting). p.doc) (take i ps) (get_or ps i d ∷ []) in
    let then : is_in (map (λ p. p.doc) (take (i + 1) ps)) n ≡ (is_in (map (λ p. p.doc) (take i ps)) n || (nat_eq x n || false)) =
    ap (λ ns. is_in ns n) list ∙ is_in-append (map (λ p. p.doc) (take i ps)) (x ∷ []) n in
    let here : (nat_eq x n && has_id id told) ≡ (nat_eq x n && passes (has_id id) (doc_at v n)) = elim (eqb_tells x n) [
      | inl t ↦ ap (λ o. nat_eq x n && passes (has_id id) o) (sym at ∙ ap (doc_at v) t.1)
      | inr t ↦ ap (λ b. b && has_id id told) t.0 ∙ sym (ap (λ b. b && passes (has_id id) (doc_at v n)) t.0)
    ] in
    ap (λ ns. is_in ns n) put
    ∙ pushed (has_id id told) x
    ∙ (λ j. so_far n j || here j)
    ∙ spread (is_in before n) (is_in (map (λ p. p.doc) (take i ps)) n) (nat_eq x n) (passes (has_id id) (doc_at v n))
    ∙ ap (λ b. is_in before n || (b && passes (has_id id) (doc_at v n))) (sym then)
  where
    pushed : (b : Bool) (x : ℕ) → is_in (cond b (found ++ x ∷ []) found) n ≡ (is_in found n || (nat_eq x n && b))
    pushed true x = is_in-append found (x ∷ []) n ∙ ap (λ b. is_in found n || b) (swap (nat_eq x n))
      where
        swap : (b : Bool) → (b || false) ≡ (b && true)
        swap true = refl
        swap false = refl
    pushed false x = off (is_in found n) (nat_eq x n)
      where
        off : (a b : Bool) → a ≡ (a || (b && false))
        off true b = refl
        off false true = refl
        off false false = refl

    spread : (a b c d : Bool) → ((a || (b && d)) || (c && d)) ≡ (a || ((b || (c || false)) && d))
    spread true b c d = refl
    spread false true true true = refl
    spread false true true false = refl
    spread false true false true = refl
    spread false true false false = refl
    spread false false true true = refl
    spread false false true false = refl
    spread false false false d = refl

-- and so all of them were
pub postings_all : (v : Numbered) (field : ℕ) (id : List ℕ) (before : List ℕ) (ps : List Posting) (n : ℕ) → IsNumbered v → ps ≡ filter_map (posting_of field (key.Str id)) v.list
    → (is_in before n || (is_in (map (λ p. p.doc) ps) n && passes (has_id id) (doc_at v n))) ≡ (is_in before n || is_in (numbers_where (is_under field id) v.list) n)
postings_all v field id before ps n is at = ap (λ b. is_in before n || b)
    (ap (λ ns. is_in ns n && passes (has_id id) (doc_at v n)) (ap (map (λ p. p.doc)) at ∙ posted field (key.Str id) v.list)
    ∙ ap (λ b. b && passes (has_id id) (doc_at v n)) (where_at (has_key_at field (key.Str id)) 0 v.size v.list is.rising n)
    ∙ passes_both (has_key_at field (key.Str id)) (has_id id) (doc_at v n)
    ∙ sym (where_at (is_under field id) 0 v.size v.list is.rising n))

-- a document of a posting is there
pub posting_there : (v : Numbered) (field : ℕ) (id : List ℕ) (ps : List Posting) (i : ℕ) (d : Posting) → IsNumbered v → ps ≡ filter_map (posting_of field (key.Str id)) v.list → i < length ps
    → IsSome (doc_at v (get_or ps i d).doc)
posting_there v field id ps i d is at within =
    let x : ℕ = (get_or ps i d).doc in
    let ns : List ℕ = map (λ p. p.doc) ps in
    let low : i < length ns = omega (arith, within, length-map ps (λ (p : Posting). p.doc)) in
    let here : get_or ns i x ≡ x = get_or-map (λ (p : Posting). p.doc) ps i d x within in
    let told : is_in (numbers_where (has_key_at field (key.Str id)) v.list) x ≡ true =
    ap (λ ms. is_in ms x) (sym (ap (map (λ p. p.doc)) at ∙ posted field (key.Str id) v.list)) ∙ subst (λ m. is_in ns m ≡ true) here (listed_here ns i x low) in
    there_is (has_key_at field (key.Str id)) (doc_at v x) (sym (where_at (has_key_at field (key.Str id)) 0 v.size v.list is.rising x) ∙ told)

-- the view is as it was, and the documents were found that have the unique key in one of these fields
pub record AreFoundIn (v w : Numbered) (id : List ℕ) (now : List ℕ) (fields : List ℕ) : Type 0 where
  pub view : w ≡ v
  pub found : (n : ℕ) → is_in now n ≡ list_any (λ field. is_in (numbers_where (is_under field id) v.list) n) fields

pub field_more : (v w x : Numbered) (id : List ℕ) (old new : List ℕ) (fields : List ℕ) (i d : ℕ) → i < length fields → AreFoundIn v w id old (take i fields) → x ≡ w
    → ((n : ℕ) → is_in new n ≡ (is_in old n || is_in (numbers_where (is_under (get_or fields i d) id) w.list) n)) → AreFoundIn v x id new (take (i + 1) fields)
field_more v w x id old new fields i d within so_far same more = record {
  view = same ∙ so_far.view;
  found = λ n.
      let p : ℕ → Bool = λ field. is_in (numbers_where (is_under field id) v.list) n in
      more n
      ∙ (λ j. so_far.found n j || is_in (numbers_where (is_under (get_or fields i d) id) ((so_far.view j).list)) n)
      ∙ ap (λ b. list_any p (take i fields) || b) (sym (or_false (p (get_or fields i d))))
      ∙ sym (ap (list_any p) (take_more fields i d within) ∙ list_any-append p (take i fields) (get_or fields i d ∷ []));
}
