-- What the walks over a view's segments keep.
use Rattle.std.proofs.Common.{◌≡◌, ℕ, zero, suc, ◌+◌, ◌<◌, ◌≤◌, Bool, true, false, not, cond, List, [], ◌∷◌, ◌++◌, length, get_or, take, drop, map, filter, fold, refl, sym, ap, subst, ◌∙◌, append_assoc, arith, length-append, Some, None}
use Rattle.std.specs.List.{enumerate_from, flat_map, filter_map, cons_option}
use Rattle.std.specs.FinSet.{contains}
use Rattle.std.proofs.lemmas.List.{append-nil, map-append, take_more, take-append-drop}
use Rattle.std.proofs.lemmas.List.Elements.{filter-append, filter_map-append}
use Rattle.std.proofs.lemmas.List.Concat.{flat_map-append}
use Rattle.std.proofs.lemmas.List.Sums.{fold-append}
use Rattle.field_schema.specs.declared.key.Key.{Key}
use Rattle.field_schema.specs.Values.{values_at}
use Rattle.doc_model.specs.Document.{Document}
use Rattle.doc_sets.specs.Sets.{Numbers}
use Rattle.segment_postings.specs.declared.posting.Posting.{Posting}
use Rattle.segment_postings.specs.Postings.{posting_of, has_key_at, places_of}
use Rattle.segment_postings.specs.Segments.{Part}
use Rattle.segment_postings.specs.Groups.{EndsBefore}
use Rattle.segment_postings.specs.Terms.{Ascending, is_before, put_key}
use Rattle.segment_postings.specs.Views.{all_docs}
use Rattle.segment_postings.proofs.PostingsGathered.{EndsBefore-push, EndsBefore-more}
use Rattle.segment_postings.proofs.Joining.{take_fold}
use Rattle.segment_postings.proofs.ViewLaws.{enumerate-append}

-- ---- one element more

pub mapped_take : {A B : Type 0} (f : A → B) (xs : List A) (i : ℕ) (x : A) → i < length xs → x ≡ get_or xs i x → map f (take (i + 1) xs) ≡ map f (take i xs) ++ f x ∷ []
mapped_take f xs i x h e = ap (map f) (take_more xs i x h ∙ ap (λ y. take i xs ++ y ∷ []) (sym e)) ∙ map-append f (take i xs) (x ∷ [])

pub docs_more : (ps : List Part) (p : Part) → all_docs (ps ++ p ∷ []) ≡ all_docs ps ++ p.docs
docs_more ps p = flat_map-append (λ q. q.docs) ps (p ∷ []) ∙ ap (λ ds. all_docs ps ++ ds) (append-nil p.docs)

pub docs_within : {A : Type 0} (f : A → Part) (xs : List A) (i : ℕ) (x : A) → i < length xs → x ≡ get_or xs i x → length (all_docs (map f (take i xs))) + length ((f x).docs) ≤ length (all_docs (map f xs))
docs_within f xs i x h e =
    let here = ap length (ap all_docs (mapped_take f xs i x h e) ∙ docs_more (map f (take i xs)) (f x)) ∙ length-append (all_docs (map f (take i xs))) ((f x).docs) in
    let whole = ap length (ap (λ ys. all_docs (map f ys)) (sym (take-append-drop (i + 1) xs)) ∙ ap all_docs (map-append f (take (i + 1) xs) (drop (i + 1) xs)) ∙ flat_map-append (λ q. q.docs) (map f (take (i + 1) xs)) (map f (drop (i + 1) xs)))
    ∙ length-append (all_docs (map f (take (i + 1) xs))) (all_docs (map f (drop (i + 1) xs))) in
    omega (arith, here, whole)

-- ---- postings

-- what is told of the live ones among documents
told : Numbers → ℕ → Key → ℕ → List Document → List Posting
told live field k n ds = filter_map (posting_of field k) (filter (λ e. contains live e.0) (enumerate_from n ds))

told_before : (live : Numbers) (field : ℕ) (k : Key) (ps : List Posting) (n : ℕ) (ds : List Document) → EndsBefore n ps → EndsBefore (n + length ds) (ps ++ told live field k n ds)
unfolding told
told_before live field k ps n [] h = subst (EndsBefore (n + 0)) (sym (append-nil ps)) (EndsBefore-more ps n (n + 0) (omega arith) h)
told_before live field k ps n (d ∷ ds) h =
    let more : EndsBefore (n + 1) ps = EndsBefore-more ps n (n + 1) (omega arith) h in
    let next : n + 1 + length ds ≡ n + suc (length ds) = omega arith in
    let one : Posting = record { doc = n; places = places_of k (values_at d.values field) } in
    let rest : List Posting = told live field k (n + 1) ds in
    subst (λ m. EndsBefore m (ps ++ told live field k n (d ∷ ds))) next (
    elim (contains live n) as (λ b. EndsBefore (n + 1 + length ds) (ps ++ filter_map (posting_of field k) (cond b ((n, d) ∷ filter (λ e. contains live e.0) (enumerate_from (n + 1) ds)) (filter (λ e. contains live e.0) (enumerate_from (n + 1) ds))))) [
      | true ↦ elim (has_key_at field k d) as (λ b. EndsBefore (n + 1 + length ds) (ps ++ cons_option (cond b (Some one) None) rest)) [
        | true ↦ subst (EndsBefore (n + 1 + length ds)) (append_assoc ps (one ∷ []) rest) (told_before live field k (ps ++ one ∷ []) (n + 1) ds (EndsBefore-push ps (n + 1) one (omega arith)))
        | false ↦ told_before live field k ps (n + 1) ds more
      ]
      | false ↦ told_before live field k ps (n + 1) ds more
    ])

-- the postings of the documents of some parts, and how many documents these have
pub record Gathered (live : Numbers) (field : ℕ) (k : Key) (ps : List Part) (base : ℕ) (found : List Posting) : Type 0 where
  pub start : base ≡ length (all_docs ps)
  pub is : found ≡ filter_map (posting_of field k) (filter (λ e. contains live e.0) (enumerate_from 0 (all_docs ps)))

pub ends_before : (live : Numbers) (field : ℕ) (k : Key) (ps : List Part) (base : ℕ) (found : List Posting) → Gathered live field k ps base found → EndsBefore base found
unfolding told
ends_before live field k ps base found g =
    let start : 0 + length (all_docs ps) ≡ base = omega (arith, g.start) in
    subst (λ m. EndsBefore m found) start (subst (EndsBefore (0 + length (all_docs ps))) (sym g.is) (told_before live field k [] 0 (all_docs ps) tt))

pub gathers_part : (live : Numbers) (field : ℕ) (k : Key) (ps : List Part) (p : Part) (base : ℕ) (found new : List Posting) → Gathered live field k ps base found →
    new ≡ found ++ filter_map (posting_of field k) (filter (λ e. contains live e.0) (enumerate_from base p.docs)) → Gathered live field k (ps ++ p ∷ []) (base + length p.docs) new
gathers_part live field k ps p base found new g e =
    let at : base ≡ 0 + length (all_docs ps) = omega (arith, g.start) in
    record {
      start = ap (λ n. n + length p.docs) g.start ∙ sym (length-append (all_docs ps) p.docs) ∙ ap length (sym (docs_more ps p));
      is =
          e ∙ (λ j. g.is j ++ filter_map (posting_of field k) (filter (λ e. contains live e.0) (enumerate_from (at j) p.docs)))
          ∙ sym (filter_map-append (posting_of field k) (filter (λ e. contains live e.0) (enumerate_from 0 (all_docs ps))) (filter (λ e. contains live e.0) (enumerate_from (0 + length (all_docs ps)) p.docs)))
          ∙ ap (filter_map (posting_of field k)) (sym (filter-append (λ e. contains live e.0) (enumerate_from 0 (all_docs ps)) (enumerate_from (0 + length (all_docs ps)) p.docs)) ∙ ap (filter (λ e. contains live e.0)) (sym (enumerate-append 0 (all_docs ps) p.docs) ∙ ap (enumerate_from 0) (sym (docs_more ps p))));
    }

-- ---- terms

abbrev pub late : Key → Key → Bool
late from k = not (is_before k from)

-- the first of the terms of some parts
pub record TermsSoFar (field : ℕ) (from : Key) (most : ℕ) (ps : List Part) (found : List Key) : Type 0 where
  pub is : found ≡ take most (fold put_key [] (flat_map (λ p. filter (late from) (values_at p.keys field)) ps))
  pub ascending : Ascending found
  pub few : length found ≤ most

pub no_terms : (field : ℕ) (from : Key) (most : ℕ) → TermsSoFar field from most [] []
no_terms field from zero = record { is = refl; ascending = tt; few = omega arith }
no_terms field from (suc most) = record { is = refl; ascending = tt; few = omega arith }

pub joins_part : (field : ℕ) (from : Key) (most : ℕ) (ps : List Part) (p : Part) (found new : List Key) → TermsSoFar field from most ps found →
    new ≡ take most (fold put_key found (filter (late from) (values_at p.keys field))) → Ascending new → length new ≤ most → TermsSoFar field from most (ps ++ p ∷ []) new
joins_part field from most ps p found new so_far e up few =
    let keys = λ (q : Part). filter (late from) (values_at q.keys field) in
    record {
      is =
          e ∙ ap (λ xs. take most (fold put_key xs (keys p))) so_far.is
          ∙ take_fold most (fold put_key [] (flat_map keys ps)) (keys p)
          ∙ ap (take most) (sym (fold-append put_key [] (flat_map keys ps) (keys p)) ∙ ap (fold put_key []) (ap (λ ks. flat_map keys ps ++ ks) (sym (append-nil (keys p))) ∙ sym (flat_map-append keys ps (p ∷ []))));
      ascending = up;
      few = few;
    }
