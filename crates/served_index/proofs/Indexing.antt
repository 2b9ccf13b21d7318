-- The documents of an index, and what it is, after each change.
use Rattle.std.proofs.Common.{◌≡◌, ℕ, ◌+◌, ◌<◌, ◌≤◌, Bool, true, ◌||◌, not, List, [], ◌∷◌, ◌++◌, length, filter, sym, ap, subst, ◌∙◌, arith}
use Rattle.std.proofs.lemmas.List.{append_assoc, append-nil}
use Rattle.std.proofs.lemmas.List.Elements.{filter-append, All-append, All-cons, All-filter}
use Rattle.std.specs.List.{list_any}
use Rattle.std.specs.FinSet.{from_list}
use Rattle.field_schema.specs.declared.key.Key.TheVariants as key
use Rattle.field_schema.specs.Laws.{bytes_eq-refl}
use Rattle.doc_model.specs.Document.{Document, IsIdAt}
use Rattle.doc_sets.specs.Sets.{Numbers, is_in}
use Rattle.doc_sets.specs.declared.TheConstants.{MAX_DOCS}
use Rattle.query_tree.specs.declared.query.Query.{Query}
use Rattle.query_tree.specs.Matches.{top}
use Rattle.segment_postings.specs.Numbered.{Numbered, docs, extended, IsNumbered}
use Rattle.segment_postings.specs.Postings.{has_key_at}
use Rattle.search_model.specs.Live.{after, added, deleted_id, deleted_query, has_id}
use Rattle.served_index.specs.Pendings.{PendingState}
use Rattle.served_index.specs.Standing.{numbers_where, matching, staying, HaveIds, AreBelow, IsIndex}
use Rattle.served_index.proofs.Leaving.{has_key_is, staying-less, staying-joined, staying-all, staying_have, docs-extended}
use Rattle.served_index.proofs.Uniques.{below_found, has_own, HaveIds-more}

-- ---- the documents

pub docs-added : (v : Numbered) (gone more found : List ℕ) (old new : List Document) (id : List ℕ) (d : Document) → IsNumbered v → id ≡ d.id
    → ((n : ℕ) → is_in found n ≡ is_in (numbers_where (has_id id) v.list) n) → more ≡ gone ++ found → new ≡ after old (added d) → staying v more ++ new ≡ after (staying v gone ++ old) (added d)
docs-added v gone more found old new id d is same at joined put =
    (λ j. staying-joined (has_id id) v gone more found is at joined j ++ put j)
    ∙ (λ j. filter (λ e. not (has_id (same j) e)) (staying v gone) ++ (filter (λ e. not (has_id d.id e)) old ++ d ∷ []))
    ∙ sym (append_assoc (filter (λ e. not (has_id d.id e)) (staying v gone)) (filter (λ e. not (has_id d.id e)) old) (d ∷ []))
    ∙ ap (λ ds. ds ++ d ∷ []) (sym (filter-append (λ e. not (has_id d.id e)) (staying v gone) old))

pub docs-deleted : (v : Numbered) (gone more found : List ℕ) (old new : List Document) (id : List ℕ) → IsNumbered v
    → ((n : ℕ) → is_in found n ≡ is_in (numbers_where (has_id id) v.list) n) → more ≡ gone ++ found → new ≡ after old (deleted_id id) → staying v more ++ new ≡ after (staying v gone ++ old) (deleted_id id)
docs-deleted v gone more found old new id is at joined removed =
    (λ j. staying-joined (has_id id) v gone more found is at joined j ++ removed j)
    ∙ sym (filter-append (λ e. not (has_id id e)) (staying v gone) old)

pub docs-unmatched : (v : Numbered) (gone more : List ℕ) (old new : List Document) (q : Query) → IsNumbered v
    → ((n : ℕ) → is_in more n ≡ (is_in gone n || is_in (matching q v) n)) → new ≡ after old (deleted_query q) → staying v more ++ new ≡ after (staying v gone ++ old) (deleted_query q)
docs-unmatched v gone more old new q is same removed =
    (λ j. staying-less (λ d. top d.values q) v gone more is same j ++ removed j)
    ∙ sym (filter-append (λ d. not (top d.values q)) (staying v gone) old)

-- ---- what each index is

pub AreBelow-joined : (p : Document → Bool) (v : Numbered) (gone more found : List ℕ) → IsNumbered v → AreBelow gone → ((n : ℕ) → is_in found n ≡ is_in (numbers_where p v.list) n) → more ≡ gone ++ found → AreBelow more
AreBelow-joined p v gone more found is below at joined =
    subst AreBelow (sym joined) (All-append (λ n. n < MAX_DOCS) gone found below (below_found p v found is at))

-- the document has its unique key in one of the fields
abbrev Has : List ℕ → Document → Type 0
Has fields d = list_any (λ field. has_key_at field (key.Str d.id) d) fields ≡ true

pub has_its_own : (fields : List ℕ) (field : ℕ) (d : Document) → is_in fields field ≡ true → IsIdAt d field → Has fields d
has_its_own fields field d there is = has_own fields field d there (has_key_is field d.id d is ∙ bytes_eq-refl d.id)

pub HaveIds-added : (fields : List ℕ) (old new : List Document) (d : Document) → HaveIds fields old → Has fields d → new ≡ after old (added d) → HaveIds fields new
HaveIds-added fields old new d ids is put =
    subst (HaveIds fields) (sym put)
    (All-append (Has fields) (filter (λ e. not (has_id d.id e)) old) (d ∷ []) (All-filter (λ e. not (has_id d.id e)) (Has fields) old ids)
    (All-cons (Has fields) d [] is (λ k e l. absurd (omega arith))))

pub HaveIds-filtered : (p : Document → Bool) (fields : List ℕ) (old new : List Document) → HaveIds fields old → new ≡ filter p old → HaveIds fields new
HaveIds-filtered p fields old new ids is = subst (HaveIds fields) (sym is) (All-filter p (Has fields) old ids)

pub IsIndex-changed : (v : Numbered) (gone more : List ℕ) (old new : PendingState) (fields : List ℕ) → IsIndex v gone old fields → AreBelow more → HaveIds fields new.docs → v.size + new.slots ≤ MAX_DOCS → IsIndex v more new fields
IsIndex-changed v gone more old new fields is below ids most = record { most = most; below = below; ids = is.ids; pending_ids = ids }

-- more fields
pub IsIndex-more : (v : Numbered) (gone : List ℕ) (pending : PendingState) (old new : List ℕ) → ((n : ℕ) → is_in old n ≡ true → is_in new n ≡ true) → IsIndex v gone pending old → IsIndex v gone pending new
IsIndex-more v gone pending old new more is = record {
  most = is.most;
  below = is.below;
  ids = HaveIds-more old new (docs v) more is.ids;
  pending_ids = HaveIds-more old new pending.docs more is.pending_ids;
}

-- ---- a view that is opened

pub docs-opened : (v x w : Numbered) (gone : List ℕ) (s : Numbers) (new old : List Document) → s ≡ from_list gone → new ≡ old → x ≡ extended v s new → docs w ≡ docs x
    → docs w ≡ staying v gone ++ old
docs-opened v x w gone s new old at same is kept = kept ∙ ap docs is ∙ docs-extended v gone s new at ∙ ap (λ ds. staying v gone ++ ds) same

pub size-opened : (v x w : Numbered) (s : Numbers) (new : List Document) (slots : ℕ) → x ≡ extended v s new → w.size ≤ x.size → length new ≤ slots → w.size ≤ v.size + slots
size-opened v x w s new slots is less few =
    let same : x.size ≡ v.size + length new = ap (λ y. y.size) is in
    omega (arith, same, less, few)

pub IsIndex-opened : (v w : Numbered) (gone none : List ℕ) (old new : PendingState) (fields : List ℕ) → IsIndex v gone old fields → docs w ≡ staying v gone ++ old.docs → w.size ≤ v.size + old.slots
    → none ≡ [] → new.docs ≡ [] → new.slots ≡ 0 → IsIndex w none new fields
IsIndex-opened v w gone none old new fields is same less empty empty' zero = record {
  most = let most : v.size + old.slots ≤ MAX_DOCS = is.most in omega (arith, most, less, zero);
  below = subst AreBelow (sym empty) (λ k d l. absurd (omega arith));
  ids = subst (HaveIds fields) (sym same) (All-append (Has fields) (staying v gone) old.docs (staying_have (Has fields) v gone is.ids) is.pending_ids);
  pending_ids = subst (HaveIds fields) (sym empty') (λ k d l. absurd (omega arith));
}

-- where nothing is gone and nothing was added
pub docs-anew : (w : Numbered) (none : List ℕ) (new : List Document) → none ≡ [] → new ≡ [] → staying w none ++ new ≡ docs w
docs-anew w none new empty empty' = (λ j. staying w (empty j) ++ empty' j) ∙ append-nil (staying w []) ∙ staying-all w
