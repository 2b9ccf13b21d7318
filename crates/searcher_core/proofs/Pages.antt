-- The page of an entry, and its documents one after another.
use Rattle.std.specs.Prelude.{if◌then◌else◌}
use Rattle.segment_postings.specs.Terms.{raised}
use Rattle.std.proofs.Common.{◌≡◌, ℕ, zero, suc, ◌+◌, ◌-◌, ◌≤◌, ◌<◌, Bool, true, false, cond, ◌||◌, List, [], ◌∷◌, length, map, take, drop, nat_le, nat_eq, refl, sym, ap, subst, ◌∙◌, arith, All}
use Rattle.std.proofs.lemmas.Bool.Decides.{nat_tests}
use Rattle.std.proofs.Common.{eq-eqb}
use Rattle.std.proofs.lemmas.List.Sorted.{length_permutation}
use Rattle.std.proofs.lemmas.List.{length-take-le, length-map, take-map, take_all, take-take, drop-take, length-take}
use Rattle.doc_model.specs.Document.{Document}
use Rattle.query_eval.specs.Found.{found}
use Rattle.request_form.specs.declared.request.Request.{Request}
use Rattle.result_cache.specs.declared.entry.Entry as results
use Rattle.search_model.specs.Answer.{is_hit}
use Rattle.segment_postings.specs.Numbered.{Numbered, IsNumbered, IsLive}
use Rattle.doc_sets.specs.Sets.{Numbers, AreDocuments, members}
use Rattle.doc_sets.proofs.Members.{listing_of}
use Rattle.query_tree.specs.declared.sort.SortKey.{SortKey}
use Rattle.sort_order.specs.Order.{Entry, comes_before, in_order}
use Rattle.sort_order.proofs.Placing.{sorted-same}
use Rattle.sort_window.specs.First.{AreLive, among, first_numbers}
use Rattle.sort_window.proofs.Among.{length-among}
use Rattle.searcher_core.specs.Evaluated.{raised_by}
use Rattle.searcher_core.specs.Meeting.{IsEntryFor, docs_at}
use Rattle.searcher_core.specs.Windows.{set_of}
use Rattle.searcher_core.specs.Searches.{hits_of, queries_of}
use Rattle.searcher_core.proofs.Finding.{len_is, ordered_count, page_is, page_live}

is_at_most : (m n : ℕ) → nat_le m n ≡ true → m ≤ n
is_at_most m n h = grind (arith, nat_tests)

pub is_same : (m n : ℕ) → nat_eq m n ≡ true → m ≡ n
is_same m n h = grind (arith, nat_tests)

not_at_most : (m n : ℕ) → nat_le m n ≡ false → n < m
not_at_most m n h = grind (arith, nat_tests)

-- the front of a list that serves is that of the list
same_front : {X : Type 0} (need count : ℕ) (ids xs : List X) → ids ≡ take (length ids) xs → count ≡ length xs → (nat_le need (length ids) || nat_eq (length ids) count) ≡ true
    → take need ids ≡ take need xs
same_front need count ids xs is counts enough =
    (elim (nat_le need (length ids)) as (λ b. nat_le need (length ids) ≡ b → (b || nat_eq (length ids) count) ≡ true → take need ids ≡ take need xs) [
      | true ↦ λ within h. ap (take need) is ∙ take-take need (length ids) xs (is_at_most need (length ids) within)
      | false ↦ λ beyond h.
          (let whole : length ids ≡ length xs = is_same (length ids) count h ∙ counts in
          ap (take need) (is ∙ take_all (length ids) xs (omega (arith, whole))))
    ]) refl enough

module _ (v : Numbered) (r : Request) (e : results.Entry) (sound : IsNumbered v) (is : IsEntryFor v r e) where
  all : List ℕ
  all = map (λ d. d.0) (in_order r.sort (among (set_of v r) v))

  pub found_is : e.found ≡ length (hits_of v r)
  unfolding found
  found_is = is.counts ∙ len_is v (is_hit r.q (queries_of r.filters)) r.sort (set_of v r) sound refl

  all_count : e.found ≡ length all
  unfolding all found
  all_count =
      is.counts ∙ ordered_count v (is_hit r.q (queries_of r.filters)) r.sort (set_of v r) sound refl
      ∙ sym (length-map (in_order r.sort (among (set_of v r) v)) (λ d. d.0))

  first_of : (n : ℕ) → first_numbers n r.sort (set_of v r) v ≡ take n all
  unfolding all
  first_of n = sym (take-map (λ d. d.0) n (in_order r.sort (among (set_of v r) v)))

  -- the numbers of the page
  module _ (ns : List ℕ) (page : ns ≡ take r.rows (drop r.start e.ids)) where
    numbers_are : ns ≡ drop r.start (first_numbers (r.start + r.rows) r.sort (set_of v r) v)
    numbers_are =
        page ∙ sym (drop-take r.start r.rows e.ids)
        ∙ ap (drop r.start) (same_front (r.start + r.rows) e.found e.ids all (is.lists ∙ first_of (length e.ids)) all_count is.enough ∙ sym (first_of (r.start + r.rows)))

    pub numbers_live : All (IsLive v) ns
    unfolding found
    numbers_live = page_live v (is_hit r.q (queries_of r.filters)) r.sort (set_of v r) sound refl r.start r.rows ns numbers_are

    pub docs_are : docs_at v ns ≡ take r.rows (drop r.start (hits_of v r))
    unfolding found
    docs_are = page_is v (is_hit r.q (queries_of r.filters)) r.sort (set_of v r) sound refl r.start r.rows ns numbers_are

    pub numbers_few : length ns ≤ r.rows
    numbers_few = (let few : length (take r.rows (drop r.start e.ids)) ≤ r.rows = rw length-take (omega arith) in let same = ap length page in omega (arith, few, same))

-- ---- one document after another

pub raised_step : (i hits hit count : ℕ) → hits ≤ i → hit ≤ 1 → raised_by (1 - hit) (raised_by (i - hits) count) ≡ raised_by (i + 1 - (hits + hit)) count
raised_step i hits zero count l m = (let same : suc (i - hits) ≡ i + 1 - (hits + 0) = omega (arith, l) in ap (λ n. raised_by n count) same)
raised_step i hits (suc zero) count l m = (let same : i - hits ≡ i + 1 - (hits + 1) = omega (arith, l) in ap (λ n. raised_by n count) same)
raised_step i hits (suc (suc n)) count l m = absurd (omega (arith, m))

pub at_most_one : (b : Bool) → cond b 1 0 ≤ 1
at_most_one true = omega arith
at_most_one false = omega arith

pub by_hit : (b : Bool) (count : ℕ) → (if b then count else raised count) ≡ raised_by (1 - cond b 1 0) count
by_hit true count = refl
by_hit false count = refl

-- ---- enough for the page

at_most : (m n : ℕ) → m ≤ n → nat_le m n ≡ true
at_most m n h = grind (arith, nat_tests)

or_true : (a : Bool) → (a || true) ≡ true
or_true true = refl
or_true false = refl

pub enough_first : {X : Type 0} (need most count : ℕ) (ids xs : List X) → need ≤ most → ids ≡ take most xs → count ≡ length xs → (nat_le need (length ids) || nat_eq (length ids) count) ≡ true
enough_first need most count ids xs reaches is counts =
    let taken : length ids ≡ length (take most xs) = ap length is in
    (elim (nat_le most (length xs)) as (λ b. nat_le most (length xs) ≡ b → (nat_le need (length ids) || nat_eq (length ids) count) ≡ true) [
      | true ↦ λ within.
          (let low : most ≤ length xs = is_at_most most (length xs) within in
          let whole : length (take most xs) ≡ most = length-take-le most xs low in
          ap (λ b. b || nat_eq (length ids) count) (at_most need (length ids) (omega (arith, reaches, taken, whole))))
      | false ↦ λ beyond.
          (let all : take most xs ≡ xs = take_all most xs (omega (arith, not_at_most most (length xs) beyond)) in
          let whole : length ids ≡ count = taken ∙ ap length all ∙ sym counts in
          ap (λ b. nat_le need (length ids) || b) (eq-eqb (length ids) count whole) ∙ or_true (nat_le need (length ids)))
    ]) refl

-- the first of a set's documents, in order
pub enough_collected : (v : Numbered) (set : Numbers) (sort : List SortKey) (need most count : ℕ) (ids : List ℕ) → IsNumbered v → AreLive set v → AreDocuments set → count ≡ length (members set)
    → need ≤ most → ids ≡ first_numbers most sort set v → (nat_le need (length ids) || nat_eq (length ids) count) ≡ true
enough_collected v set sort need most count ids sound live are counts reaches is =
    let ord : List Entry = in_order sort (among set v) in
    enough_first need most count ids (map (λ (d : Entry). d.0) ord) reaches (is ∙ sym (take-map (λ (d : Entry). d.0) most ord))
    (counts ∙ sym (length-among set v sound live (listing_of set are))
    ∙ sym (length_permutation (among set v) ord (sorted-same (comes_before sort) (among set v)))
    ∙ sym (length-map ord (λ (d : Entry). d.0)))
