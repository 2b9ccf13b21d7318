-- A result that is made, and the key that it is kept under.
use Rattle.std.specs.Prelude.{Result, Ok, Err, IfOk, if◌then◌else◌}
use Rattle.std.specs.Arc.{arc_value}
use Rattle.std.specs.List.Sorted.{IsStrictlySortedBy}
use Rattle.query_tree.specs.Order.{query_cmp}
use Rattle.cache_traces.specs.declared.told.Told.TheVariants as told
use Rattle.shared_cells.specs.Lists.{AsksFor}
use Rattle.std.proofs.Common.{◌≡◌, ℕ, ◌+◌, ◌∷◌, [], ◌++◌, List, map, length, Bool, Option, true, false, refl, sym, ap, subst, ◌∙◌}
use Rattle.std.specs.FinSet.{len}
use Rattle.std.specs.List.{list_all}
use Rattle.doc_sets.specs.Sets.{Numbers}
use Rattle.query_eval.specs.Found.{found, answer}
use Rattle.query_eval.proofs.Verdicts.{found_alike}
use Rattle.query_tree.specs.Matches.{top}
use Rattle.request_form.specs.declared.request.Filter.{Filter}
use Rattle.request_form.specs.declared.request.Request.{Request}
use Rattle.result_cache.specs.declared.key.ResultKey.{ResultKey}
use Rattle.result_cache.specs.declared.entry.Entry.{Entry}
use Rattle.result_cache.specs.Entries.{serves}
use Rattle.result_cache.specs.Keys.{HasFilters}
use Rattle.search_model.specs.Answer.{is_hit}
use Rattle.segment_postings.specs.Numbered.{Numbered, IsNumbered, docs}
use Rattle.sort_window.specs.First.{first_numbers, AreLive}
use Rattle.search_model.specs.declared.notes.Note.{Note}
use Rattle.search_model.specs.declared.notes.Note.TheVariants.{Hit, Joined}
use Rattle.search_model.specs.Noting.{AreNotes, AreNotesAfter, IsNote}
use Rattle.searcher_core.specs.declared.results.Given.{Given}
use Rattle.segment_postings.specs.declared.posting.Counts.{Counts}
use Rattle.searcher_core.specs.Evaluated.{AskInTurn, AsksAsNoted, ReadsValues, computed, evaluated, passes_too, while_some}
use Rattle.searcher_core.specs.Noting.{may_cache}
use Rattle.searcher_cells.specs.Sights.{Sight, ResultFits, set_of_key}
use Rattle.searcher_core.specs.Meeting.{HasMet, IsCommonOf, IsEntryFor, IsGiven, IsMade, left_of}
use Rattle.searcher_core.specs.RequestCalls.{FilterActs, FiltersAfter, IsKeyOf, IsCollected, ResultActs, ResultCall, need_of}
use Rattle.searcher_core.specs.Windows.{IsFirstWindow, set_of}
use Rattle.searcher_core.specs.declared.sizes.CacheSizes.{CacheSizes}
use Rattle.searcher_core.specs.Searches.{IsByCost, cached, uncached, queries_of}
use Rattle.searcher_core.proofs.Finding.{are_live}
use Rattle.searcher_core.proofs.Lefts.{common_left, met_both}
use Rattle.searcher_core.proofs.Turns.{asked_both, hits_by_parts, key_hits}

-- ---- what is found

module _ (v : Numbered) (r : Request) (turns : List Filter) (sets : List Numbers) (left : Option Numbers) (first last : Numbers) (before between after : ℕ)
    (sound : IsNumbered v) (by_cost : IsByCost (uncached r.filters) turns) (are : sets ≡ map (λ q. answer q v) (queries_of (cached r.filters))) (common : IsCommonOf sets left)
    (main : HasMet v (r.q ∷ []) (left_of v left) first before between) (others : HasMet v (queries_of turns) first last between after) where
  pub set_made : last ≡ set_of v r
  set_made =
      (met_both v r.q (queries_of turns) (left_of v left) first last before between after main others).found_is (λ d. list_all (top d.values) (queries_of (cached r.filters)))
      (common_left v (queries_of (cached r.filters)) sets left sound are common)
      ∙ found_alike (passes_too (λ d. list_all (top d.values) (queries_of (cached r.filters))) (r.q ∷ queries_of turns)) (is_hit r.q (queries_of r.filters)) v
      (λ d. hits_by_parts r.filters turns r.q d by_cost)

  pub asked_made : AskInTurn (while_some (docs v) (λ d. list_all (top d.values) (queries_of (cached r.filters))) (r.q ∷ queries_of turns)) before after
  asked_made =
      (met_both v r.q (queries_of turns) (left_of v left) first last before between after main others).asked (λ d. list_all (top d.values) (queries_of (cached r.filters)))
      (common_left v (queries_of (cached r.filters)) sets left sound are common)

-- the same as it is told along the way, each of the view as it was then
module _ (v v1 v2 : Numbered) (r : Request) (of turns : List Filter) (sets : List Numbers) (left : Option Numbers) (first last : Numbers) (notes : List Note) (begun before between after : ℕ)
    (sound : IsNumbered v) (same1 : v1 ≡ v) (same2 : v2 ≡ v1) (of_is : of ≡ r.filters) (by_cost : IsByCost (uncached of) turns) (are : sets ≡ map (λ q. answer q v) (queries_of (cached of)))
    (common : IsCommonOf sets left) (main : HasMet v1 (r.q ∷ []) (left_of v1 left) first before between) (others : HasMet v2 (queries_of turns) first last between after)
    (noted : AreNotes (may_cache of) notes) (asked : AskInTurn (computed of notes) begun before) where
  by_cost' : IsByCost (uncached r.filters) turns
  by_cost' = subst (λ fs. IsByCost (uncached fs) turns) of_is by_cost

  are' : sets ≡ map (λ q. answer q v) (queries_of (cached r.filters))
  are' = are ∙ ap (λ fs. map (λ q. answer q v) (queries_of (cached fs))) of_is

  main' : HasMet v (r.q ∷ []) (left_of v left) first before between
  main' = subst (λ w. HasMet w (r.q ∷ []) (left_of w left) first before between) same1 main

  others' : HasMet v (queries_of turns) first last between after
  others' = subst (λ w. HasMet w (queries_of turns) first last between after) (same2 ∙ same1) others

  pub set_is : last ≡ set_of v r
  set_is = set_made v r turns sets left first last before between after sound by_cost' are' common main' others'

  pub made_is : (begin end : Counts) → begin.postings ≡ begun → end.postings ≡ after → IsMade v r begin end notes
  made_is begin end from to = record {
    notes_are = subst (λ fs. AreNotes (may_cache fs) notes) of_is noted;
    evaluates = record {
      turns = turns;
      by_cost = by_cost';
      asked =
          subst (λ k. AskInTurn (evaluated (docs v) r turns notes) k end.postings) (sym from)
          (subst (λ k. AskInTurn (evaluated (docs v) r turns notes) begun k) (sym to)
          (asked_both (computed r.filters notes) (while_some (docs v) (λ d. list_all (top d.values) (queries_of (cached r.filters))) (r.q ∷ queries_of turns)) begun before after
          (subst (λ fs. AskInTurn (computed fs notes) begun before) of_is asked)
          (asked_made v r turns sets left first last before between after sound by_cost' are' common main' others')));
    };
  }

pub live_of_set : (v : Numbered) (r : Request) (s : Numbers) → IsNumbered v → s ≡ set_of v r → AreLive s v
unfolding found
live_of_set v r s sound is = are_live v (is_hit r.q (queries_of r.filters)) r.sort s sound is

pub entry_made : (v w : Numbered) (r : Request) (s : Numbers) (e : Entry) → w ≡ v → s ≡ set_of v r → e.found ≡ len s → e.ids ≡ first_numbers (length e.ids) r.sort s w
    → serves (r.start + r.rows) e ≡ true → IsEntryFor v r e
entry_made v w r s e same is counts lists enough = record {
  counts = counts ∙ ap len is;
  lists = lists ∙ (λ i. first_numbers (length e.ids) r.sort (is i) (same i));
  enough = enough;
}

-- the entry lists the first window of what the request finds
pub collected_made : (v w : Numbered) (sizes : CacheSizes) (r : Request) (s : Numbers) (e : Entry) → w ≡ v → s ≡ set_of v r → e.found ≡ len s → IsFirstWindow r sizes.window s w e.ids
    → IsCollected v sizes r e
collected_made v w sizes r s e same is counts lists = record {
  counts = counts ∙ ap len is;
  window = (lists.0, lists.1, lists.2 ∙ (λ i. first_numbers lists.0 r.sort (is i) (same i)));
}

-- ---- the key

pub key_made : {E : Type 0} (r : Request) (made : Result ResultKey E) → IfOk made (λ k. k.q ≡ r.q) → IfOk made (λ k. IsStrictlySortedBy query_cmp k.filters)
    → IfOk made (λ k. HasFilters k (queries_of r.filters)) → IfOk made (λ k. k.sort ≡ r.sort) → IfOk made (IsKeyOf r)
key_made r (Ok k) query ascending filters sort = record { query = query; filters = filters; ascending = ascending; sort = sort }
key_made r (Err e) query ascending filters sort = tt

module _ (v : Numbered) (w : Sight) (r : Request) (key : ResultKey) (same : w.view ≡ v) (of_request : IsKeyOf r key) where
  key_set : set_of_key w.view key ≡ set_of v r
  key_set =
      ap (λ x. set_of_key x key) same
      ∙ found_alike (is_hit key.q key.filters) (is_hit r.q (queries_of r.filters)) v (λ d. key_hits key r.q (queries_of r.filters) d of_request.query of_request.filters)

  -- an entry that is kept under it is one for the request
  pub entry_of_key : (e : Entry) → ResultFits w key e → serves (r.start + r.rows) e ≡ true → IsEntryFor v r e
  entry_of_key e is enough = record {
    counts = is.counts ∙ ap len key_set;
    lists = is.lists ∙ (λ i. first_numbers (length e.ids) (of_request.sort i) (key_set i) (same i));
    enough = enough;
  }

  -- and one for the request may be kept under it
  pub key_of_entry : (e : Entry) → IsEntryFor v r e → ResultFits w key e
  key_of_entry e is = record {
    counts = is.counts ∙ sym (ap len key_set);
    lists = is.lists ∙ (λ i. first_numbers (length e.ids) (sym of_request.sort i) (sym key_set i) (sym same i));
  }

-- ---- a hit, asked again after Join or not

pub hit_call : (v : Numbered) (sizes : CacheSizes) (r : Request) (key : ResultKey) (again : Bool) (n : Note) (old new : ResultActs) → n ≡ (if again then Joined else Hit) → IsKeyOf r key
    → AsksFor key (need_of r) again told.Hit old new → ResultCall v sizes r n old new
hit_call v sizes r key true n old new is of asks = subst (λ m. ResultCall v sizes r m old new) (sym is) (key, of, asks)
hit_call v sizes r key false n old new is of asks = subst (λ m. ResultCall v sizes r m old new) (sym is) (key, of, asks)

pub hit_filters : (v : Numbered) (r : Request) (again : Bool) (n : Note) (ns : List Note) (old new : FilterActs) → n ≡ (if again then Joined else Hit) → new ≡ old → FiltersAfter v r n ns old new
hit_filters v r true n ns old new is same = subst (λ m. FiltersAfter v r m ns old new) (sym is) same
hit_filters v r false n ns old new is same = subst (λ m. FiltersAfter v r m ns old new) (sym is) same

module _ (v : Numbered) (r : Request) (before after : Counts) (g : Given) (entry : IsEntryFor v r (arc_value g.entry)) (may : r.q_cached ≡ true) (none : g.filters.items ≡ [])
    (asks : after.postings ≡ before.postings) (values : after.values ≡ before.values) where
  pub given_hit : (again : Bool) → g.result ≡ (if again then Joined else Hit) → IsGiven v r before after g
  given_hit true is = record {
    entry_is = entry;
    result_is = subst (λ b. IsNote b g.result) (sym may) (subst (IsNote true) (sym is) tt);
    notes_are = subst (λ n. AreNotesAfter n (may_cache r.filters) g.filters.items) (sym is) none;
    asks = subst (λ n. AsksAsNoted v r n g.filters.items before.postings after.postings) (sym is) asks;
    values = subst (λ n. ReadsValues n before.values after.values) (sym is) values;
  }
  given_hit false is = record {
    entry_is = entry;
    result_is = subst (λ b. IsNote b g.result) (sym may) (subst (IsNote true) (sym is) tt);
    notes_are = subst (λ n. AreNotesAfter n (may_cache r.filters) g.filters.items) (sym is) none;
    asks = subst (λ n. AsksAsNoted v r n g.filters.items before.postings after.postings) (sym is) asks;
    values = subst (λ n. ReadsValues n before.values after.values) (sym is) values;
  }
