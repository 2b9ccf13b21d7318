-- Lists of calls, one more at a time, and those of what was refused.
use Rattle.std.proofs.Common.{◌≡◌, ℕ, ◌+◌, ◌<◌, ◌⊎◌, inl, inr, Bool, true, false, cond, List, [], ◌∷◌, ◌++◌, length, take, drop, get_or, Option, Some, None, IsSome, refl, sym, ap, subst, ◌∙◌}
use Rattle.std.specs.Prelude.{count_by}
use Rattle.std.specs.List.{cons_option}
use Rattle.std.proofs.lemmas.List.{append-nil, drop_more, take-append-drop}
use Rattle.std.proofs.lemmas.List.Elements.{filter_map-append}
use Rattle.std.proofs.lemmas.List.Sums.{sum_by-append}
use Rattle.doc_model.specs.Document.{Document}
use Rattle.query_eval.specs.Found.{answer}
use Rattle.query_tree.specs.declared.query.Query.{Query}
use Rattle.request_form.specs.declared.request.Filter.{Filter}
use Rattle.search_model.specs.declared.notes.Note.{Note}
use Rattle.search_model.specs.declared.notes.Note.TheVariants.{Hit, Joined, Computed, Bypassed}
use Rattle.search_model.specs.Noting.{AreNotes, IsNote}
use Rattle.segment_postings.specs.Numbered.{Numbered, doc_at}
use Rattle.searcher_cells.specs.Calls.{AsksByNote, FilterCalls, RefusedCalls, DocumentCalls, RefusedDocument}
use Rattle.searcher_core.specs.Evaluated.{AskInTurn, computed_by}
use Rattle.searcher_core.specs.Noting.{may_cache}
use Rattle.searcher_core.specs.RequestCalls.{FilterActs, FilterCall, FiltersCalls, RefusedFilters, DocumentActs, DocumentsCalls, PageCalls, RefusedPage}
use Rattle.searcher_core.specs.Meeting.{docs_at}

-- ---- filters

-- a filter that was looked up has its note, and its calls
pub note_looked : (v : Numbered) (q : Query) (n : Note) (s : _) (old new : FilterActs) → FilterCalls q n s old new → IsNote true n
note_looked v q Hit s old new is = tt
note_looked v q Joined s old new is = tt
note_looked v q Computed s old new is = tt
note_looked v q Bypassed s old new is = absurd is

pub call_looked : (v : Numbered) (f : Filter) (n : Note) (old new : FilterActs) → FilterCalls f.query n (answer f.query v) old new → FilterCall v f n old new
call_looked v f Hit old new is = is
call_looked v f Joined old new is = is
call_looked v f Computed old new is = is
call_looked v f Bypassed old new is = absurd is

pub asked_looked : (q : Query) (n : Note) (before after : ℕ) → AsksByNote n q before after → AskInTurn (computed_by n q) before after
asked_looked q Hit before after is = is
asked_looked q Joined before after is = is
asked_looked q Computed before after is = (after, is, refl)
asked_looked q Bypassed before after is = is

pub calls_more : (v : Numbered) (fs : List Filter) (ns : List Note) (f : Filter) (n : Note) (old mid new : FilterActs)
    → FiltersCalls v fs ns old mid → FilterCall v f n mid new → FiltersCalls v (fs ++ f ∷ []) (ns ++ n ∷ []) old new
calls_more v [] [] f n old mid new so call = (new, subst (λ m. FilterCall v f n m new) so call, refl)
calls_more v [] (m ∷ ns) f n old mid new so call = absurd so
calls_more v (g ∷ fs) [] f n old mid new so call = absurd so
calls_more v (g ∷ fs) (m ∷ ns) f n old mid new so call = (so.0, so.1, calls_more v fs ns f n so.0 mid new so.2 call)

pub none_refused : (v : Numbered) (fs : List Filter) (old new : FilterActs) → new ≡ old → RefusedFilters v fs old new
none_refused v [] old new is = is
none_refused v (f ∷ fs) old new is = inl is

-- behind those that were had
pub refused_behind : (v : Numbered) (fs : List Filter) (ns : List Note) (rest : List Filter) (old mid new : FilterActs)
    → AreNotes (may_cache fs) ns → FiltersCalls v fs ns old mid → RefusedFilters v rest mid new → RefusedFilters v (fs ++ rest) old new
refused_behind v [] [] rest old mid new are so is = subst (λ m. RefusedFilters v rest m new) so is
refused_behind v [] (n ∷ ns) rest old mid new are so is = absurd so
refused_behind v (f ∷ fs) [] rest old mid new are so is = absurd so
refused_behind v (f ∷ fs) (n ∷ ns) rest old mid new are so is =
    inr (inr (n, (so.0, are.0, so.1, refused_behind v fs ns rest so.0 mid new are.1 so.2 is)))

-- one alone is one of more
pub refused_first : (v : Numbered) (f : Filter) (rest : List Filter) (old new : FilterActs) → RefusedFilters v (f ∷ []) old new → RefusedFilters v (f ∷ rest) old new
refused_first v f rest old new (inl same) = inl same
refused_first v f rest old new (inr (inl one)) = inr (inl one)
refused_first v f rest old new (inr (inr (n, had))) = inr (inr (n, (had.0, had.1, had.2, none_refused v rest had.0 new had.3)))

pub all_refused : (v : Numbered) (fs : List Filter) (ns : List Note) (old new : FilterActs) → AreNotes (may_cache fs) ns → FiltersCalls v fs ns old new → RefusedFilters v fs old new
all_refused v fs ns old new are so = subst (λ l. RefusedFilters v l old new) (append-nil fs) (refused_behind v fs ns [] old new new are so refl)

-- the filter at i was refused
pub refused_at : (v : Numbered) (fs : List Filter) (i : ℕ) (f : Filter) (ns : List Note) (old mid new : FilterActs) → i < length fs → f ≡ get_or fs i f
    → AreNotes (may_cache (take i fs)) ns → FiltersCalls v (take i fs) ns old mid → RefusedFilters v (f ∷ []) mid new → RefusedFilters v fs old new
refused_at v fs i f ns old mid new within is are so one =
    let whole : take i fs ++ (f ∷ drop (i + 1) fs) ≡ fs =
    ap (λ x. take i fs ++ (x ∷ drop (i + 1) fs)) is ∙ ap (λ l. take i fs ++ l) (sym (drop_more fs i f within)) ∙ take-append-drop i fs in
    subst (λ l. RefusedFilters v l old new) whole
    (refused_behind v (take i fs) ns (f ∷ drop (i + 1) fs) old mid new are so (refused_first v f (drop (i + 1) fs) mid new one))

-- the filter at i was had, and nothing behind it
pub had_at : (v : Numbered) (fs : List Filter) (i : ℕ) (f : Filter) (n : Note) (ns : List Note) (old mid new : FilterActs) → i < length fs → f ≡ get_or fs i f
    → AreNotes (may_cache (take i fs)) ns → FiltersCalls v (take i fs) ns old mid → IsNote f.cached n → FilterCall v f n mid new → RefusedFilters v fs old new
had_at v fs i f n ns old mid new within is are so note call =
    refused_at v fs i f ns old mid new within is are so (inr (inr (n, (new, note, call, refl))))

-- ---- documents

pub documents_more : (v : Numbered) (ds : List Document) (bs : List Bool) (n : ℕ) (d : Document) (b : Bool) (old mid new : DocumentActs)
    → DocumentsCalls v ds bs old mid → doc_at v n ≡ Some d → DocumentCalls n b d mid new → DocumentsCalls v (ds ++ d ∷ []) (bs ++ b ∷ []) old new
documents_more v [] [] n d b old mid new so at call = (n, at, (new, subst (λ m. DocumentCalls n b d m new) so call, refl))
documents_more v [] (c ∷ bs) n d b old mid new so at call = absurd so
documents_more v (e ∷ ds) [] n d b old mid new so at call = absurd so
documents_more v (e ∷ ds) (c ∷ bs) n d b old mid new so at call =
    (so.0, so.1, (so.2.0, so.2.1, documents_more v ds bs n d b so.2.0 mid new so.2.2 at call))

pub no_page : (v : Numbered) (ds : List Document) (old new : DocumentActs) → new ≡ old → RefusedPage v ds old new
no_page v [] old new is = is
no_page v (d ∷ ds) old new is = inl is

pub page_behind : (v : Numbered) (ds : List Document) (bs : List Bool) (rest : List Document) (old mid new : DocumentActs)
    → DocumentsCalls v ds bs old mid → RefusedPage v rest mid new → RefusedPage v (ds ++ rest) old new
page_behind v [] [] rest old mid new so is = subst (λ m. RefusedPage v rest m new) so is
page_behind v [] (b ∷ bs) rest old mid new so is = absurd so
page_behind v (d ∷ ds) [] rest old mid new so is = absurd so
page_behind v (d ∷ ds) (b ∷ bs) rest old mid new so is =
    inr (so.0, so.1, inr (b, (so.2.0, so.2.1, page_behind v ds bs rest so.2.0 mid new so.2.2 is)))

pub some_of : {A : Type 0} (o : Option A) → IsSome o → (x : A) × (o ≡ Some x)
some_of None is = cc
some_of (Some x) is = (x, refl)

-- the document at i was refused
pub page_at : (v : Numbered) (numbers : List ℕ) (i n : ℕ) (d : Document) (bs : List Bool) (ds : List Document) (old mid new : DocumentActs) → i < length numbers → n ≡ get_or numbers i 0
    → doc_at v n ≡ Some d → ds ≡ docs_at v (take i numbers) → DocumentsCalls v ds bs old mid
    → (RefusedDocument n mid new ⊎ ((b : Bool) × ((end : DocumentActs) × DocumentCalls n b d mid end × (new ≡ end)))) → RefusedPage v (docs_at v numbers) old new
page_at v numbers i n d bs ds old mid new within item here before so one =
    let rest : List ℕ = drop (i + 1) numbers in
    let whole : ds ++ (d ∷ docs_at v rest) ≡ docs_at v numbers =
    ap (λ l. l ++ (d ∷ docs_at v rest)) before
    ∙ ap (λ o. docs_at v (take i numbers) ++ cons_option o (docs_at v rest)) (sym here)
    ∙ sym (filter_map-append (doc_at v) (take i numbers) (n ∷ rest))
    ∙ ap (docs_at v) (ap (λ t. take i numbers ++ t ∷ rest) item ∙ ap (λ l. take i numbers ++ l) (sym (drop_more numbers i 0 within)) ∙ take-append-drop i numbers) in
    subst (λ l. RefusedPage v l old new) whole (page_behind v ds bs (d ∷ docs_at v rest) old mid new so (inr (n, here, ending one)))
  where
    ending : (RefusedDocument n mid new ⊎ ((b : Bool) × ((end : DocumentActs) × DocumentCalls n b d mid end × (new ≡ end))))
        → (RefusedDocument n mid new ⊎ ((b : Bool) × ((end : DocumentActs) × DocumentCalls n b d mid end × RefusedPage v (docs_at v (drop (i + 1) numbers)) end new)))
    ending (inl refused) = inl refused
    ending (inr had) = inr (had.0, (had.1.0, had.1.1, no_page v (docs_at v (drop (i + 1) numbers)) had.1.0 new had.1.2))

-- how many were there, with one more
pub hits_more : (bs : List Bool) (b : Bool) → count_by (λ x. x) (bs ++ b ∷ []) ≡ count_by (λ x. x) bs + (cond b 1 0)
hits_more bs b =
    let both = sum_by-append (λ (x : Bool). cond x 1 0) bs (b ∷ []) in
    (elim b as (λ x. count_by (λ y. y) (bs ++ x ∷ []) ≡ count_by (λ y. y) bs + count_by (λ y. y) (x ∷ []) → count_by (λ y. y) (bs ++ x ∷ []) ≡ count_by (λ y. y) bs + (cond x 1 0)) [
      | true ↦ λ h. h
      | false ↦ λ h. h
    ]) both

-- the page so far, with one document more
pub page_more : (v : Numbered) (ds all : List Document) (hits n : ℕ) (d : Document) (b : Bool) (old mid new : DocumentActs) → PageCalls v ds hits old mid → doc_at v n ≡ Some d
    → DocumentCalls n b d mid new → all ≡ ds ++ d ∷ [] → PageCalls v all (hits + (cond b 1 0)) old new
page_more v ds all hits n d b old mid new so here call is =
    subst (λ l. PageCalls v l (hits + (cond b 1 0)) old new) (sym is)
    (so.0 ++ b ∷ [], ap (λ k. k + (cond b 1 0)) so.1 ∙ sym (hits_more so.0 b), documents_more v ds so.0 n d b old mid new so.2 here call)
