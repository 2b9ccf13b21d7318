-- Queries in their turn: which are evaluated, how often they ask for postings, and what passes them all.
use Rattle.std.proofs.Common.{◌≡◌, ℕ, Bool, true, false, not, ◌&&◌, ◌||◌, List, [], ◌∷◌, ◌++◌, Contains, length, map, filter, refl, sym, ap, subst, ◌∙◌, All}
use Rattle.std.specs.Prelude.{if◌then◌else◌}
use Rattle.std.specs.List.{list_all, list_any, AllPass}
use Rattle.std.specs.List.Sorted.{IsPermutation}
use Rattle.std.proofs.lemmas.List.Elements.{All-contains, All-contains_itself}
use Rattle.std.proofs.lemmas.List.Sums.{AllPass-from_list_all, list_all-from_AllPass}
use Rattle.std.proofs.lemmas.List.Sorted.{Contains-permutation, IsPermutation-map, IsPermutation-sym}
use Rattle.doc_model.specs.Document.{Document}
use Rattle.query_tree.specs.declared.query.Query.{Query, out-Query}
use Rattle.query_tree.specs.Matches.{top}
use Rattle.query_eval.specs.Kept.{Asks}
use Rattle.query_eval.proofs.Verdicts.{and_true}
use Rattle.request_form.specs.declared.request.Filter.{Filter}
use Rattle.result_cache.specs.declared.key.ResultKey.{ResultKey}
use Rattle.result_cache.specs.Keys.{HasFilters}
use Rattle.search_model.specs.Answer.{is_hit}
use Rattle.searcher_core.specs.Evaluated.{AskInTurn, passes_too, while_some}
use Rattle.searcher_core.specs.Searches.{cached, uncached, queries_of, IsByCost}

-- ---- what passes more

and_assoc : (a b c : Bool) → ((a && b) && c) ≡ (a && (b && c))
and_assoc true b c = refl
and_assoc false b c = refl

pub passes_none : (p : Document → Bool) (d : Document) → passes_too p [] d ≡ p d
passes_none p d = and_true (p d)

pub passes_first : (p : Document → Bool) (q : Query) (qs : List Query) (d : Document)
    → passes_too (λ e. p e && top e.values q) qs d ≡ passes_too p (q ∷ qs) d
passes_first p q qs d = and_assoc (p d) (top d.values q) (list_all (top d.values) qs)

pub passes_one : (p : Document → Bool) (q : Query) (d : Document) → passes_too p (q ∷ []) d ≡ (p d && top d.values q)
passes_one p q d = ap (λ b. p d && b) (and_true (top d.values q))

pub passes_rest : (p : Document → Bool) (q : Query) (qs : List Query) (d : Document)
    → passes_too (passes_too p (q ∷ [])) qs d ≡ passes_too p (q ∷ qs) d
passes_rest p q qs d = ap (λ b. b && list_all (top d.values) qs) (passes_one p q d) ∙ passes_first p q qs d

pub passes_last : (p : Document → Bool) (qs : List Query) (q : Query) (d : Document)
    → (passes_too p qs d && top d.values q) ≡ passes_too p (qs ++ q ∷ []) d
passes_last p [] q d = ap (λ b. b && top d.values q) (and_true (p d)) ∙ sym (passes_one p q d)
passes_last p (x ∷ xs) q d =
    ap (λ b. b && top d.values q) (sym (passes_first p x xs d))
    ∙ passes_last (λ e. p e && top e.values x) xs q d ∙ passes_first p x (xs ++ q ∷ []) d

-- where none passes, none passes more
pub none_too : (p r : Document → Bool) (ds : List Document) → list_any p ds ≡ false → list_any (λ d. p d && r d) ds ≡ false
none_too p r [] none = refl
none_too p r (d ∷ ds) none =
    (elim (p d) as (λ b. (b || list_any p ds) ≡ false → ((b && r d) || list_any (λ e. p e && r e) ds) ≡ false) [
      | true ↦ λ h. cc
      | false ↦ λ h. none_too p r ds h
    ]) none

-- ---- which are evaluated

pub while_none : (ds : List Document) (p : Document → Bool) (qs : List Query) → list_any p ds ≡ false → while_some ds p qs ≡ []
while_none ds p [] none = refl
while_none ds p (q ∷ qs) none = ap (λ b. if b then q ∷ while_some ds (λ d. p d && top d.values q) qs else []) none

pub while_more : (ds : List Document) (p : Document → Bool) (qs : List Query) (q : Query)
    → while_some ds p (qs ++ q ∷ []) ≡ while_some ds p qs ++ (if list_any (passes_too p qs) ds then q ∷ [] else [])
while_more ds p [] q = ap (λ (f : Document → Bool). if list_any f ds then q ∷ [] else []) (λ i d. sym (passes_none p d) i)
while_more ds p (x ∷ xs) q =
    let next : Document → Bool = λ d. p d && top d.values x in
    (elim (list_any p ds) as (λ b. list_any p ds ≡ b → (if b then x ∷ while_some ds next (xs ++ q ∷ []) else [])
    ≡ (if b then x ∷ while_some ds next xs else []) ++ (if list_any (passes_too p (x ∷ xs)) ds then q ∷ [] else [])) [
      | true ↦ λ some.
          ap (λ l. x ∷ l) (while_more ds next xs q)
          ∙ ap (λ (f : Document → Bool). x ∷ while_some ds next xs ++ (if list_any f ds then q ∷ [] else [])) (λ i d. passes_first p x xs d i)
      | false ↦ λ none. sym (ap (λ b. if b then q ∷ [] else []) (none_too p (λ d. list_all (top d.values) (x ∷ xs)) ds none))
    ]) refl

-- the first, and then the others among what is left
pub while_joined : (ds : List Document) (p : Document → Bool) (q : Query) (qs : List Query)
    → while_some ds p (q ∷ qs) ≡ while_some ds p (q ∷ []) ++ while_some ds (passes_too p (q ∷ [])) qs
while_joined ds p q qs =
    let next : Document → Bool = λ d. p d && top d.values q in
    let same : while_some ds next qs ≡ while_some ds (passes_too p (q ∷ [])) qs = ap (λ (f : Document → Bool). while_some ds f qs) (λ i d. sym (passes_one p q d) i) in
    (elim (list_any p ds) as (λ b. list_any p ds ≡ b → (if b then q ∷ while_some ds next qs else []) ≡ (if b then q ∷ [] else []) ++ while_some ds (passes_too p (q ∷ [])) qs) [
      | true ↦ λ some. ap (λ l. q ∷ l) same
      | false ↦ λ none. sym (while_none ds (passes_too p (q ∷ [])) qs (none_too p (λ d. list_all (top d.values) (q ∷ [])) ds none))
    ]) refl

-- ---- how often they ask

pub asked_both : (qs rs : List Query) (before between after : ℕ) → AskInTurn qs before between → AskInTurn rs between after → AskInTurn (qs ++ rs) before after
asked_both [] rs before between after none asked = subst (λ n. AskInTurn rs n after) none asked
asked_both (q ∷ qs) rs before between after first asked = (first.0, first.1, asked_both qs rs first.0 between after first.2 asked)

pub asked_one : (q : Query) (before after : ℕ) → Asks (out-Query q) before after → AskInTurn (q ∷ []) before after
asked_one q before after asked = (after, asked, refl)

-- ---- what passes them all

-- of lists with the same elements
pub all_within : (t : Query → Bool) (xs ys : List Query) → ((q : Query) → Contains xs q → Contains ys q) → list_all t ys ≡ true → list_all t xs ≡ true
all_within t xs ys within pass =
    let each : AllPass t ys = AllPass-from_list_all t ys pass in
    let itself : All (Contains xs) xs = All-contains_itself xs in
    list_all-from_AllPass t xs (λ k d l. All-contains (λ q. t q ≡ true) ys _ each (within _ (itself k d l)))

alike : (a b : Bool) → (a ≡ true → b ≡ true) → (b ≡ true → a ≡ true) → a ≡ b
alike true b to from = sym (to refl)
alike false true to from = from refl
alike false false to from = refl

pub same_all : (t : Query → Bool) (xs ys : List Query) → ((q : Query) → Contains xs q → Contains ys q) → ((q : Query) → Contains ys q → Contains xs q) → list_all t xs ≡ list_all t ys
same_all t xs ys to from = alike (list_all t xs) (list_all t ys) (all_within t ys xs from) (all_within t xs ys to)

-- the key finds what the request finds
pub key_hits : (key : ResultKey) (q : Query) (fs : List Query) (d : Document) → key.q ≡ q → HasFilters key fs → is_hit key.q key.filters d ≡ is_hit q fs d
key_hits key q fs d same has =
    (λ i. top d.values (same i) && same_all (top d.values) key.filters fs (λ f. (has f).0) (λ f. (has f).1) i)

regrouped : (a b c : Bool) → (a && (b && c)) ≡ (b && (a && c))
regrouped true b c = refl
regrouped false true c = refl
regrouped false false c = refl

-- those that may be cached and those that may not
split_all : (t : Query → Bool) (fs : List Filter) → (list_all t (queries_of (cached fs)) && list_all t (queries_of (uncached fs))) ≡ list_all t (queries_of fs)
split_all t [] = refl
split_all t (f ∷ fs) =
    elim f.cached as (λ b. (list_all t (queries_of (if b then f ∷ cached fs else cached fs)) && list_all t (queries_of (if not b then f ∷ uncached fs else uncached fs))) ≡ list_all t (queries_of (f ∷ fs))) [
      | true ↦ and_assoc (t f.query) (list_all t (queries_of (cached fs))) (list_all t (queries_of (uncached fs))) ∙ ap (λ b. t f.query && b) (split_all t fs)
      | false ↦ regrouped (list_all t (queries_of (cached fs))) (t f.query) (list_all t (queries_of (uncached fs))) ∙ ap (λ b. t f.query && b) (split_all t fs)
    ]

in_any_order : (t : Query → Bool) (fs turns : List Filter) → IsPermutation fs turns → list_all t (queries_of turns) ≡ list_all t (queries_of fs)
in_any_order t fs turns moved =
    let there : IsPermutation (queries_of fs) (queries_of turns) = IsPermutation-map (λ (f : Filter). f.query) fs turns moved in
    same_all t (queries_of turns) (queries_of fs)
    (λ q h. Contains-permutation (queries_of turns) (queries_of fs) q (IsPermutation-sym (queries_of fs) (queries_of turns) there) h)
    (λ q h. Contains-permutation (queries_of fs) (queries_of turns) q there h)

-- the cached filters, the main query and the others by cost: all of them
pub hits_by_parts : (fs turns : List Filter) (q : Query) (d : Document) → IsByCost (uncached fs) turns
    → passes_too (λ e. list_all (top e.values) (queries_of (cached fs))) (q ∷ queries_of turns) d ≡ is_hit q (queries_of fs) d
hits_by_parts fs turns q d is =
    let t : Query → Bool = top d.values in
    regrouped (list_all t (queries_of (cached fs))) (t q) (list_all t (queries_of turns))
    ∙ ap (λ b. t q && b) (ap (λ b. list_all t (queries_of (cached fs)) && b) (in_any_order t (uncached fs) turns is.same) ∙ split_all t fs)
