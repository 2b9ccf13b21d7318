-- By which calls the caches of an old searcher are asked and those of a new one warmed.
use Rattle.std.specs.Prelude.{◌≡◌, ℕ, ◌+◌, ◌⊎◌, List}
use Rattle.cache_traces.specs.declared.act.Act.{Act}
use Rattle.view_cells.specs.Seats.{own_list}
use Rattle.searcher_core.specs.Shows.{Shows}
use Rattle.searcher_core.specs.declared.seats.Seats.{Seats}
use Rattle.autowarm.specs.Steps.{AreDone, Done, FilterStep, ResultStep}
use Rattle.autowarm.specs.WarmKeys.{AreWarmKeys}
use Rattle.autowarm.specs.declared.count.WarmCount.{WarmCount}
use Rattle.autowarm.specs.declared.warming.WarmPlan.{WarmPlan}
use Rattle.autowarm.specs.declared.warming.WarmReport.{WarmReport}

module _ {K N : Type 0} (Step : K → Done → List (Act K N) → List (Act K N) → Type 0) where
  -- the keys of the old cache were listed, and the wanted ones done in the new cache
  pub record IsDone (count : WarmCount) (old old' new new' : List (Act K N)) (computed refused : ℕ)
      : Type 0 where
    pub keys : List K
    pub listed : AreWarmKeys count keys old old'
    pub done : AreDone Step keys new new' computed refused

  -- memory was wanting for the list of the keys, which is one refusal, and nothing was called
  pub record IsLeft (old old' new new' : List (Act K N)) (computed refused : ℕ) : Type 0 where
    pub old_stays : old' ≡ old
    pub new_stays : new' ≡ new
    pub computed_is : computed ≡ 0
    pub refused_is : refused ≡ 1

  abbrev pub IsWarmed : WarmCount → (old old' new new' : List (Act K N)) → ℕ → ℕ → Type 0
  IsWarmed count old old' new new' computed refused =
      IsDone count old old' new new' computed refused ⊎ IsLeft old old' new new' computed refused

-- the filter cache and the result cache, as the report tells
pub record AreWarmed (w : Shows) (plan : WarmPlan) (r : WarmReport) (old old' new new' : Seats)
    : Type 0 where
  pub refused_filters : ℕ
  pub refused_results : ℕ
  pub filters :
      IsWarmed (FilterStep w.view) plan.filters (own_list old.filters) (own_list old'.filters)
      (own_list new.filters) (own_list new'.filters) r.filters refused_filters
  pub results :
      IsWarmed (ResultStep w) plan.results (own_list old.results) (own_list old'.results)
      (own_list new.results) (own_list new'.results) r.results refused_results
  pub refused : r.refused ≡ refused_filters + refused_results
