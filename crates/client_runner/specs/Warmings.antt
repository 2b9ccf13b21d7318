-- How a new searcher is warmed, and listened to.
use Rattle.std.specs.Prelude.{ℕ, if◌then◌else◌}
use Rattle.std.specs.Arc.{arc_value}
use Rattle.script_form.specs.declared.config.Config.{Config}
use Rattle.script_form.specs.declared.config.WarmSetting.{WarmSetting}
use Rattle.autowarm.specs.declared.count.WarmCount.{WarmCount}
use Rattle.autowarm.specs.declared.count.WarmCount.TheVariants.{Count, Percent}
use Rattle.autowarm.specs.declared.warming.WarmPlan.{WarmPlan}
use Rattle.autowarm.specs.declared.warming.WarmReport.{WarmReport}
use Rattle.autowarm.specs.Listening.{AreHeard}
use Rattle.autowarm.specs.Warming.{AreWarmed}
use Rattle.searcher_core.specs.Doors.{AreNew}
use Rattle.searcher_core.specs.declared.searcher.Door.{Door}
use Rattle.searcher_core.specs.declared.seats.Seats.{Seats}

abbrev pub count_of : WarmSetting → WarmCount
count_of s = if s.percent then Percent s.number else Count s.number

-- how many keys of each cache the configuration wants regenerated
abbrev pub plan_of : Config → WarmPlan
plan_of c = record { filters = count_of c.filter_warm; results = count_of c.result_warm }

-- The new door's caches kept nothing, were warmed from these seats' ones, and then served the listeners' requests.
pub record IsWarmedBy (c : Config) (old old' : Seats) (d : Door) : Type 0 where
  pub unused : Seats
  pub warm : Seats
  pub report : WarmReport
  pub served : ℕ
  pub is_unused : AreNew 0 unused
  pub warmed : AreWarmed (arc_value d.searcher) (plan_of c) report old old' unused warm
  pub heard : AreHeard (arc_value d.searcher) c.fresh served warm d.seats
