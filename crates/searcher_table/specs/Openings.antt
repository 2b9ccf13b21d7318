-- What contracts say of openings, and of those that are refused.
use Rattle.std.specs.Prelude.{◌≡◌, ℕ, ◌+◌, ◌<◌, List, [], length}
use Rattle.std.specs.List.{AllByRecursion}
use Rattle.registry_machine.specs.declared.entry.Entry.TheVariants.{Open, TooMany, GenerationsSpent}
use Rattle.searcher_table.specs.declared.board.Call.TheVariants.{Open as ToOpen}
use Rattle.searcher_table.specs.declared.shown.Shown.{Ghosts}
use Rattle.searcher_table.specs.declared.registrar.Registrar.{Registrar}
use Rattle.searcher_table.specs.declared.tokens.Announced.{Announced}
use Rattle.searcher_table.specs.declared.tokens.Opening.{Opening}
use Rattle.searcher_table.specs.declared.tokens.Sighting.{Sighting}
use Rattle.searcher_table.specs.declared.tokens.OpenRefusal.{OpenRefusal}
use Rattle.searcher_table.specs.declared.tokens.OpenRefusal.TheVariants.{TooMany as AsTooMany, GenerationsSpent as AsSpent}
use Rattle.searcher_table.specs.Words.{last_generation}
use Rattle.searcher_table.specs.Warming.{listed, last_in, warming_in}
use Rattle.searcher_table.specs.Passes.{sighted, sighted_at}
use Rattle.searcher_table.specs.Registrars.{table_of, plan_of, seen_of, places_of, HasEntry}

module _ {D U W X L : Type 0} where
  -- the generations that are warming after what the registrar has seen
  abbrev pub warming_of : Registrar D U W X L → List ℕ
  warming_of r = warming_in (plan_of r) (seen_of r)

  -- the one that was opened last
  abbrev pub last_of : Registrar D U W X L → ℕ
  last_of r = last_in (plan_of r) (seen_of r)

  -- there is room for one more warming generation
  abbrev pub HasRoom : Registrar D U W X L → Type 0
  HasRoom r = length (warming_of r) < (plan_of r).max_warming

  -- there is room, and a generation is left
  pub record MayOpen (r : Registrar D U W X L) : Type 0 where
    pub room : HasRoom r
    pub left : last_of r < last_generation

  -- one door for each caller; they show the table's setting and the same documents, and nothing was done through them
  pub record AreDoors (setting : D → W) (docs : D → X) (list : D → List L) (r : Registrar D U W X L) (doors : List D) : Type 0 where
    pub count : length doors ≡ (plan_of r).callers
    pub settings : AllByRecursion (λ d. setting d ≡ (plan_of r).setting.value) doors
    pub same : (shown : X) × AllByRecursion (λ d. docs d ≡ shown) doors
    pub unused : AllByRecursion (λ d. list d ≡ []) doors

module _ {D U W X L : Type 0} {shows : Ghosts D W X L} where
  -- the call is an opening that was announced at this table
  pub record IsOpenHere (r : Registrar D U W X L) (a : Announced D U W X L shows) : Type 0 where
    pub table : a.place.table_id ≡ table_of r
    pub call : a.asked.call ≡ ToOpen

  -- the next generation was opened in some slot, and its entry carries the documents that the doors show
  pub record HasOpened (docs : D → X) (s t : Registrar D U W X L) (a : Announced D U W X L shows) (doors : List D) (o : Opening D U W X L) : Type 0 where
    pub slot : ℕ
    pub shown : X
    pub entry : HasEntry s t a (Open a.caller a.asked.content o.generation slot shown)
    pub doors_show : AllByRecursion (λ d. docs d ≡ shown) doors
    pub generation : o.generation ≡ last_of s + 1
    pub place : o.at ≡ places_of s
    pub may : MayOpen s
    pub seen : o.seat.me.0.seen ≡ seen_of t
    pub table : o.seat.table_id ≡ table_of t

  -- as many generations are warming as may be, and these are told
  pub record IsTooMany (s t : Registrar D U W X L) (a : Announced D U W X L shows) (at : ℕ) (gs : List ℕ) : Type 0 where
    pub entry : HasEntry s t a (TooMany a.caller a.asked.content gs)
    pub place : at ≡ places_of s
    pub told : gs ≡ warming_of s
    pub full : length gs ≡ (plan_of s).max_warming

  -- there is room, and the last generation had been opened
  pub record IsSpent (s t : Registrar D U W X L) (a : Announced D U W X L shows) (at : ℕ) : Type 0 where
    pub entry : HasEntry s t a (GenerationsSpent a.caller a.asked.content)
    pub place : at ≡ places_of s
    pub room : HasRoom s
    pub last : last_of s ≡ last_generation

  -- the opening was refused, and has its entry
  abbrev pub IsRefused : Registrar D U W X L → Registrar D U W X L → Announced D U W X L shows → OpenRefusal → Type 0
  IsRefused s t a (AsTooMany at gens) = IsTooMany s t a at (listed gens)
  IsRefused s t a (AsSpent at) = IsSpent s t a at

module _ {D U W X L : Type 0} where
  -- one opening, which has seen what it had seen
  pub record IsSameOpening (o p : Opening D U W X L) : Type 0 where
    pub generation : p.generation ≡ o.generation
    pub place : p.at ≡ o.at
    pub table : p.seat.table_id ≡ o.seat.table_id
    pub seen : p.seat.me.0.seen ≡ o.seat.me.0.seen

module _ {D U W X L : Type 0} {shows : Ghosts D W X L} where
  -- the sighting carries what the opening has seen
  pub record IsNoteOf (o : Opening D U W X L) (note : Sighting D U W X L shows) : Type 0 where
    pub table : sighted_at note ≡ o.seat.table_id
    pub seen : sighted note ≡ o.seat.me.0.seen
