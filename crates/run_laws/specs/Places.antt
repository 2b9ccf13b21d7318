-- The places of the journal, read off the rows.
use Rattle.std.specs.Prelude.{ℕ, List, [], ◌∷◌, ◌++◌, length, take, map, filter, Bool, false, ◌&&◌, ◌==◌, nat_lt, nat_le, if◌then◌else◌, Option, Some, None}
use Rattle.std.specs.List.{filter_map, range_with_len}
use Rattle.std.specs.Option.{option_map_or}
use Rattle.std.specs.Result.{result_unwrap_or}
use Rattle.doc_model.specs.Document.{Document}
use Rattle.search_model.specs.Live.{Change, nothing, view_at}
use Rattle.script_form.specs.declared.config.Config.{Config}
use Rattle.run_laws.specs.Rows.{SearcherRow, Output}
use Rattle.run_laws.specs.Calls.{Told}
use Rattle.run_laws.specs.CallReadings.{update_of}

abbrev pub is_some_of : ℕ → Option ℕ → Bool
is_some_of n None = false
is_some_of n (Some m) = n == m

-- the places that are taken: those of the requests, of the first opening, and of the ends of searchers
abbrev pub places : Output → List ℕ
places o = take 1 (map (λ s. s.opened) o.searchers) ++ map (λ s. s.ended) o.searchers ++ filter_map (λ r. r.place) o.requests

abbrev pub place_count : Output → ℕ
place_count o = length (places o)

-- ---- searchers

-- where the searcher of a generation was opened, and where it ended
abbrev pub opened_of : ℕ → List SearcherRow → Option ℕ
opened_of g [] = None
opened_of g (s ∷ ss) = if g == s.generation then Some s.opened else opened_of g ss

abbrev pub ended_of : ℕ → List SearcherRow → Option ℕ
ended_of g [] = None
ended_of g (s ∷ ss) = if g == s.generation then Some s.ended else ended_of g ss

-- of two searchers the one that ended last
abbrev pub later : SearcherRow → Option SearcherRow → SearcherRow
later s None = s
later s (Some t) = if nat_le s.ended t.ended then t else s

-- the last one registered at a place up to p
abbrev pub last_registered : ℕ → List SearcherRow → Option SearcherRow
last_registered p [] = None
last_registered p (s ∷ ss) = if s.registered && nat_le s.ended p then Some (later s (last_registered p ss)) else last_registered p ss

-- the generation that is current at place p, or 0 where none is
abbrev pub current_at : ℕ → List SearcherRow → ℕ
current_at p ss = option_map_or (λ s. s.generation) (last_registered p ss) 0

-- the generations that are warming at place p, ascending
abbrev pub warming : ℕ → List SearcherRow → List ℕ
warming p ss = map (λ s. s.generation) (filter (λ s. nat_lt s.opened p && nat_lt p s.ended) ss)

-- ---- the journal

-- what an update's row changed
abbrev pub change_of : Config → Told → Change
change_of c t = result_unwrap_or (update_of c t.call) nothing

-- what the row with place p changed
abbrev pub change_at : Config → ℕ → List Told → Change
change_at c p [] = nothing
change_at c p (t ∷ ts) = if is_some_of p t.row.place then change_of c t else change_at c p ts

-- the changes by place
abbrev pub journal : Config → List Told → Output → List Change
journal c told o = map (λ p. change_at c p told) (range_with_len 0 (place_count o))

-- the documents that the searcher of a generation sees
abbrev pub view_of : Config → List Told → Output → ℕ → List Document
view_of c told o g = option_map_or (view_at (journal c told o)) (opened_of g o.searchers) []
