-- The rows of an output: one a request and one a searcher.
use Rattle.std.specs.Prelude.{ℕ, List, Bool, Option}
use Rattle.search_model.specs.declared.notes.Note.{Note}

pub data Verb : Type 0 where
  add : Verb
  delete : Verb
  query : Verb
  commit : Verb

-- what a request was answered: its place in the journal, the generation that it opened or was served from, and its ticket there; and what the caches did for it
pub record RequestRow : Type 0 where
  pub client : ℕ
  pub line : ℕ
  pub verb : Verb
  pub place : Option ℕ
  pub generation : Option ℕ
  pub ticket : Option ℕ
  pub reply : List ℕ
  pub code : ℕ
  pub found : ℕ
  pub docs : ℕ
  pub result : Option Note
  pub filters : List Note
  pub doc_hits : ℕ

-- the life of a searcher: the places of its opening and of its end, how often it was acquired, and the generation and ticket from which it was warmed
pub record SearcherRow : Type 0 where
  pub generation : ℕ
  pub opened : ℕ
  pub ended : ℕ
  pub registered : Bool
  pub acquired : ℕ
  pub from : Option (ℕ × ℕ)

pub record Output : Type 0 where
  pub requests : List RequestRow
  pub searchers : List SearcherRow
