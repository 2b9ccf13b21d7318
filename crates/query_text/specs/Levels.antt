-- A query that is being read: its clauses so far and what stands before the next one.
use Rattle.std.specs.Prelude.{ℕ, [], ◌∷◌, ◌++◌, length, Bool, true, false, not, ◌&&◌, ◌==◌, Option, None, is_none}
use Rattle.query_tree.specs.declared.query.Query.{Query}
use Rattle.query_text.specs.declared.level.Level.{Level}
use Rattle.query_text.specs.declared.level.Target.{Target}
use Rattle.query_text.specs.declared.level.Target.TheVariants.{Here, Every, To}

-- the field of a value behind what stands before it
abbrev pub target_field : Option ℕ → Target → Option ℕ
target_field field Here = field
target_field field Every = None
target_field field (To named) = named

abbrev pub is_own : Target → Bool
is_own Here = true
is_own Every = false
is_own (To named) = false

-- the field of the next value
abbrev pub field_for : Level → Option ℕ
field_for l = target_field l.field l.target

-- no field stands before the next value by itself
abbrev pub is_here : Level → Bool
is_here l = is_own l.target

abbrev pub has_name : Bool → Target → Bool
has_name named Here = named
has_name named Every = true
has_name named (To field) = true

-- a field stands before the next value, or before a query that it is in
abbrev pub is_explicit : Level → Bool
is_explicit l = has_name l.named l.target

-- what comes next is the first of a clause
abbrev pub begins : Level → Bool
begins l = is_here l && is_none l.sign

-- nothing stands before the next clause
abbrev pub is_between : Level → Bool
is_between l = begins l && is_none l.conj

-- a conjunction or the end can stand behind a clause here
abbrev pub joins : Level → Bool
joins l = is_between l && not (length l.clauses == 0)

-- the whole text's query, before its first clause
abbrev pub top : Option ℕ → Level
top df = record { field = df; named = false; clauses = []; conj = None; sign = None; target = Here }

-- a query in parentheses, before its first clause
abbrev pub inside : Level → Level
inside l = record { field = field_for l; named = is_explicit l; clauses = []; conj = None; sign = None; target = Here }

-- with one more clause
abbrev pub put : Level → Query → Level
put l q = record l { clauses = l.clauses ++ (record { before = l.conj; sign = l.sign; query = q }) ∷ []; conj = None; sign = None; target = Here }
