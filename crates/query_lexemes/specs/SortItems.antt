-- The items of a sort text: a name, white space and a direction each, with commas between them.
use Rattle.std.specs.Prelude.{ℕ, ◌+◌, List, [], ◌∷◌, length, Bool, true, false, not, ◌&&◌, ◌==◌, if◌then◌else◌, Result, Ok, Err, codes}
use Rattle.std.specs.Char.{len_utf8, to_ascii_lowercase}
use Rattle.std.specs.Str.{chars}
use Rattle.query_lexemes.specs.declared.letter.Letter.{Letter}
use Rattle.query_lexemes.specs.declared.letter.Class.TheVariants as class
use Rattle.query_lexemes.specs.declared.item.SortItem.{SortItem}
use Rattle.query_lexemes.specs.Letters.{plain, stands, is_blank, run, past, skip, at_front, text_of}
use Rattle.query_lexemes.specs.Lexemes.{place, odd_place, tail}

-- the letters of the characters from a place on; nothing is an escape
unfoldable pub plain_from : ℕ → List ℕ → List Letter
plain_from at [] = []
plain_from at (c ∷ cs) = plain at c ∷ plain_from (at + len_utf8 c) cs

-- the letters of a sort text
unfoldable pub plain_letters : List ℕ → List Letter
plain_letters text = plain_from 0 (chars text)

-- the letter in either case
abbrev pub is_either : ℕ → Letter → Bool
is_either c l = not l.escaped && to_ascii_lowercase l.code == c

-- what stands behind these letters in either case, or the place of the first byte that does not go on them
unfoldable pub behind_letters : ℕ → List ℕ → List Letter → Result (List Letter) ℕ
behind_letters end [] ls = Ok ls
behind_letters end (c ∷ cs) ls = if at_front (is_either c) ls then behind_letters end cs (tail ls) else Err (place end ls)

-- a direction that reads, and what stands behind it
abbrev pub directed : Bool → Result (List Letter) ℕ → Result (Bool × List Letter) ℕ
directed down (Ok rest) = Ok (down, rest)
directed down (Err p) = Err p

-- `asc` or `desc`, which goes down, in either case
unfoldable pub direction : ℕ → List Letter → Result (Bool × List Letter) ℕ
direction end ls =
    if at_front (is_either 97) ls then directed false (behind_letters end (codes "sc") (tail ls)) else
    (if at_front (is_either 100) ls then directed true (behind_letters end (codes "esc") (tail ls)) else Err (odd_place end ls))

-- an item whose direction goes wrong at a place
abbrev pub undirected : ℕ → List ℕ → ℕ → SortItem × List Letter
undirected at name p = (record { at = at; name = name; way = Err p; more = false }, [])

-- an item behind its direction: a comma or the end stands there
unfoldable pub closed_item : ℕ → ℕ → List ℕ → Bool → List Letter → SortItem × List Letter
closed_item end at name down ls =
    if at_front (stands 44) ls then (record { at = at; name = name; way = Ok down; more = true }, tail ls) else
    (if length ls == 0 then (record { at = at; name = name; way = Ok down; more = false }, []) else undirected at name (odd_place end ls))

-- an item, given its direction
unfoldable pub directed_item : ℕ → ℕ → List ℕ → Result (Bool × List Letter) ℕ → SortItem × List Letter
directed_item end at name (Ok d) = closed_item end at name d.0 (skip d.1)
directed_item end at name (Err p) = undirected at name p

-- an item at a place, of a name and what stands behind it
unfoldable pub named_item : ℕ → ℕ → List Letter → List Letter → SortItem × List Letter
named_item end at w rest =
    if at_front is_blank rest then directed_item end at (text_of w) (direction end (skip rest)) else undirected at (text_of w) (place end rest)

-- the item that the letters begin with behind white space, and what stands behind its comma
unfoldable pub sort_item : ℕ → List Letter → SortItem × List Letter
sort_item end ls = named_item end (place end (skip ls)) (run class.Name (skip ls)) (past class.Name (skip ls))
