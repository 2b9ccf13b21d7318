-- The lines of the output, piece by piece.
use Rattle.std.specs.Prelude.{◌≡◌, ℕ, List, [], ◌++◌, Bool, true, false, not, Option, Some, None, codes, decimal}
use Rattle.std.specs.List.{flat_map}
use Rattle.run_laws.specs.Rows.{RequestRow, SearcherRow}

-- the text has grown by a piece
pub record Grows (old new piece : List ℕ) : Type 0 where
  pub is : new ≡ old ++ piece

-- the lines of rows, of each what it is seen as
abbrev pub lines_of : {A R : Type 0} → (A → R) → (R → List ℕ) → List A → List ℕ
lines_of seen line rows = flat_map (λ r. line (seen r)) rows

-- a piece with a number, where there is one
abbrev pub optional_piece : List ℕ → Option ℕ → List ℕ
optional_piece name None = []
optional_piece name (Some n) = name ++ decimal n

abbrev pub number_piece : List ℕ → ℕ → List ℕ
number_piece name n = name ++ decimal n

abbrev pub request_line : RequestRow → List ℕ
request_line r =
    number_piece (codes "{\"client\":") r.client ++
    (optional_piece (codes ",\"generation\":") r.generation ++
    (number_piece (codes ",\"line\":") r.line ++
    (optional_piece (codes ",\"place\":") r.place ++
    (codes ",\"reply\":" ++ (r.reply ++
    (optional_piece (codes ",\"ticket\":") r.ticket ++ codes "}\n"))))))

abbrev pub from_piece : Option (ℕ × ℕ) → List ℕ
from_piece None = []
from_piece (Some pin) = number_piece (codes ",\"from\":") pin.0 ++ number_piece (codes ",\"fromTicket\":") pin.1

abbrev pub end_piece : Bool → List ℕ → ℕ → List ℕ
end_piece true name n = number_piece name n
end_piece false name n = []

abbrev pub searcher_line : SearcherRow → List ℕ
searcher_line s =
    number_piece (codes "{\"acquired\":") s.acquired ++
    (end_piece s.registered (codes ",\"finished\":") s.ended ++
    (from_piece s.from ++
    (number_piece (codes ",\"generation\":") s.generation ++
    (number_piece (codes ",\"opened\":") s.opened ++
    (end_piece (not s.registered) (codes ",\"superseded\":") s.ended ++ codes "}\n")))))
