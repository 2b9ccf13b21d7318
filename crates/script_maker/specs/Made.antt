-- The script that the generator makes of a number of documents, by its recurrence.
use Rattle.std.specs.Prelude.{ℕ, zero, suc, ◌+◌, ◌*◌, ◌/◌, ◌%◌, ◌==◌, List, [], ◌∷◌, ◌++◌, if◌then◌else◌, codes, decimal}
use Rattle.script_form.specs.declared.script.What.{What}
use Rattle.script_form.specs.declared.script.What.TheVariants as what
use Rattle.script_maker.specs.declared.turn.Turn.{Turn}
use Rattle.script_maker.specs.MadeConfig.{config_line}
use Rattle.script_maker.specs.Written.{script_text}

-- ---- draws

-- a draw makes the next number of the last one
unfoldable pub number_after : ℕ → ℕ
number_after x = (1103515245 * x + 12345) % 2147483648

-- and gives its upper bits, below a bound
unfoldable pub drawn : ℕ → ℕ → ℕ
drawn x bound = (x / 65536) % bound

-- ---- turns

-- a turn draws three times
abbrev pub number_after_turn : ℕ → ℕ
number_after_turn x = number_after (number_after (number_after x))

-- the turn of that index behind the number x: its category, price and word
abbrev pub turn_behind : ℕ → ℕ → Turn
turn_behind x index = record {
  index = index;
  cat = drawn (number_after x) 7;
  price = drawn (number_after (number_after x)) 1000;
  word = drawn (number_after_turn x) 20;
}

-- the number before the turn of that index, where the first is the seed
unfoldable pub number_before : ℕ → ℕ → ℕ
number_before seed zero = seed
number_before seed (suc index) = number_after_turn (number_before seed index)

-- ---- what a turn asks for

-- a hundred turns for a client, and then for the next of twelve
abbrev pub client_at : ℕ → ℕ
client_at index = 1 + ((index / 100) % 12)

-- the document
abbrev pub add_body : Turn → List ℕ
add_body t =
    codes "{\"cat\":\"c" ++ (decimal t.cat ++
    (codes "\",\"id\":\"d" ++ (decimal t.index ++
    (codes "\",\"price\":" ++ (decimal t.price ++
    (codes ",\"t\":\"w" ++ (decimal t.word ++ codes " item\"}")))))))

-- documents of its word and its category up to its price, the cheapest first
abbrev pub query_body : Turn → List ℕ
query_body t =
    codes "q=t:w" ++ (decimal t.word ++
    (codes "&fq=cat:c" ++ (decimal t.cat ++
    (codes "&fq=price:[*+TO+" ++ (decimal t.price ++ codes "]&sort=price+asc&fl=id,price")))))

abbrev pub add_line : Turn → What
add_line t = what.Add (client_at t.index) (add_body t)

abbrev pub query_line : Turn → What
query_line t = what.Query (client_at t.index) (query_body t)

-- the last of ten turns queries
abbrev pub query_lines : Turn → List What
query_lines t = if (t.index % 10) == 9 then query_line t ∷ [] else []

-- the last of a hundred commits and ends the phase
abbrev pub commit_lines : Turn → List What
commit_lines t =
    if (t.index % 100) == 99 then what.Commit (client_at t.index) [] ∷ what.PhaseEnd ∷ [] else []

abbrev pub turn_lines : Turn → List What
turn_lines t = add_line t ∷ (query_lines t ++ commit_lines t)

-- ---- the script

-- what the first turns ask for
unfoldable pub turns : ℕ → ℕ → List What
turns seed zero = []
turns seed (suc index) = turns seed index ++ turn_lines (turn_behind (number_before seed index) index)

-- the phase ends, and client 1 commits and asks for all documents
abbrev pub last_lines : List What
last_lines = what.PhaseEnd ∷ what.Commit 1 [] ∷ what.Query 1 (codes "q=*:*&rows=0") ∷ []

-- what the script of so many documents asks for; that number is the seed
abbrev pub made_lines : ℕ → List What
made_lines n = turns n n ++ last_lines

-- the configuration and the line behind it
abbrev pub made_head : List ℕ
made_head = config_line ++ codes "\n%%\n"

-- the text of the configuration and the script
unfoldable pub made : ℕ → List ℕ
made n = made_head ++ script_text (made_lines n)
