-- Which sort a text reads to, and its first fault.
use Rattle.std.specs.Prelude.{ℕ, zero, suc, ◌+◌, List, [], ◌∷◌, ◌++◌, length, Bool, true, false, ◌||◌, ◌==◌, if◌then◌else◌, Option, Some, None, Result, Ok, Err, codes, slice_get}
use Rattle.std.specs.Option.{option_map_or}
use Rattle.field_schema.specs.declared.field.Field.{Field}
use Rattle.field_schema.specs.Bytes.{bytes_eq}
use Rattle.field_schema.specs.Schema.{field_named}
use Rattle.query_tree.specs.declared.sort.SortBy.{SortBy}
use Rattle.query_tree.specs.declared.sort.SortBy.TheVariants as by
use Rattle.query_tree.specs.declared.sort.SortKey.{SortKey}
use Rattle.query_lexemes.specs.declared.letter.Letter.{Letter}
use Rattle.query_lexemes.specs.declared.item.SortItem.{SortItem}
use Rattle.query_lexemes.specs.Letters.{skip}
use Rattle.query_lexemes.specs.SortItems.{plain_letters, sort_item}
use Rattle.query_text.specs.declared.sort_text.SortFault.{SortFault}
use Rattle.query_text.specs.declared.sort_text.SortFault.TheVariants as fault
use Rattle.query_text.specs.Readings.{is_text}

-- want of memory is no fault of the text
abbrev pub is_no_sort_memory : SortFault → Bool
is_no_sort_memory (fault.BadSort at) = false
is_no_sort_memory (fault.UnknownField at) = false
is_no_sort_memory (fault.NotSortable at) = false
is_no_sort_memory fault.NoMemory = true

-- to sort by a field, which is neither of tokens nor of several values
abbrev pub by_field : ℕ → ℕ → Option Field → Result (Option SortBy) SortFault
by_field at n None = Err (fault.UnknownField at)
by_field at n (Some f) = if is_text f.kind || f.multi then Err (fault.NotSortable at) else Ok (Some (by.Field n))

-- what a name at a place sorts by; nothing where it is `score`
unfoldable pub sort_by : List Field → ℕ → List ℕ → Result (Option SortBy) SortFault
sort_by fields at name =
    if bytes_eq name (codes "score") then Ok None else
    (if bytes_eq name (codes "_docid_") then Ok (Some by.DocId) else
    option_map_or (λ n. by_field at n (slice_get fields n)) (field_named name fields) (Err (fault.UnknownField at)))

-- the keys of an item that sorts by something, given its direction
abbrev pub keys_by : Option SortBy → Result Bool ℕ → Result (List SortKey) SortFault
keys_by b (Err p) = Err (fault.BadSort p)
keys_by None (Ok down) = Ok []
keys_by (Some b) (Ok down) = Ok (record { by = b; down = down } ∷ [])

-- the same, where the name may have a fault, which stands before that of the direction
abbrev pub keys_named : Result (Option SortBy) SortFault → Result Bool ℕ → Result (List SortKey) SortFault
keys_named (Ok b) way = keys_by b way
keys_named (Err e) way = Err e

-- the keys of an item, or its first fault
unfoldable pub item_keys : List Field → SortItem → Result (List SortKey) SortFault
item_keys fields x = if length x.name == 0 then Err (fault.BadSort x.at) else keys_named (sort_by fields x.at x.name) x.way

-- go on with what was read
abbrev pub and_then : {A B E : Type 0} → Result A E → (A → Result B E) → Result B E
and_then (Ok x) f = f x
and_then (Err e) f = Err e

-- the keys of at most n items behind those before
unfoldable pub sort_from : ℕ → List Field → ℕ → List SortKey → List Letter → Result (List SortKey) SortFault
sort_from zero fields end keys ls = Ok keys
sort_from (suc n) fields end keys ls =
    and_then (item_keys fields (sort_item end ls).0)
    (λ more. if ((sort_item end ls).0).more then sort_from n fields end (keys ++ more) (sort_item end ls).1 else Ok (keys ++ more))

-- the sort of the letters of a text that ends at a place; a blank text has no item
unfoldable pub letters_sort : List Field → ℕ → List Letter → Result (List SortKey) SortFault
letters_sort fields end ls = if length (skip ls) == 0 then Ok [] else sort_from (length ls + 1) fields end [] ls

-- the sort of a text
abbrev pub sort_of : List Field → List ℕ → Result (List SortKey) SortFault
sort_of fields text = letters_sort fields (length text) (plain_letters text)
