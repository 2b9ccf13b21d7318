-- Documents as values of a cache.
use Rattle.std.specs.Prelude.{ℕ, ◌+◌, Bool, true, nat_eq, Option}
use Rattle.std.specs.Map.{lookup}
use Rattle.doc_model.specs.Document.{Document, value_count}
use Rattle.cache_machine.specs.Machine.{Kept, with_entries, brought_first, stored}

-- what an entry weighs: 1, and 1 for each value of the document in all its fields
abbrev pub document_weight : Document → ℕ
document_weight d = 1 + value_count d

-- every document serves
abbrev pub any_document : Document → Bool
any_document d = true

-- the document of a number, if it is kept
abbrev pub document_of : ℕ → Kept ℕ Document → Option Document
document_of number c = lookup (nat_eq number) c.entries

-- the document of the number comes first
abbrev pub document_used : ℕ → Kept ℕ Document → Kept ℕ Document
document_used number c = with_entries c (brought_first nat_eq number c.entries)

abbrev pub document_stored : ℕ → Document → Kept ℕ Document → Kept ℕ Document
document_stored number d c = stored nat_eq document_weight number d c
