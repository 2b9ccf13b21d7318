-- A view as a row of segments and the set of its live documents.
use Rattle.std.specs.Prelude.{◌≡◌, ℕ, ◌+◌, ◌-◌, ◌<◌, ◌≤◌, not, ◌&&◌, ◌||◌, Bool, List, [], ◌++◌, true, map, filter, fold, length, take, drop, sum, nat_lt, All, if◌then◌else◌}
use Rattle.std.specs.List.{enumerate_from, flat_map}
use Rattle.std.specs.FinSet.{contains}
use Rattle.field_schema.specs.declared.key.Key.{Key}
use Rattle.field_schema.specs.Values.{values_at}
use Rattle.doc_model.specs.Document.{Document}
use Rattle.doc_sets.specs.Sets.{Numbers}
use Rattle.doc_sets.specs.declared.TheConstants.{MAX_DOCS}
use Rattle.segment_postings.specs.declared.packing.Packing.{Packing}
use Rattle.segment_postings.specs.Numbered.{Numbered, IsLive}
use Rattle.segment_postings.specs.Segments.{Part, IsPart}
use Rattle.segment_postings.specs.Terms.{put_key}

-- what contracts see of a view: its numbered documents, and for each segment the keys in each field, and how many
-- documents it holds, deleted ones too
pub record Indexed : Type 0 where
  pub seen : Numbered
  pub keys : List (List (List Key))
  pub held : List ℕ

-- the terms of a field: the keys of all segments, ascending, each once
abbrev pub terms_of : List (List (List Key)) → ℕ → List Key
terms_of keys field = fold put_key [] (flat_map (λ part. values_at part field) keys)

-- the documents of all segments
abbrev pub all_docs : List Part → List Document
all_docs parts = flat_map (λ p. p.docs) parts

-- the documents whose numbers are in the set
abbrev pub numbered : Numbers → List Document → Numbered
numbered live docs = record { list = filter (λ e. contains live e.0) (enumerate_from 0 docs); size = length docs }

-- what contracts see of segments with a set of live documents
abbrev pub indexed : Numbers → List Part → Indexed
indexed live parts = record {
  seen = numbered live (all_docs parts);
  keys = map (λ p. p.keys) parts;
  held = map (λ p. length p.docs) parts;
}

-- those of the documents, numbered from `base` on, whose numbers are in the set
abbrev pub live_from : Numbers → ℕ → List Document → List Document
live_from live base docs = map (λ e. e.1) (filter (λ e. contains live e.0) (enumerate_from base docs))

-- what each view is
pub record IsView (alive : Numbers) (count : ℕ) (parts : List Part) : Type 0 where
  pub size : count ≡ length (all_docs parts)
  pub most : count ≤ MAX_DOCS
  pub live : (n : ℕ) → contains alive n ≡ true → n < count
  pub filled : All (λ p. 0 < length p.docs) parts
  pub lawful : All IsPart parts

-- the numbers of `live` that are not gone, and `count` more from `size` on
pub record AddsNumbers (live gone : Numbers) (size count : ℕ) (s : Numbers) : Type 0 where
  pub older : (n : ℕ) → n < size → contains s n ≡ (contains live n && not (contains gone n))
  pub newer : (n : ℕ) → size ≤ n → n < size + count → contains s n ≡ true
  pub within : (n : ℕ) → contains s n ≡ true → n < size + count

-- the parts, and at most one more, of the added documents
pub record AddsPart (old : List Part) (added : List Document) (parts : List Part) : Type 0 where
  pub docs : all_docs parts ≡ all_docs old ++ added
  pub filled : All (λ p. 0 < length p.docs) old → All (λ p. 0 < length p.docs) parts
  pub lawful : All IsPart old → All IsPart parts
  pub few : length parts ≤ length old + 1

-- fewer parts: some documents in place of those of two neighbours
pub record Merges (old : List Part) (at : ℕ) (kept : List Document) (parts : List Part) : Type 0 where
  pub docs : all_docs parts ≡ (all_docs (take at old) ++ kept) ++ all_docs (drop (at + 2) old)
  pub filled : All (λ p. 0 < length p.docs) old → All (λ p. 0 < length p.docs) parts
  pub lawful : All IsPart old → All IsPart parts
  pub fewer : length parts < length old

-- the documents of the two neighbours at `at`
abbrev pub pair_docs : List Part → ℕ → List Document
pair_docs parts at = all_docs (take 2 (drop at parts))

-- the live ones of two neighbours' documents stay, in place of them all
pub record Packs (alive : Numbers) (old : List Part) (at : ℕ) (stay : List Document) (p : Packing) : Type 0 where
  pub start : p.start ≡ length (all_docs (take at old))
  pub count : p.count ≡ length (pair_docs old at)
  pub kept : p.kept ≡ length stay
  pub lives : stay ≡ live_from alive p.start (pair_docs old at)

-- documents are kept of some that stand below `size`, and where all are kept all are live
pub record IsPacking (alive : Numbers) (size : ℕ) (p : Packing) : Type 0 where
  pub few : p.kept ≤ p.count
  pub within : p.start + p.count ≤ size
  pub most : size ≤ MAX_DOCS
  pub live : (n : ℕ) → contains alive n ≡ true → n < size
  pub full : p.kept ≡ p.count → (n : ℕ) → p.start ≤ n → n < p.start + p.count → contains alive n ≡ true

-- the number is live as documents are packed
abbrev pub is_moved : Numbers → Packing → ℕ → Bool
is_moved live p n =
    if nat_lt n p.start
    then contains live n
    else (nat_lt n (p.start + p.kept) || contains live (n + (p.count - p.kept)))

-- the numbers before those of the documents that are packed, these, and those behind them, moved down
pub record Moves (live : Numbers) (p : Packing) (s : Numbers) : Type 0 where
  pub before : (n : ℕ) → n < p.start → contains s n ≡ contains live n
  pub packed : (n : ℕ) → p.start ≤ n → n < p.start + p.kept → contains s n ≡ true
  pub behind : (n : ℕ) → p.start + p.kept ≤ n → contains s n ≡ contains live (n + (p.count - p.kept))

-- where the documents of two neighbouring segments were, each number is of a live document
abbrev pub IsPacked : Indexed → ℕ → Numbered → Type 0
IsPacked old at new =
    (n : ℕ) → sum (take at old.held) ≤ n → n + old.seen.size < sum (take (at + 2) old.held) + new.size → IsLive new n
