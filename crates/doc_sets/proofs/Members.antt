-- The list of a set's members, for callers.
use Rattle.std.proofs.Common.{◌≡◌, ℕ, ◌+◌, ◌<◌, true, List, All, arith}
use Rattle.std.specs.List.Sorted.{IsStrictlyIncreasing}
use Rattle.std.specs.FinSet.{contains}
use Rattle.std.proofs.lemmas.List.Elements.{All-from_get_or}
use Rattle.doc_sets.specs.Sets.{Numbers, members_below, members, AreDocuments, is_in, Rises, IsAscending, IsListing}
use Rattle.doc_sets.specs.declared.TheConstants.{MAX_DOCS}
use Rattle.doc_sets.proofs.Rising.{is_in-filter-range, Rises-filter-range, Rises-at, Rises-apart}

Rises-members_below : (limit : ℕ) (s : Numbers) → Rises 0 limit (members_below limit s)
unfolding members_below
Rises-members_below limit s = Rises-filter-range (contains s) limit

is_in-members_below : (limit : ℕ) (s : Numbers) (n : ℕ) → (contains s n ≡ true → n < limit) → is_in (members_below limit s) n ≡ contains s n
unfolding members_below
is_in-members_below limit s n within = is_in-filter-range (contains s) limit n within

pub ascending-members : (s : Numbers) → IsAscending (members s)
ascending-members s = Rises-members_below MAX_DOCS s

pub is_in-members : (s : Numbers) (n : ℕ) → AreDocuments s → is_in (members s) n ≡ contains s n
is_in-members s n within = is_in-members_below MAX_DOCS s n (within n)

-- an ascending list of documents' numbers, in std's words
pub increasing : (xs : List ℕ) → IsAscending xs → IsStrictlyIncreasing xs
increasing xs r k p = Rises-apart 0 MAX_DOCS k (k + 1) xs r (omega arith) p

pub all_documents : (xs : List ℕ) → IsAscending xs → All (λ n. n < MAX_DOCS) xs
all_documents xs r = All-from_get_or (λ n. n < MAX_DOCS) xs 0 (λ i p. (Rises-at 0 MAX_DOCS i xs r p).1)

pub listing_of : (s : Numbers) → AreDocuments s → IsListing s (members s)
listing_of s within = record {
  rising = increasing (members s) (ascending-members s);
  documents = all_documents (members s) (ascending-members s);
  same = λ n. is_in-members s n within;
}
