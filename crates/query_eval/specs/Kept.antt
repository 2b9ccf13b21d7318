-- What an evaluation leaves as it was.
use Rattle.std.specs.Prelude.{◌≡◌, ℕ, List}
use Rattle.field_schema.specs.declared.key.Key.{Key}
use Rattle.query_tree.specs.declared.query.Query.{Query}
use Rattle.query_tree.specs.declared.query.Query.TheOpen.{Query-F}
use Rattle.query_tree.specs.declared.query.Query.TheOpen as node
use Rattle.segment_postings.specs.declared.posting.Counts.{Counts}
use Rattle.segment_postings.specs.Numbered.{Numbered}
use Rattle.segment_postings.specs.Terms.{raised}

-- the view and the terms stay, and neither a sort value nor a document was read
pub record Kept {S : Type 0} (seen : S → Numbered) (keys : S → ℕ → List Key) (counted : S → Counts) (old new : S) : Type 0 where
  pub view : seen new ≡ seen old
  pub terms : keys new ≡ keys old
  pub values : (counted new).values ≡ (counted old).values
  pub stored : (counted new).stored ≡ (counted old).stored

-- how a query changes the count of postings: `*:*` asks for none, and a key for its own once
abbrev pub Asks : Query-F Query → ℕ → ℕ → Type 0
Asks node.All before after = after ≡ before
Asks (node.Term field k) before after = after ≡ raised before
Asks layer before after = Unit {0}
