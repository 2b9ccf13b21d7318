-- What sorts, ends and queries feed a hasher.
use Rattle.std.specs.Prelude.{List, ◌++◌}
use Rattle.std.specs.Hash.{HashWrites}
use Rattle.std.specs.Hash as fed
use Rattle.field_schema.specs.declared.key.Key.{Key}
use Rattle.field_schema.specs.contracts.key.KeyHash.TheImpl as key_hash
use Rattle.query_tree.specs.declared.query.End.{End}
use Rattle.query_tree.specs.contracts.query.EndHash.TheImpl as end_hash
use Rattle.query_tree.specs.declared.query.Query.{Query, fold-Query}
use Rattle.query_tree.specs.declared.query.Query.TheOpen.{Query-F}
use Rattle.query_tree.specs.declared.query.Query.TheOpen as node
use Rattle.query_tree.specs.contracts.sort.SortKeyHash.TheImpl as sort_key_hash
use Rattle.query_tree.specs.declared.sort.SortKey.{SortKey}

-- the number of keys, then each key
abbrev pub sort_fed : List SortKey → HashWrites
sort_fed = fed.slice (sort_key_hash.ghosts).hash_input

-- what a key feeds, as the derived impl has it
abbrev pub key_fed : Key → HashWrites
key_fed k = (key_hash.ghosts).hash_input k

-- what an end feeds, as the derived impl has it
abbrev pub end_fed : End → HashWrites
end_fed e = (end_hash.ghosts).hash_input e

-- the kind, then the field, then the contents, given what the parts feed
abbrev pub layer_fed : Query-F HashWrites → HashWrites
layer_fed node.All = fed.u8 0
layer_fed (node.Exists field) = fed.u8 1 ++ fed.u32 field
layer_fed (node.Term field k) = fed.u8 2 ++ fed.u32 field ++ key_fed k
layer_fed (node.Words field ws) = fed.u8 3 ++ fed.u32 field ++ fed.slice fed.str ws
layer_fed (node.Prefix field p) = fed.u8 4 ++ fed.u32 field ++ fed.str p
layer_fed (node.Range field a b) = fed.u8 5 ++ fed.u32 field ++ end_fed a ++ end_fed b
layer_fed (node.Bool must should not_) = fed.u8 6 ++ fed.slice (λ part. part) must ++ fed.slice (λ part. part) should ++ fed.slice (λ part. part) not_

-- each layer with what its parts feed
abbrev pub query_fed : Query → HashWrites
query_fed = fold-Query HashWrites layer_fed
