-- Each readable query is read back.
use Rattle.std.proofs.Common.{◌≡◌, [], ℕ, List, arith}
use Rattle.field_schema.specs.declared.field.Field.{Field}
use Rattle.query_tree.specs.declared.query.Query.{Query}
use Rattle.query_tree.specs.declared.query.Query.TheVariants as query
use Rattle.query_tree.specs.declared.query.Query.TheOpen as node
use Rattle.query_tree.specs.declared.query.Query.TheViews as views
use Rattle.query_text.specs.declared.op.Op.TheVariants as op
use Rattle.query_text.specs.Clauses.{joined}
use Rattle.query_text.specs.Printing.{part_text, printed}
use Rattle.query_text.specs.PrintLaws.{PrintsBack}
use Rattle.query_text.specs.Readable.{IsLeaf, every, exists, term, words, prefix, range, AreReadable, no_more, one_more, group, IsReadable, alone, blank, bool, ReadablePrintsBack}
use Rattle.query_text.proofs.Parts.{top_along}
use Rattle.query_text.proofs.Printed.{Part, part_named, spelled_from, star_value}
use Rattle.query_text.proofs.Tops.{part_all, part_term, part_words, top_part}
use Rattle.query_text.proofs.Prefixes.{part_prefix}
use Rattle.query_text.proofs.RangeParts.{part_range}
use Rattle.query_text.proofs.Groups.{AllParts}
use Rattle.query_text.proofs.Joined.{all_clauses, joined_all, sorted_all}
use Rattle.query_text.proofs.Bools.{part_bool, top_bool}

module _ (fields : List Field) (most : ℕ) where
  leaf_part : (d : ℕ) {q : Query} → IsLeaf fields q → Part fields most d q
  leaf_part d every = part_all fields most d
  leaf_part d (exists f named) = part_named fields most f (query.Exists f) (spelled_from fields f named) (star_value fields most f) d
  leaf_part d (term f k named whole key) = part_term fields most d f k named whole key
  leaf_part d (words f ws named text utf8 same) = part_words fields most d f ws named text utf8 same
  leaf_part d (prefix f text named h) = part_prefix fields most f text h d named
  leaf_part d (range f a b named h k some) = part_range fields most f d a b named h k some

  -- a query without parts stands alone as it stands among others
  leaf_alone : {q : Query} → IsLeaf fields q → printed fields q ≡ part_text fields q
  leaf_alone every = top_along fields query.All node.All views.outs-All
  leaf_alone (exists f named) = top_along fields (query.Exists f) (node.Exists f) (views.outs-Exists f)
  leaf_alone (term f k named whole key) = top_along fields (query.Term f k) (node.Term f k) (views.outs-Term f k)
  leaf_alone (words f ws named text utf8 same) = top_along fields (query.Words f ws) (node.Words f ws) (views.outs-Words f ws)
  leaf_alone (prefix f text named h) = top_along fields (query.Prefix f text) (node.Prefix f text) (views.outs-Prefix f text)
  leaf_alone (range f a b named h k some) = top_along fields (query.Range f a b) (node.Range f a b) (views.outs-Range f a b)

  all_parts : {d : ℕ} {qs : List Query} → AreReadable fields most d qs → AllParts fields most d qs
  all_parts no_more = tt
  all_parts (one_more {d = d} q qs h rest) = (leaf_part d h, all_parts rest)
  all_parts (group {d = d} must should not_ qs m s n several room rest) =
      (part_bool fields most d must should not_ (all_parts m) (all_parts s) (all_parts n) several room, all_parts rest)

  blank_joined : joined op.Or (all_clauses [] [] []) ≡ views.Bool [] [] []
  unfolding joined
  blank_joined = sorted_all [] [] []

  pub reads_back : {q : Query} → IsReadable fields most q → PrintsBack fields most q
  reads_back (alone q room h) = top_part fields most 0 q (leaf_part 0 h) (omega arith) room (leaf_alone h)
  reads_back blank = top_bool fields most 64 [] [] [] tt tt tt (omega arith) (omega arith) blank_joined
  reads_back (bool must should not_ m s n several room) =
      top_bool fields most 64 must should not_ (all_parts m) (all_parts s) (all_parts n) (omega arith) room (joined_all must should not_ several)

pub readable_prints : (fields : List Field) → ReadablePrintsBack fields
readable_prints fields most q h = reads_back fields most h
