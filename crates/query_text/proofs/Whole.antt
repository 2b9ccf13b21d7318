-- A whole text, given by its characters, reads to the query that its lexemes read to.
use Rattle.std.proofs.Common.{◌≡◌, ◌+◌, ◌<◌, ◌∷◌, [], ℕ, zero, suc, List, Bool, true, false, Option, None, Ok, length, refl, ap, ◌∙◌, arith, pos}
use lib.Utf8.{encodes, scalars}
use Rattle.std.proofs.lemmas.Str.{chars-encodes}
use Rattle.query_tree.specs.declared.query.Query.{Query}
use Rattle.query_lexemes.specs.Letters.{letters, at_front, stands}
use Rattle.query_lexemes.specs.Lexemes.{lexemes}
use Rattle.query_lexemes.specs.declared.lexeme.What.TheVariants as what
use Rattle.query_lexemes.proofs.Shapes.{Shape, lay, width, chars_of, IsSound, laid}
use Rattle.query_lexemes.proofs.Pieces.{finish_is, nothing_skipped}
use Rattle.field_schema.specs.declared.field.Field.{Field}
use Rattle.query_text.specs.declared.op.Op.{Op}
use Rattle.query_text.specs.declared.level.Clause.{Clause}
use Rattle.query_text.specs.declared.level.Target.TheVariants.{Here}
use Rattle.query_text.specs.Clauses.{joined}
use Rattle.query_text.specs.Faults.{syntax, unknown_field, too_deep, too_many}
use Rattle.query_text.specs.Reads.{Setting, read_from, query_of, letters_reading, reading}
use Rattle.query_text.proofs.Steps.{Reads, IsUntold, untold, bare_untold}
use Rattle.query_text.proofs.Leaves.{level}

-- the text of the characters
abbrev pub bytes_of : List Shape → List ℕ
bytes_of ss = encodes (chars_of ss)

length-lay : (ss : List Shape) (at : ℕ) → length (lay at ss) ≡ length ss
length-lay [] at = refl
length-lay (s ∷ ss) at = let e = length-lay ss (at + width s) in omega arith

-- ---- the end

module _ (s : Setting) (most end : ℕ) (df : Option ℕ) (named : Bool) (cs : List Clause) where
  finish_untold : IsUntold s.fields most (level df named cs None Here) [] end what.Finish
  unfolding syntax unknown_field too_deep too_many
  finish_untold =
      bare_untold s.fields most (level df named cs None Here) [] end what.Finish (refl, refl, refl, refl) refl refl refl refl

  pub finished : Reads s most end (level df named cs None Here) [] [] (Ok (joined s.op cs))
  unfolding lexemes read_from
  finished at zero h = absurd (omega arith)
  finished at (suc n) h =
      rw (nothing_skipped [] at tt, finish_is end at, untold s.fields most (level df named cs None Here) [] end what.Finish finish_untold) refl

-- ---- the whole

module _ (fields : List Field) (o : Op) (most : ℕ) (df : Option ℕ) (ss : List Shape) (q : Query) where
  abbrev pub setting : Setting
  setting = record { fields = fields; op = o }

  pub whole_reads : IsSound ss → scalars (chars_of ss) ≡ true → ((at : ℕ) → at_front (stands 123) (lay at ss) ≡ false)
      → Reads setting most (length (bytes_of ss)) (level df false [] None Here) [] ss (Ok q)
      → reading fields df o most (bytes_of ss) ≡ Ok (record { query = q; cached = true; cost = pos 0 })
  unfolding letters letters_reading query_of
  whole_reads sound real unmarked reads =
      let e : letters (bytes_of ss) ≡ lay 0 ss = ap (Rattle.query_lexemes.specs.Letters.letters_from false 0) (chars-encodes (chars_of ss) real) ∙ laid ss sound 0 in
      let n : length ss < length (lay 0 ss) + 1 = omega (arith, length-lay ss 0) in
      rw (e, unmarked 0, reads 0 (length (lay 0 ss) + 1) n) refl
