-- Each query that a text reads to is readable, so its printed text reads to it.
use Rattle.std.proofs.Common.{◌≡◌, ◌+◌, [], ℕ, List, true, Option, None, Some, Result, Ok, Err, length, refl, ap, sym, arith}
use Rattle.std.specs.Prelude.{is_none}
use Rattle.std.specs.Option.{option_map_or}
use Rattle.std.specs.Result.{result_ok}
use Rattle.std.proofs.lemmas.Bool.{true≢false}
use Rattle.field_schema.specs.Schema.{Fields, IsSchema}
use Rattle.query_tree.specs.declared.query.Query.{Query}
use Rattle.query_lexemes.specs.declared.fault.QueryFault.{QueryFault}
use Rattle.query_lexemes.specs.declared.letter.Letter.{Letter}
use Rattle.query_lexemes.specs.declared.local.Local.{Local}
use Rattle.query_lexemes.specs.Letters.{letters}
use Rattle.query_lexemes.specs.Lexemes.{lexemes}
use Rattle.query_lexemes.specs.Local.{local, behind_mark}
use Rattle.query_lexemes.proofs.LexemeTexts.{AreReal, real_letters, lexemes_fit, IsLocalFit, local_fit, IfReal, mark_fit}
use Rattle.query_text.specs.declared.reader.Parsed.{Parsed}
use Rattle.query_text.specs.Levels.{top}
use Rattle.query_text.specs.Readings.{indexed}
use Rattle.query_text.specs.Reads.{Setting, query_of, with_local, no_local, behind_local, letters_reading}
use Rattle.query_text.specs.PrintLaws.{IsNamed}
use Rattle.query_text.specs.Readable.{IsReadable, is_default, ReadIsReadable, PrintedReadsBack}
use Rattle.query_text.proofs.Held.{NamedIf, Held}
use Rattle.query_text.proofs.Readables.{readable_prints}
use Rattle.query_text.proofs.Reading.{reads_readable}
use Rattle.query_text.proofs.SchemaNames.{indexed_named, default_named}

not_ok : (e : QueryFault) (p : Parsed) → ◌≡◌ {A = Result Parsed QueryFault} (Err e) (Ok p) → is_none (Some p) ≡ true
not_ok e p h = sym (ap (λ (r : Result Parsed QueryFault). is_none (result_ok r)) h)

-- the query of a reading that went well
query_in : Query → Result Parsed QueryFault → Query
query_in q (Ok p) = p.query
query_in q (Err e) = q

local_ok : (params : Local) (r : Result Query QueryFault) (p : Parsed) → with_local params r ≡ Ok p → r ≡ Ok p.query
unfolding query_in
local_ok params (Ok q) p h = ap (λ (r : Result Parsed QueryFault). Ok (query_in q r)) h
local_ok params (Err e) p h = absurd (true≢false (sym (not_ok e p h)))

module _ (s : Setting) (most : ℕ) (names : (text : List ℕ) (f : ℕ) → indexed text s.fields ≡ Some f → IsNamed s.fields f) (df : Option ℕ) (known : NamedIf s.fields most df) (end : ℕ) where
  top_held : Held s.fields most 64 (top df)
  top_held = record { field = known; target = tt; clauses = tt; first = refl; start = refl; room = omega arith; begun = λ b. absurd (true≢false b) }

  query_readable : (ls : List Letter) (q : Query) → AreReal ls → query_of s most df end ls ≡ Ok q → IsReadable s.fields most q
  unfolding query_of
  query_readable ls q real h =
      reads_readable s most names (lexemes (length ls + 1) end ls) 64 (top df) [] q (lexemes_fit (length ls + 1) end ls real) top_held refl h

  local_readable : (params : Local) (ls : List Letter) (p : Parsed) → AreReal ls → with_local params (query_of s most df end ls) ≡ Ok p → IsReadable s.fields most p.query
  local_readable params ls p real h = query_readable ls p.query real (local_ok params (query_of s most df end ls) p h)

  behind_readable : (r : Result (Local × List Letter) ℕ) (p : Parsed) → IsLocalFit r → behind_local s most df end r ≡ Ok p → IsReadable s.fields most p.query
  behind_readable (Ok x) p fit h = local_readable x.0 x.1 p fit h
  behind_readable (Err at) p fit h = absurd (true≢false (sym (not_ok _ p h)))

  marked_readable : (o : Option (List Letter)) (ls : List Letter) (p : Parsed) → IfReal o → AreReal ls
      → option_map_or (λ params. behind_local s most df end (local end params)) o (with_local no_local (query_of s most df end ls)) ≡ Ok p → IsReadable s.fields most p.query
  marked_readable None ls p o real h = local_readable no_local ls p real h
  marked_readable (Some params) ls p o real h = behind_readable (local end params) p (local_fit end params o).it h

  letters_readable : (ls : List Letter) (p : Parsed) → AreReal ls → letters_reading s most df end ls ≡ Ok p → IsReadable s.fields most p.query
  unfolding letters_reading
  letters_readable ls p real h = marked_readable (behind_mark ls) ls p (mark_fit ls real).it real h

default_known : (s : Fields) (most : ℕ) → IsSchema s → (df : Option ℕ) → is_default s.list df ≡ true → NamedIf s.list most df
default_known s most schema None h = tt
default_known s most schema (Some f) h = default_named s schema f h

pub what_reads : ReadIsReadable
what_reads s most p h =
    letters_readable (record { fields = s.list; op = h.op }) most (indexed_named s h.schema) h.df (default_known s most h.schema h.df h.default) (length h.text) (letters h.text) p
    (real_letters h.text h.utf8) h.reads

pub prints_back : PrintedReadsBack
prints_back s most p h = readable_prints s.list most p.query (what_reads s most p h)
