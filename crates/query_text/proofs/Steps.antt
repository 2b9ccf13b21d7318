-- What is read of letters, lexeme by lexeme.
use Rattle.std.proofs.lemmas.Bool.{and_right}
use Rattle.std.proofs.Common.{◌≡◌, ◌<◌, ℕ, List, suc, zero, Bool, false, None, Result, length, refl, arith}
use Rattle.query_tree.specs.declared.query.Query.{Query}
use Rattle.query_lexemes.specs.declared.fault.QueryFault.{QueryFault}
use Rattle.query_lexemes.specs.declared.lexeme.Lexeme.{Lexeme}
use Rattle.query_lexemes.specs.declared.lexeme.What.{What}
use Rattle.query_lexemes.specs.Letters.{skip}
use Rattle.query_lexemes.specs.Lexemes.{right, lexeme, lexemes}
use Rattle.query_lexemes.proofs.Shapes.{Shape, lay}
use Rattle.field_schema.specs.declared.field.Field.{Field}
use Rattle.query_text.specs.declared.level.Level.{Level}
use Rattle.query_text.specs.Readings.{kind_for, words_of, value_text}
use Rattle.query_text.specs.Faults.{least, told, told_with, fault_if, syntax, unknown_field, bad_number, bad_bound, from_of, to_of, unsupported, too_deep, too_many, is_prefix, is_long}
use Rattle.query_text.specs.Reads.{Setting, read_from, after, is_finish}

-- what the rest reads to, wherever it stands and whatever is left to count
abbrev pub Reads : Setting → ℕ → ℕ → Level → List Level → List Shape → Result Query QueryFault → Type 0
Reads s most end l os ss r = (at n : ℕ) → length ss < n → read_from s most l os (lexemes n end (lay at ss)) ≡ r

-- the lexeme in front, which has no fault, and what it leads to
pub record Step (s : Setting) (most end : ℕ) (l : Level) (os : List Level) (ss rest : List Shape) (l' : Level) (os' : List Level) (at : ℕ) : Type 0 where
  pub next : ℕ
  pub front : Lexeme
  pub reads : lexeme end (skip (lay at ss)) ≡ (front, lay next rest)
  pub untold : least (told s.fields most l os front) ≡ None
  pub goes_on : is_finish front.what ≡ false
  pub after : after s l os front.what ≡ (l', os')

onward : (s : Setting) (most end : ℕ) (l : Level) (os : List Level) (ss rest : List Shape) (r : Result Query QueryFault) (l' : Level) (os' : List Level)
    → (at n : ℕ) → Step s most end l os ss rest l' os' at → length rest < n → Reads s most end l' os' rest r
    → read_from s most l os (lexemes (suc n) end (lay at ss)) ≡ r
unfolding lexemes read_from
onward s most end l os ss rest r l' os' at n x h reads = rw (x.reads, x.untold, x.goes_on, x.after) (reads x.next n h)

pub step : (s : Setting) (most end : ℕ) (l : Level) (os : List Level) (ss rest : List Shape) (r : Result Query QueryFault) (l' : Level) (os' : List Level)
    → length rest < length ss → ((at : ℕ) → Step s most end l os ss rest l' os' at) → Reads s most end l' os' rest r → Reads s most end l os ss r
step s most end l os ss rest r l' os' less x reads at zero h = absurd (omega arith)
step s most end l os ss rest r l' os' less x reads at (suc n) h = onward s most end l os ss rest r l' os' at n (x at) (omega arith) reads

-- ---- no fault

pub fault_none : (b : Bool) (f : QueryFault) → b ≡ false → fault_if b f ≡ None
fault_none b f h = rw h refl

-- what a lexeme that is right must be to have no fault
pub record IsUntold (fields : List Field) (most : ℕ) (l : Level) (os : List Level) (at : ℕ) (w : What) : Type 0 where
  pub syntax : syntax l os at w ≡ None
  pub field : unknown_field fields l at w ≡ None
  pub number : bad_number (kind_for fields l) l at w ≡ None
  pub from : bad_bound (kind_for fields l) (from_of w) ≡ None
  pub to : bad_bound (kind_for fields l) (to_of w) ≡ None
  pub prefix : unsupported (kind_for fields l) at w ≡ None
  pub deep : too_deep l os at w (words_of fields l w) ≡ None
  pub many : too_many most l at w (words_of fields l w) ≡ None

pub untold : (fields : List Field) (most : ℕ) (l : Level) (os : List Level) (at : ℕ) (w : What) → IsUntold fields most l os at w → least (told fields most l os (right at w)) ≡ None
unfolding told_with least
untold fields most l os at w h = rw (h.syntax, h.field, h.number, h.from, h.to, h.prefix, h.deep, h.many) refl

-- a lexeme without a text of its own
abbrev pub IsBare : Level → What → Type 0
IsBare l w = (value_text l w ≡ None) × (from_of w ≡ None) × (to_of w ≡ None) × (is_prefix w ≡ false)

-- it has the faults of its place alone
pub bare_untold : (fields : List Field) (most : ℕ) (l : Level) (os : List Level) (at : ℕ) (w : What) → IsBare l w → syntax l os at w ≡ None → unknown_field fields l at w ≡ None
    → too_deep l os at w (words_of fields l w) ≡ None → too_many most l at w (words_of fields l w) ≡ None → IsUntold fields most l os at w
unfolding bad_number bad_bound unsupported
bare_untold fields most l os at w bare stands known deep many = record {
  syntax = stands;
  field = known;
  number = rw bare.0 (fault_none _ _ (and_right (is_long (kind_for fields l)) false refl));
  from = rw bare.1 refl;
  to = rw bare.2 refl;
  prefix = rw bare.3 refl;
  deep = deep;
  many = many;
}
