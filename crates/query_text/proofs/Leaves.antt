-- The parts of a printed query that have no parts: each leads from any query that is being read to that query with one more clause.
use Rattle.std.proofs.Common.{◌≡◌, ◌+◌, ◌++◌, ◌∷◌, [], ℕ, List, Bool, true, false, not, Option, None, Some, length, refl}
use Rattle.std.specs.Prelude.{◌||◌, ◌&&◌, nat_le, is_none, encode_utf8}
use Rattle.std.specs.List.{flat_map}
use Rattle.std.proofs.lemmas.Bool.{and_right}
use Rattle.query_tree.specs.declared.query.Query.{Query}
use Rattle.query_lexemes.specs.declared.fault.QueryFault.{QueryFault}
use Rattle.query_lexemes.specs.declared.lexeme.What.TheVariants as what
use Rattle.query_lexemes.specs.Letters.{is_white, is_special, is_plus}
use Rattle.query_lexemes.specs.Lexemes.{right}
use Rattle.query_lexemes.proofs.Shapes.{Shape, end_of, spelled}
use Rattle.query_lexemes.proofs.Pieces.{own, in_quotes, behind_quotes, quoted_is, IsBehind, every_is, star_is, IsWord, name_is, nothing_skipped}
use Rattle.query_text.specs.declared.level.Level.{Level}
use Rattle.query_text.specs.declared.level.Clause.{Clause}
use Rattle.query_text.specs.declared.level.Sign.{Sign}
use Rattle.query_text.specs.declared.level.Target.{Target}
use Rattle.query_text.specs.declared.level.Target.TheVariants.{Here, Every, To}
use Rattle.query_text.specs.Readings.{indexed, kind_at, value_in, words_in, term, star}
use Rattle.query_text.specs.Faults.{syntax, unknown_field, is_long, is_no_number, bad_number, bad_bound, unsupported, too_deep, most_deep, too_many, fault_if}
use Rattle.query_text.specs.Reads.{Setting, after, value}
use Rattle.query_text.proofs.Steps.{Step, IsUntold, untold, fault_none, bare_untold}

-- a query that is being read, with this before its next value
abbrev pub level : Option ℕ → Bool → List Clause → Option Sign → Target → Level
level df named cs sign target = record { field = df; named = named; clauses = cs; conj = None; sign = sign; target = target }

-- one more clause may begin, or has begun
abbrev pub HasRoom : ℕ → List Clause → Option Sign → Type 0
HasRoom most cs sign = (is_none sign && nat_le most (length cs)) ≡ false

-- with one more clause
abbrev pub more : List Clause → Option Sign → Query → List Clause
more cs sign q = cs ++ (record { before = None; sign = sign; query = q }) ∷ []

pub never : (b : Bool) → (b && false) ≡ false
never true = refl
never false = refl

pub not_deep : (os : List Level) (at : ℕ) → fault_if (nat_le most_deep (length os) && false) (Rattle.query_lexemes.specs.declared.fault.QueryFault.TheVariants.TooDeep at) ≡ None
not_deep os at = fault_none _ _ (never (nat_le most_deep (length os)))

pub not_long : (b : Bool) (at : ℕ) → fault_if (b && false) (Rattle.query_lexemes.specs.declared.fault.QueryFault.TheVariants.BadNumber at) ≡ None
not_long b at = fault_none _ _ (never b)

-- no white space begins a word
pub begins_no_blank : (e w s p : Bool) → ((e || not (w || s)) && (e || not p)) ≡ true → (not e && w) ≡ false
begins_no_blank true w s p h = refl
begins_no_blank false true s p h = absurd (Rattle.std.proofs.lemmas.Bool.false≢true h)
begins_no_blank false false s p h = refl

-- ---- a field's name

module _ (s : Setting) (most end : ℕ) (df : Option ℕ) (named : Bool) (cs : List Clause) (sign : Option Sign) (os : List Level) where
  name_untold : (f at colon : ℕ) (text : List ℕ) → indexed text s.fields ≡ Some f → HasRoom most cs sign
      → IsUntold s.fields most (level df named cs sign Here) os at (what.Name text colon)
  unfolding syntax unknown_field too_deep too_many
  name_untold f at colon text e room =
      bare_untold s.fields most (level df named cs sign Here) os at (what.Name text colon) (refl, refl, refl, refl) refl (rw e refl) (not_deep os at) (rw room refl)

  pub name_step : (f : ℕ) (c : Shape) (w rest : List Shape) → IsWord c w → indexed (spelled (c ∷ w)) s.fields ≡ Some f → HasRoom most cs sign
      → (at : ℕ) → Step s most end (level df named cs sign Here) os ((c ∷ w) ++ own 58 ∷ rest) rest (level df named cs sign (To (Some f))) os at
  unfolding after
  name_step f c w rest h e room at = record {
    next = end_of at (c ∷ w) + 1;
    front = right at (what.Name (spelled (c ∷ w)) (end_of at (c ∷ w)));
    reads = rw (nothing_skipped ((c ∷ w) ++ own 58 ∷ rest) at
        (λ here. begins_no_blank c.escaped (is_white c.code) (is_special c.code) (is_plus c.code) (h.begins here))) (name_is end at c w rest h);
    untold = untold s.fields most (level df named cs sign Here) os at _ (name_untold f at (end_of at (c ∷ w)) (spelled (c ∷ w)) e room);
    goes_on = refl;
    after = rw e refl;
  }

  -- ---- a quoted text

  quoted_untold : (f at : ℕ) (text : List ℕ) → (is_long (Some (kind_at s.fields f)) && is_no_number (Some text)) ≡ false
      → IsUntold s.fields most (level df named cs sign (To (Some f))) os at (what.Quoted text)
  unfolding syntax unknown_field bad_number bad_bound unsupported too_deep too_many
  quoted_untold f at text h = record {
    syntax = refl;
    field = refl;
    number = fault_none _ _ h;
    from = refl;
    to = refl;
    prefix = refl;
    deep = not_deep os at;
    many = refl;
  }

  pub quoted_step : (f : ℕ) (text : List ℕ) (rest : List Shape) (q : Query)
      → (is_long (Some (kind_at s.fields f)) && is_no_number (Some (flat_map encode_utf8 text))) ≡ false
      → term (kind_at s.fields f) f (flat_map encode_utf8 text) (words_in (Some (kind_at s.fields f)) (Some (flat_map encode_utf8 text))) ≡ q
      → (at : ℕ) → Step s most end (level df named cs sign (To (Some f))) os (in_quotes text rest) rest (level df named (more cs sign q) None Here) os at
  unfolding after value value_in
  quoted_step f text rest q h e at = record {
    next = behind_quotes at text;
    front = right at (what.Quoted (flat_map encode_utf8 text));
    reads = rw (nothing_skipped (in_quotes text rest) at (λ at. refl)) (quoted_is end at text rest);
    untold = untold s.fields most (level df named cs sign (To (Some f))) os at _ (quoted_untold f at (flat_map encode_utf8 text) h);
    goes_on = refl;
    after = rw e refl;
  }

  -- ---- `*`

  star_untold : (t : Target) (at : ℕ) → Rattle.query_text.specs.Levels.is_own t ≡ false → IsUntold s.fields most (level df named cs sign t) os at what.Star
  unfolding syntax unknown_field too_deep too_many
  star_untold t at h =
      bare_untold s.fields most (level df named cs sign t) os at what.Star (refl, refl, refl, refl) refl refl (not_deep os at) (rw h refl)

  pub star_step : (t : Target) (rest : List Shape) (q : Query) → Rattle.query_text.specs.Levels.is_own t ≡ false
      → star (level df named cs sign t) ≡ q → IsBehind rest
      → (at : ℕ) → Step s most end (level df named cs sign t) os (own 42 ∷ rest) rest (level df named (more cs sign q) None Here) os at
  unfolding after
  star_step t rest q h e b at = record {
    next = at + 1;
    front = right at what.Star;
    reads = rw (nothing_skipped (own 42 ∷ rest) at (λ at. refl)) (star_is end at rest b);
    untold = untold s.fields most (level df named cs sign t) os at _ (star_untold t at h);
    goes_on = refl;
    after = rw e refl;
  }

  every_untold : (at : ℕ) → HasRoom most cs sign → IsUntold s.fields most (level df named cs sign Here) os at (what.Any (at + 1) false)
  unfolding syntax unknown_field too_deep too_many
  every_untold at room =
      bare_untold s.fields most (level df named cs sign Here) os at (what.Any (at + 1) false) (refl, refl, refl, refl) refl refl (not_deep os at) (rw room refl)

  pub every_step : (rest : List Shape) → HasRoom most cs sign
      → (at : ℕ) → Step s most end (level df named cs sign Here) os (own 42 ∷ own 58 ∷ own 42 ∷ rest) (own 42 ∷ rest) (level df named cs sign Every) os at
  unfolding after
  every_step rest room at = record {
    next = at + 1 + 1;
    front = right at (what.Any (at + 1) false);
    reads = rw (nothing_skipped (own 42 ∷ own 58 ∷ own 42 ∷ rest) at (λ at. refl)) (every_is end at rest);
    untold = untold s.fields most (level df named cs sign Here) os at _ (every_untold at room);
    goes_on = refl;
    after = refl;
  }
