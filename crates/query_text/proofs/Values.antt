-- Prefixes and ranges as parts of a printed query, and signs, parentheses and spaces between parts.
use Rattle.std.proofs.Common.{◌≡◌, ◌+◌, ◌++◌, ◌∷◌, [], ℕ, suc, List, Bool, true, false, Option, None, Some, length, refl, arith}
use Rattle.std.proofs.lemmas.Bool.{ne_eqb}
use Rattle.std.specs.Prelude.{◌&&◌, ◌==◌, nat_le}
use Rattle.query_tree.specs.declared.query.Query.{Query}
use Rattle.query_lexemes.specs.declared.lexeme.What.TheVariants as what
use Rattle.query_lexemes.specs.Letters.{is_blank, is_white, is_special, is_plus}
use Rattle.query_lexemes.specs.Lexemes.{right, lexeme}
use Rattle.query_lexemes.proofs.Shapes.{Shape, lay, end_of, spelled, Stops}
use Rattle.query_lexemes.proofs.Pieces.{own, IsBehind, IsWord, prefix_is, nothing_skipped, required_is, prohibited_is, opening_is, closing_is}
use Rattle.query_lexemes.proofs.Ranges.{bracket, ends, end_bound, end_text, upper_place, behind_end, range_is}
use Rattle.query_text.specs.declared.level.Level.{Level}
use Rattle.query_text.specs.declared.level.Clause.{Clause}
use Rattle.query_text.specs.declared.level.Sign.{Sign}
use Rattle.query_text.specs.declared.level.Sign.TheVariants.{Required, Prohibited}
use Rattle.query_text.specs.declared.level.Target.TheVariants.{Here, To}
use Rattle.query_text.specs.Clauses.{joined}
use Rattle.query_text.specs.Readings.{kind_at, prefix, range, value_in}
use Rattle.query_text.specs.Faults.{syntax, unknown_field, is_long, is_no_number, bad_number, bad_bound, unsupported, is_whole, too_deep, most_deep, too_many}
use Rattle.query_text.specs.Reads.{Setting, sign_of, after, value}
use Rattle.query_text.proofs.Steps.{Step, IsUntold, bare_untold, untold, fault_none}
use Rattle.query_text.proofs.Leaves.{level, HasRoom, more, not_deep, not_long, begins_no_blank}

module _ (s : Setting) (most end : ℕ) (df : Option ℕ) (named : Bool) (cs : List Clause) (sign : Option Sign) (os : List Level) where
  -- ---- a prefix

  prefix_untold : (f at : ℕ) (text : List ℕ) → is_whole (Some (kind_at s.fields f)) ≡ false
      → IsUntold s.fields most (level df named cs sign (To (Some f))) os at (what.Prefix text)
  unfolding syntax unknown_field bad_number bad_bound unsupported too_deep too_many
  prefix_untold f at text h = record {
    syntax = refl;
    field = refl;
    number = not_long (is_long (Some (kind_at s.fields f))) at;
    from = refl;
    to = refl;
    prefix = fault_none _ _ h;
    deep = not_deep os at;
    many = refl;
  }

  pub prefix_step : (f : ℕ) (c : Shape) (w rest : List Shape) (q : Query) → is_whole (Some (kind_at s.fields f)) ≡ false
      → prefix (kind_at s.fields f) f (spelled (c ∷ w)) ≡ q → IsWord c w → IsBehind rest
      → (at : ℕ) → Step s most end (level df named cs sign (To (Some f))) os ((c ∷ w) ++ own 42 ∷ rest) rest (level df named (more cs sign q) None Here) os at
  unfolding after value value_in
  prefix_step f c w rest q whole e h b at = record {
    next = end_of at (c ∷ w) + 1;
    front = right at (what.Prefix (spelled (c ∷ w)));
    reads = rw (nothing_skipped ((c ∷ w) ++ own 42 ∷ rest) at
        (λ here. begins_no_blank c.escaped (is_white c.code) (is_special c.code) (is_plus c.code) (h.begins here))) (prefix_is end at c w rest h b);
    untold = untold s.fields most (level df named cs sign (To (Some f))) os at _ (prefix_untold f at (spelled (c ∷ w)) whole);
    goes_on = refl;
    after = rw e refl;
  }

  -- ---- a range

  range_untold : (f at here there : ℕ) (low high : Bool) (a b : Option (List ℕ))
      → (is_long (Some (kind_at s.fields f)) && is_no_number (end_text a)) ≡ false
      → (is_long (Some (kind_at s.fields f)) && is_no_number (end_text b)) ≡ false
      → IsUntold s.fields most (level df named cs sign (To (Some f))) os at (what.Range low (end_bound here a) (end_bound there b) high)
  unfolding syntax unknown_field bad_number bad_bound unsupported too_deep too_many
  range_untold f at here there low high a b h k = record {
    syntax = refl;
    field = refl;
    number = not_long (is_long (Some (kind_at s.fields f))) at;
    from = fault_none _ _ h;
    to = fault_none _ _ k;
    prefix = refl;
    deep = not_deep os at;
    many = refl;
  }

  bracket_no_blank : (low : Bool) (rest : List Shape) → Stops is_blank (bracket low ∷ rest)
  bracket_no_blank true rest = λ at. refl
  bracket_no_blank false rest = λ at. refl

  pub range_step : (f : ℕ) (low high : Bool) (a b : Option (List ℕ)) (rest : List Shape) (q : Query)
      → (is_long (Some (kind_at s.fields f)) && is_no_number (end_text a)) ≡ false
      → (is_long (Some (kind_at s.fields f)) && is_no_number (end_text b)) ≡ false
      → range (kind_at s.fields f) f low (end_text a) (end_text b) high ≡ q
      → (at : ℕ) → Step s most end (level df named cs sign (To (Some f))) os (bracket low ∷ ends a b high rest) rest (level df named (more cs sign q) None Here) os at
  unfolding after value value_in
  range_step f low high a b rest q h k e at = record {
    next = behind_end (upper_place (at + 1) a) b + 1;
    front = right at (what.Range low (end_bound (at + 1) a) (end_bound (upper_place (at + 1) a) b) high);
    reads = rw (nothing_skipped (bracket low ∷ ends a b high rest) at (bracket_no_blank low (ends a b high rest))) (range_is end at low high a b rest);
    untold = untold s.fields most (level df named cs sign (To (Some f))) os at _ (range_untold f at (at + 1) (upper_place (at + 1) a) low high a b h k);
    goes_on = refl;
    after = rw e refl;
  }

-- ---- between parts

module _ (s : Setting) (most end : ℕ) (df : Option ℕ) (named : Bool) (cs : List Clause) (os : List Level) where
  sign_untold : (at : ℕ) (prohibits : Bool) → HasRoom most cs None → IsUntold s.fields most (level df named cs None Here) os at (what.Sign prohibits)
  unfolding syntax unknown_field too_deep too_many
  sign_untold at prohibits room =
      bare_untold s.fields most (level df named cs None Here) os at (what.Sign prohibits) (refl, refl, refl, refl) refl refl (not_deep os at) (rw room refl)

  sign_step : (c : ℕ) (prohibits : Bool) (rest : List Shape) → HasRoom most cs None → is_white c ≡ false
      → ((at : ℕ) → lexeme end (lay at (own c ∷ rest)) ≡ (right at (what.Sign prohibits), lay (at + 1) rest))
      → (at : ℕ) → Step s most end (level df named cs None Here) os (own c ∷ rest) rest (level df named cs (Some (sign_of prohibits)) Here) os at
  unfolding after
  sign_step c prohibits rest room black is at = record {
    next = at + 1;
    front = right at (what.Sign prohibits);
    reads = rw (nothing_skipped (own c ∷ rest) at (λ at. black)) (is at);
    untold = untold s.fields most (level df named cs None Here) os at _ (sign_untold at prohibits room);
    goes_on = refl;
    after = refl;
  }

  pub required_step : (rest : List Shape) → HasRoom most cs None
      → (at : ℕ) → Step s most end (level df named cs None Here) os (own 43 ∷ rest) rest (level df named cs (Some Required) Here) os at
  required_step rest room = sign_step 43 false rest room refl (λ at. required_is end at rest)

  pub prohibited_step : (rest : List Shape) → HasRoom most cs None
      → (at : ℕ) → Step s most end (level df named cs None Here) os (own 45 ∷ rest) rest (level df named cs (Some Prohibited) Here) os at
  prohibited_step rest room = sign_step 45 true rest room refl (λ at. prohibited_is end at rest)

module _ (s : Setting) (most end : ℕ) (df : Option ℕ) (named : Bool) (cs : List Clause) (sign : Option Sign) (os : List Level) where
  opening_untold : (at : ℕ) → HasRoom most cs sign → nat_le most_deep (length os) ≡ false
      → IsUntold s.fields most (level df named cs sign Here) os at what.Opening
  unfolding syntax unknown_field too_deep too_many
  opening_untold at room shallow =
      bare_untold s.fields most (level df named cs sign Here) os at what.Opening (refl, refl, refl, refl) refl refl (rw shallow refl) (rw room refl)

  pub opening_step : (rest : List Shape) → HasRoom most cs sign → nat_le most_deep (length os) ≡ false
      → (at : ℕ) → Step s most end (level df named cs sign Here) os (own 40 ∷ rest) rest (level df named [] None Here) (level df named cs sign Here ∷ os) at
  unfolding after
  opening_step rest room shallow at = record {
    next = at + 1;
    front = right at what.Opening;
    reads = rw (nothing_skipped (own 40 ∷ rest) at (λ at. refl)) (opening_is end at rest);
    untold = untold s.fields most (level df named cs sign Here) os at _ (opening_untold at room shallow);
    goes_on = refl;
    after = refl;
  }

  closing_untold : (at : ℕ) (inside : List Clause) → (length inside == 0) ≡ false
      → IsUntold s.fields most (level df named inside None Here) (level df named cs sign Here ∷ os) at what.Closing
  unfolding syntax unknown_field too_deep too_many
  closing_untold at inside filled =
      bare_untold s.fields most (level df named inside None Here) (level df named cs sign Here ∷ os) at what.Closing (refl, refl, refl, refl) (fault_none _ _ (rw (ne_eqb (suc (length os)) 0 (λ e. absurd (omega (arith, e))), filled) refl)) refl (not_deep (level df named cs sign Here ∷ os) at) refl

  pub closing_step : (inside : List Clause) (rest : List Shape) → (length inside == 0) ≡ false
      → (at : ℕ) → Step s most end (level df named inside None Here) (level df named cs sign Here ∷ os) (own 41 ∷ rest) rest
      (level df named (more cs sign (joined s.op inside)) None Here) os at
  unfolding after
  closing_step inside rest filled at = record {
    next = at + 1;
    front = right at what.Closing;
    reads = rw (nothing_skipped (own 41 ∷ rest) at (λ at. refl)) (closing_is end at rest);
    untold = untold s.fields most (level df named inside None Here) (level df named cs sign Here ∷ os) at _ (closing_untold at inside filled);
    goes_on = refl;
    after = refl;
  }
