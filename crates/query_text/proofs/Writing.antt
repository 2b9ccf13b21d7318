-- A text is written character by character.
use Rattle.std.proofs.Common.{◌≡◌, ◌++◌, ℕ, List, length, ap, sym, ◌∙◌}
use Rattle.std.specs.Prelude.{encode_utf8}
use Rattle.std.specs.List.{flat_map}
use Rattle.std.specs.Str.{chars, IsUtf8}
use Rattle.std.proofs.lemmas.List.{append_assoc, append-nil}
use Rattle.std.proofs.lemmas.Str.{chars_past_char}
use Rattle.query_lexemes.proofs.Characters.{nothing_left}

module _ (f : ℕ → List ℕ) (out : List ℕ) (here : List ℕ) (whole : List ℕ) (so_far : out ++ flat_map f (chars here) ≡ whole) where
  pub char_written : (new rest : List ℕ) (c : ℕ) → IsUtf8 here → here ≡ encode_utf8 c ++ rest → new ≡ out ++ f c → new ++ flat_map f (chars rest) ≡ whole
  char_written new rest c utf8 e n =
      ap (λ (bs : List ℕ). bs ++ flat_map f (chars rest)) n ∙ append_assoc out (f c) (flat_map f (chars rest))
      ∙ ap (λ (cs : List ℕ). out ++ flat_map f cs) (sym (chars_past_char here rest c utf8 e)) ∙ so_far

  pub all_written : length here ≡ 0 → out ≡ whole
  all_written e = sym (append-nil out) ∙ ap (λ (cs : List ℕ). out ++ flat_map f cs) (sym (nothing_left here e)) ∙ so_far
