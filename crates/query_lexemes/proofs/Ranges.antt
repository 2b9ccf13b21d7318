-- What a printed range is as a lexeme, at any place and before any rest.
use Rattle.std.proofs.Common.{◌≡◌, ◌+◌, ◌∷◌, [], ℕ, List, Bool, true, false, None, Some, Ok, refl}
use Rattle.std.specs.Prelude.{encode_utf8, Option}
use Rattle.std.specs.List.{flat_map}
use Rattle.query_lexemes.specs.declared.letter.Class.TheVariants as class
use Rattle.query_lexemes.specs.declared.lexeme.Bound.{Bound}
use Rattle.query_lexemes.specs.declared.lexeme.What.TheVariants as what
use Rattle.query_lexemes.specs.Letters.{belongs, skip}
use Rattle.query_lexemes.specs.Lexemes.{right, lexeme, special, bound, quoted_bound, run_bound, run_text, between, range, range_from, range_between, range_to, range_close}
use Rattle.query_lexemes.proofs.Shapes.{Shape, lay, Stops, run_is, past_is, text_is}
use Rattle.query_lexemes.proofs.Pieces.{own, quoting, quoting_belongs, spelled_quoting, in_quotes, behind_quotes, nothing_skipped, space_skipped}

-- an end: a quoted text, or `*` where it is open
abbrev pub end_shapes : Option (List ℕ) → List Shape → List Shape
end_shapes None rest = own 42 ∷ rest
end_shapes (Some cs) rest = in_quotes cs rest

abbrev pub behind_end : ℕ → Option (List ℕ) → ℕ
behind_end at None = at + 1
behind_end at (Some cs) = behind_quotes at cs

abbrev pub end_text : Option (List ℕ) → Option (List ℕ)
end_text None = None
end_text (Some cs) = Some (flat_map encode_utf8 cs)

abbrev pub end_bound : ℕ → Option (List ℕ) → Bound
end_bound at o = record { at = at; text = end_text o }

-- a space, or a closing bracket
abbrev pub stop : Option Bool → Shape
stop None = own 32
stop (Some true) = own 93
stop (Some false) = own 125

bound_is : (end at : ℕ) (o : Option (List ℕ)) (c : Option Bool) (rest : List Shape)
    → bound end (lay at (end_shapes o (stop c ∷ rest))) ≡ Ok (end_bound at o, lay (behind_end at o) (stop c ∷ rest))
unfolding bound quoted_bound run_bound run_text lib.Utf8.encode
bound_is end at None None rest =
    rw (run_is class.Run (own 42 ∷ []) (own 32 ∷ rest) at ((λ at. refl), tt) (λ at. refl), past_is class.Run (own 42 ∷ []) (own 32 ∷ rest) at ((λ at. refl), tt) (λ at. refl)) refl
bound_is end at None (Some true) rest =
    rw (run_is class.Run (own 42 ∷ []) (own 93 ∷ rest) at ((λ at. refl), tt) (λ at. refl), past_is class.Run (own 42 ∷ []) (own 93 ∷ rest) at ((λ at. refl), tt) (λ at. refl)) refl
bound_is end at None (Some false) rest =
    rw (run_is class.Run (own 42 ∷ []) (own 125 ∷ rest) at ((λ at. refl), tt) (λ at. refl), past_is class.Run (own 42 ∷ []) (own 125 ∷ rest) at ((λ at. refl), tt) (λ at. refl)) refl
bound_is end at (Some cs) c rest =
    rw (
      past_is class.Quote (quoting cs) (own 34 ∷ stop c ∷ rest) (at + 1) (quoting_belongs cs) (λ at. refl),
      run_is class.Quote (quoting cs) (own 34 ∷ stop c ∷ rest) (at + 1) (quoting_belongs cs) (λ at. refl),
      text_is (quoting cs) (at + 1),
      spelled_quoting cs,
    ) refl

not_blank : (o : Option (List ℕ)) (rest : List Shape) → Stops (belongs class.Blank) (end_shapes o rest)
not_blank None rest = λ at. refl
not_blank (Some cs) rest = λ at. refl

-- white space, `TO` and white space
abbrev pub to : List Shape → List Shape
to rest = own 32 ∷ own 84 ∷ own 79 ∷ own 32 ∷ rest

between_is : (end at : ℕ) (o : Option (List ℕ)) (rest : List Shape)
    → between end (lay at (to (end_shapes o rest))) ≡ Ok (lay (at + 1 + 1 + 1 + 1) (end_shapes o rest))
unfolding between
between_is end at o rest =
    rw (space_skipped (own 84 ∷ own 79 ∷ own 32 ∷ end_shapes o rest) at (λ at. refl), space_skipped (end_shapes o rest) (at + 1 + 1 + 1) (not_blank o rest)) refl

close_is : (end at here : ℕ) (low high : Bool) (from to : Bound) (rest : List Shape)
    → range_close end at low from to (skip (lay here (stop (Some high) ∷ rest))) ≡ (right at (what.Range low from to high), lay (here + 1) rest)
unfolding range_close
close_is end at here low true from to rest = rw (nothing_skipped (own 93 ∷ rest) here (λ at. refl)) refl
close_is end at here low false from to rest = rw (nothing_skipped (own 125 ∷ rest) here (λ at. refl)) refl

-- behind the opening bracket
abbrev pub ends : Option (List ℕ) → Option (List ℕ) → Bool → List Shape → List Shape
ends a b high rest = end_shapes a (to (end_shapes b (stop (Some high) ∷ rest)))

-- where the upper end begins
abbrev pub upper_place : ℕ → Option (List ℕ) → ℕ
upper_place at a = behind_end at a + 1 + 1 + 1 + 1

range_inside : (end at here : ℕ) (low high : Bool) (a b : Option (List ℕ)) (rest : List Shape)
    → range end at low (lay here (ends a b high rest))
    ≡ (right at (what.Range low (end_bound here a) (end_bound (upper_place here a) b) high), lay (behind_end (upper_place here a) b + 1) rest)
unfolding range range_from range_between range_to
range_inside end at here low high a b rest =
    rw (
      nothing_skipped (ends a b high rest) here (not_blank a (to (end_shapes b (stop (Some high) ∷ rest)))),
      bound_is end here a None (own 84 ∷ own 79 ∷ own 32 ∷ end_shapes b (stop (Some high) ∷ rest)),
      between_is end (behind_end here a) b (stop (Some high) ∷ rest),
      bound_is end (upper_place here a) b (Some high) rest,
    )
    (close_is end at (behind_end (upper_place here a) b) low high (end_bound here a) (end_bound (upper_place here a) b) rest)

abbrev pub bracket : Bool → Shape
bracket true = own 91
bracket false = own 123

pub range_is : (end at : ℕ) (low high : Bool) (a b : Option (List ℕ)) (rest : List Shape)
    → lexeme end (lay at (bracket low ∷ ends a b high rest))
    ≡ (right at (what.Range low (end_bound (at + 1) a) (end_bound (upper_place (at + 1) a) b) high), lay (behind_end (upper_place (at + 1) a) b + 1) rest)
unfolding lexeme special
range_is end at true high a b rest = range_inside end at (at + 1) true high a b rest
range_is end at false high a b rest = range_inside end at (at + 1) false high a b rest
