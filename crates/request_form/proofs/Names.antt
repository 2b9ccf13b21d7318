-- The names of a list of fields, met character by character.
use Rattle.std.proofs.Common.{◌≡◌, ℕ, Bool, true, false, cond, List, [], ◌∷◌, ◌++◌, map, filter, refl, sym, ap, ◌∙◌, encode_utf8}
use Rattle.std.specs.List.{slice_split, onto_first}
use Rattle.std.specs.Str.{chars, encode_utf8_all, IsUtf8}
use Rattle.std.proofs.lemmas.List.{append_assoc, append-nil}
use Rattle.std.proofs.lemmas.Str.{chars_past_char}
use Rattle.field_schema.specs.Tokens.{is_filled}
use Rattle.request_form.specs.Values.{is_separator, names_in}

-- the names where a name so far stands before the characters
abbrev pub after : List ℕ → List ℕ → List (List ℕ)
after name [] = filter is_filled (name ∷ [])
after name (c ∷ cs) = cond (is_separator c) (filter is_filled (name ∷ []) ++ after [] cs) (after (name ++ encode_utf8 c) cs)

-- a name so far in front of the first part
abbrev front : List ℕ → List (List ℕ) → List (List ℕ)
front name [] = name ∷ []
front name (p ∷ ps) = (name ++ p) ∷ ps

front-onto : (name : List ℕ) (c : ℕ) (parts : List (List ℕ)) → front (name ++ encode_utf8 c) (map encode_utf8_all parts) ≡ front name (map encode_utf8_all (onto_first c parts))
front-onto name c [] = ap (λ t. t ∷ []) (ap (λ t. name ++ t) (sym (append-nil (encode_utf8 c))))
front-onto name c (p ∷ ps) = ap (λ t. t ∷ map encode_utf8_all ps) (append_assoc name (encode_utf8 c) (encode_utf8_all p))

kept-cons : (t : List ℕ) (ps : List (List ℕ)) → filter is_filled (t ∷ []) ++ filter is_filled ps ≡ filter is_filled (t ∷ ps)
kept-cons [] ps = refl
kept-cons (c ∷ t) ps = refl

kept-front : (ps : List (List ℕ)) → filter is_filled (front [] ps) ≡ filter is_filled ps
kept-front [] = refl
kept-front (p ∷ ps) = refl

after-is : (name cs : List ℕ) → after name cs ≡ filter is_filled (front name (map encode_utf8_all (slice_split is_separator cs)))
after-is name [] = ap (λ t. filter is_filled (t ∷ [])) (sym (append-nil name))
after-is name (c ∷ cs) = by (is_separator c) (after-is [] cs) (after-is (name ++ encode_utf8 c) cs)
  where
    by : (b : Bool) → after [] cs ≡ filter is_filled (front [] (map encode_utf8_all (slice_split is_separator cs)))
        → after (name ++ encode_utf8 c) cs ≡ filter is_filled (front (name ++ encode_utf8 c) (map encode_utf8_all (slice_split is_separator cs)))
        → cond b (filter is_filled (name ∷ []) ++ after [] cs) (after (name ++ encode_utf8 c) cs) ≡ filter is_filled (front name (map encode_utf8_all (cond b ([] ∷ slice_split is_separator cs) (onto_first c (slice_split is_separator cs)))))
    by true ended more =
        ap (λ ts. filter is_filled (name ∷ []) ++ ts) (ended ∙ kept-front (map encode_utf8_all (slice_split is_separator cs)))
        ∙ kept-cons name (map encode_utf8_all (slice_split is_separator cs))
        ∙ ap (λ t. filter is_filled (t ∷ map encode_utf8_all (slice_split is_separator cs))) (sym (append-nil name))
    by false ended more = more ∙ ap (filter is_filled) (front-onto name c (slice_split is_separator cs))

pub after_is_names : (text : List ℕ) → after [] (chars text) ≡ names_in text
after_is_names text = after-is [] (chars text) ∙ kept-front (map encode_utf8_all (slice_split is_separator (chars text)))

-- ---- one character

-- a separator ends the name
pub ends_here : (names found : List (List ℕ)) (name bs rest : List ℕ) (c : ℕ) → IsUtf8 bs → bs ≡ encode_utf8 c ++ rest → is_separator c ≡ true → found ≡ names ++ filter is_filled (name ∷ [])
    → found ++ after [] (chars rest) ≡ names ++ after name (chars bs)
ends_here names found name bs rest c utf8 e parts grown =
    ap (λ f. f ++ after [] (chars rest)) grown
    ∙ append_assoc names (filter is_filled (name ∷ [])) (after [] (chars rest))
    ∙ ap (λ b. names ++ cond b (filter is_filled (name ∷ []) ++ after [] (chars rest)) (after (name ++ encode_utf8 c) (chars rest))) (sym parts)
    ∙ ap (λ cs. names ++ after name cs) (sym (chars_past_char bs rest c utf8 e))

-- another character goes on it
pub goes_on : (names : List (List ℕ)) (name longer bs rest : List ℕ) (c : ℕ) → IsUtf8 bs → bs ≡ encode_utf8 c ++ rest → is_separator c ≡ false → longer ≡ name ++ encode_utf8 c
    → names ++ after longer (chars rest) ≡ names ++ after name (chars bs)
goes_on names name longer bs rest c utf8 e parts grown =
    ap (λ n. names ++ after n (chars rest)) grown
    ∙ ap (λ b. names ++ cond b (filter is_filled (name ∷ []) ++ after [] (chars rest)) (after (name ++ encode_utf8 c) (chars rest))) (sym parts)
    ∙ ap (λ cs. names ++ after name cs) (sym (chars_past_char bs rest c utf8 e))
