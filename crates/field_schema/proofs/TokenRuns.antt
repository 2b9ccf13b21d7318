-- The tokens of a text, met byte by byte and character by character.
use Rattle.std.proofs.Common.{suc, ⊎_elim, ◌≡◌, ℕ, ◌<◌, ◌≤◌, Bool, true, false, cond, List, [], ◌∷◌, ◌++◌, length, get_or, map, filter, refl, sym, ◌∙◌, ap, arith, encode_utf8}
use Rattle.std.specs.Char.{to_ascii_lowercase}
use Rattle.std.specs.Str.{str_to_ascii_lowercase}
use Rattle.std.proofs.lemmas.Bool.{true≢false, cases_lt}
use Rattle.std.proofs.lemmas.Bool.Decides.{nat_tests}
use Rattle.std.proofs.lemmas.List.{append_assoc, append-nil}
use Rattle.std.proofs.lemmas.Str.{inside_one, encode_ascii}
use Rattle.field_schema.specs.Tokens.{is_token_byte, onto, pieces, is_filled, tokens}

-- the tokens where a token so far stands before the text
abbrev pub after : List ℕ → List ℕ → List (List ℕ)
after token [] = filter is_filled (token ∷ [])
after token (c ∷ cs) = cond (is_token_byte c) (after (token ++ to_ascii_lowercase c ∷ []) cs) (filter is_filled (token ∷ []) ++ after [] cs)

-- a token so far in front of the first piece
abbrev front : List ℕ → List (List ℕ) → List (List ℕ)
front token [] = token ∷ []
front token (p ∷ ps) = (token ++ p) ∷ ps

abbrev low : List (List ℕ) → List (List ℕ)
low ps = map str_to_ascii_lowercase ps

front-onto : (token : List ℕ) (c : ℕ) (ps : List (List ℕ)) → front (token ++ c ∷ []) ps ≡ front token (onto c ps)
front-onto token c [] = refl
front-onto token c (p ∷ ps) = ap (λ q. q ∷ ps) (append_assoc token (c ∷ []) p)

low-onto : (c : ℕ) (ps : List (List ℕ)) → onto (to_ascii_lowercase c) (low ps) ≡ low (onto c ps)
low-onto c [] = refl
low-onto c (p ∷ ps) = refl

kept-cons : (t : List ℕ) (ps : List (List ℕ)) → filter is_filled (t ∷ []) ++ filter is_filled ps ≡ filter is_filled (t ∷ ps)
kept-cons [] ps = refl
kept-cons (c ∷ t) ps = refl

kept-front : (ps : List (List ℕ)) → filter is_filled (front [] ps) ≡ filter is_filled ps
kept-front [] = refl
kept-front (p ∷ ps) = refl

after-is : (token cs : List ℕ) → after token cs ≡ filter is_filled (front token (low (pieces cs)))
after-is token [] = ap (λ t. filter is_filled (t ∷ [])) (sym (append-nil token))
after-is token (c ∷ cs) = by (is_token_byte c) (after-is (token ++ to_ascii_lowercase c ∷ []) cs) (after-is [] cs)
  where
    by : (b : Bool) → after (token ++ to_ascii_lowercase c ∷ []) cs ≡ filter is_filled (front (token ++ to_ascii_lowercase c ∷ []) (low (pieces cs))) → after [] cs ≡ filter is_filled (front [] (low (pieces cs)))
        → cond b (after (token ++ to_ascii_lowercase c ∷ []) cs) (filter is_filled (token ∷ []) ++ after [] cs) ≡ filter is_filled (front token (low (cond b (onto c (pieces cs)) ([] ∷ pieces cs))))
    by true more ended =
        more ∙ ap (filter is_filled) (front-onto token (to_ascii_lowercase c) (low (pieces cs)) ∙ ap (front token) (low-onto c (pieces cs)))
    by false more ended =
        ap (λ ts. filter is_filled (token ∷ []) ++ ts) (ended ∙ kept-front (low (pieces cs)))
        ∙ kept-cons token (low (pieces cs))
        ∙ ap (λ t. filter is_filled (t ∷ low (pieces cs))) (sym (append-nil token))

kept-low : (ps : List (List ℕ)) → filter is_filled (low ps) ≡ low (filter is_filled ps)
kept-low [] = refl
kept-low ([] ∷ ps) = kept-low ps
kept-low ((c ∷ p) ∷ ps) = ap (λ qs. (str_to_ascii_lowercase (c ∷ p)) ∷ qs) (kept-low ps)

pub after_is_tokens : (text : List ℕ) → after [] text ≡ tokens text
after_is_tokens text = after-is [] text ∙ kept-front (low (pieces text)) ∙ kept-low (pieces text)

-- ---- one character

high_in_token : (b : ℕ) → 128 ≤ b → is_token_byte b ≡ true
high_in_token b high = grind (arith, nat_tests)

high_same : (b : ℕ) → 128 ≤ b → to_ascii_lowercase b ≡ b
high_same b high = grind (arith, nat_tests)

low_below : (b : ℕ) → b < 128 → to_ascii_lowercase b < 128
low_below b low_byte = grind (arith, nat_tests)

-- bytes past ASCII go on the token as they are
past_ascii : (token bs rest : List ℕ) → ((k : ℕ) → k < length bs → 128 ≤ get_or bs k 0) → after token (bs ++ rest) ≡ after (token ++ bs) rest
past_ascii token [] rest high = ap (λ t. after t rest) (sym (append-nil token))
past_ascii token (b ∷ bs) rest high =
    let here : 128 ≤ b = high 0 (omega arith) in
    let in_token : is_token_byte b ≡ true = high_in_token b here in
    let same : to_ascii_lowercase b ≡ b = high_same b here in
    rw (in_token, same) (past_ascii (token ++ b ∷ []) bs rest (λ k l. high (suc k) (omega arith)) ∙ ap (λ t. after t rest) (append_assoc token (b ∷ []) bs))

-- the bytes of a character past ASCII
high_bytes : (c : ℕ) → 128 ≤ c → (k : ℕ) → k < length (encode_utf8 c) → 128 ≤ get_or (encode_utf8 c) k 0
high_bytes c high k within =
    ⊎_elim (λ lower. let same : c ≡ get_or (encode_utf8 c) k 0 = inside_one c [] (encode_utf8 c) k (sym (append-nil (encode_utf8 c))) within lower in absurd (omega arith)) (λ m. m) (cases_lt (get_or (encode_utf8 c) k 0) 128)

-- a character that stands in tokens
pub after_goes_on : (token rest : List ℕ) (c : ℕ) → is_token_byte c ≡ true → after token (encode_utf8 c ++ rest) ≡ after (token ++ encode_utf8 (to_ascii_lowercase c)) rest
after_goes_on token rest c in_token = ⊎_elim ascii beyond (cases_lt c 128)
  where
    ascii : c < 128 → after token (encode_utf8 c ++ rest) ≡ after (token ++ encode_utf8 (to_ascii_lowercase c)) rest
    ascii below =
        let one : encode_utf8 c ≡ c ∷ [] = encode_ascii c below in
        let lower : encode_utf8 (to_ascii_lowercase c) ≡ to_ascii_lowercase c ∷ [] = encode_ascii (to_ascii_lowercase c) (low_below c below) in
        rw (one, lower, in_token) refl

    beyond : 128 ≤ c → after token (encode_utf8 c ++ rest) ≡ after (token ++ encode_utf8 (to_ascii_lowercase c)) rest
    beyond high = rw (high_same c high) (past_ascii token (encode_utf8 c) rest (high_bytes c high))

-- a character that stands in none
pub after_ends : (token rest : List ℕ) (c : ℕ) → is_token_byte c ≡ false → after token (encode_utf8 c ++ rest) ≡ filter is_filled (token ∷ []) ++ after [] rest
after_ends token rest c outside = ⊎_elim ascii beyond (cases_lt c 128)
  where
    ascii : c < 128 → after token (encode_utf8 c ++ rest) ≡ filter is_filled (token ∷ []) ++ after [] rest
    ascii below =
        let one : encode_utf8 c ≡ c ∷ [] = encode_ascii c below in
        rw (one, outside) refl

    beyond : 128 ≤ c → after token (encode_utf8 c ++ rest) ≡ filter is_filled (token ∷ []) ++ after [] rest
    beyond high = absurd (true≢false (sym (high_in_token c high) ∙ outside))
