-- The tokens of a text, with a space between them, are a text with these tokens.
use Rattle.std.proofs.Common.{◌≡◌, ◌<◌, ◌++◌, ◌∷◌, [], ℕ, List, Bool, true, filter, refl, ap, sym, subst, ◌∙◌, arith, ⊎_elim, encode_utf8}
use Rattle.std.specs.Prelude.{◌&&◌, ◌==◌}
use Rattle.std.specs.List.{list_all}
use Rattle.std.specs.Char.{to_ascii_lowercase}
use Rattle.std.specs.Str.{chars, IsUtf8}
use lib.Utf8.{encodes, scalars, scalar, low_scalar}
use Rattle.std.proofs.lemmas.List.{append_assoc, append-nil}
use Rattle.std.proofs.lemmas.Bool.{and_parts, and_from, cases_lt, cases_Bool, cond_both, eq-eqb, eqb-true, true≢false}
use Rattle.std.proofs.lemmas.Bool.Decides.{nat_tests}
use Rattle.std.proofs.lemmas.List.Folds.{list_all-append}
use Rattle.std.proofs.lemmas.Str.{IsUtf8-append, IsUtf8-nil, encode_ascii, encodes-chars, scalars-chars}
use Rattle.std.proofs.lemmas.Str.Ascii.{lowercase-lowercase, lowercase_ascii}
use Rattle.field_schema.specs.Tokens.{is_token_byte, is_filled, tokens}
use Rattle.field_schema.proofs.TokenRuns.{after, after_is_tokens, after_goes_on, after_ends}
use Rattle.query_text.specs.Printing.{signed, spaced}

-- ---- characters

pub lower_scalar : (c : ℕ) → scalar c ≡ true → scalar (to_ascii_lowercase c) ≡ true
lower_scalar c h =
    ⊎_elim (λ l. low_scalar (to_ascii_lowercase c) (let e : to_ascii_lowercase c < 128 = lowercase_ascii c l in omega arith))
    (λ m. let e : to_ascii_lowercase c ≡ c = grind (arith, nat_tests) in rw e h) (cases_lt c 128)

pub utf8_one : (c : ℕ) → scalar c ≡ true → IsUtf8 (encode_utf8 c)
utf8_one c h = (c ∷ [], (and_from _ _ h refl, append-nil (encode_utf8 c)))

-- ---- tokens are texts

abbrev pub AreTexts : List (List ℕ) → Type 0
AreTexts [] = Unit {0}
AreTexts (t ∷ ts) = IsUtf8 t × AreTexts ts

kept_texts : (t : List ℕ) (ts : List (List ℕ)) → IsUtf8 t → AreTexts ts → AreTexts (filter is_filled (t ∷ []) ++ ts)
kept_texts [] ts h k = k
kept_texts (c ∷ t) ts h k = (h, k)

kept_text : (t : List ℕ) → IsUtf8 t → AreTexts (filter is_filled (t ∷ []))
kept_text [] h = tt
kept_text (c ∷ t) h = (h, tt)

after_texts : (cs token : List ℕ) → scalars cs ≡ true → IsUtf8 token → AreTexts (after token (encodes cs))
after_texts [] token h k = kept_text token k
after_texts (c ∷ cs) token h k =
    let p : (scalar c ≡ true) × (scalars cs ≡ true) = and_parts _ _ h in
    let on : AreTexts (after (token ++ encode_utf8 (to_ascii_lowercase c)) (encodes cs)) =
    after_texts cs (token ++ encode_utf8 (to_ascii_lowercase c)) p.1 (IsUtf8-append token (encode_utf8 (to_ascii_lowercase c)) k (utf8_one (to_ascii_lowercase c) (lower_scalar c p.0))) in
    let off : AreTexts (filter is_filled (token ∷ []) ++ after [] (encodes cs)) = kept_texts token (after [] (encodes cs)) k (after_texts cs [] p.1 IsUtf8-nil) in
    ⊎_elim (λ e. subst AreTexts (sym (after_goes_on token (encodes cs) c e)) on) (λ e. subst AreTexts (sym (after_ends token (encodes cs) c e)) off) (cases_Bool (is_token_byte c))

pub tokens_texts : (text : List ℕ) → IsUtf8 text → AreTexts (tokens text)
tokens_texts text h =
    subst AreTexts (ap (after []) (encodes-chars text h) ∙ after_is_tokens text) (after_texts (chars text) [] (scalars-chars text h) IsUtf8-nil)

-- ---- tokens are tokens

-- a byte of a token, in lower case
abbrev is_low : ℕ → Bool
is_low c = is_token_byte c && to_ascii_lowercase c == c

low_byte : (c : ℕ) → is_token_byte c ≡ true → is_low (to_ascii_lowercase c) ≡ true
low_byte c h =
    let t : is_token_byte (to_ascii_lowercase c) ≡ true = grind (arith, nat_tests) in
    and_from _ _ t (eq-eqb _ _ (lowercase-lowercase c))

pub record IsToken (t : List ℕ) : Type 0 where
  pub some : is_filled t ≡ true
  pub low : list_all is_low t ≡ true

abbrev pub AreTokens : List (List ℕ) → Type 0
AreTokens [] = Unit {0}
AreTokens (t ∷ ts) = IsToken t × AreTokens ts

kept_tokens : (t : List ℕ) (ts : List (List ℕ)) → list_all is_low t ≡ true → AreTokens ts → AreTokens (filter is_filled (t ∷ []) ++ ts)
kept_tokens [] ts h k = k
kept_tokens (c ∷ t) ts h k = (record { some = refl; low = h }, k)

kept_token : (t : List ℕ) → list_all is_low t ≡ true → AreTokens (filter is_filled (t ∷ []))
kept_token [] h = tt
kept_token (c ∷ t) h = (record { some = refl; low = h }, tt)

low_more : (t : List ℕ) (c : ℕ) → list_all is_low t ≡ true → is_low c ≡ true → list_all is_low (t ++ c ∷ []) ≡ true
low_more t c h k = list_all-append is_low t (c ∷ []) ∙ rw (h, k) refl

after_tokens : (text token : List ℕ) → list_all is_low token ≡ true → AreTokens (after token text)
after_tokens [] token h = kept_token token h
after_tokens (c ∷ text) token h =
    cond_both (is_token_byte c) _ _ AreTokens
    (λ e. after_tokens text (token ++ to_ascii_lowercase c ∷ []) (low_more token (to_ascii_lowercase c) h (low_byte c e)))
    (λ e. kept_tokens token (after [] text) h (after_tokens text [] refl))

pub tokens_tokens : (text : List ℕ) → AreTokens (tokens text)
tokens_tokens text = subst AreTokens (after_is_tokens text) (after_tokens text [] refl)

-- ---- and are read again

-- the bytes of a token go on the token before them
after_low : (t token rest : List ℕ) → list_all is_low t ≡ true → after token (t ++ rest) ≡ after (token ++ t) rest
after_low [] token rest h = ap (λ (u : List ℕ). after u rest) (sym (append-nil token))
after_low (c ∷ t) token rest h =
    let p : (is_low c ≡ true) × (list_all is_low t ≡ true) = and_parts _ _ h in
    let q : (is_token_byte c ≡ true) × ((to_ascii_lowercase c == c) ≡ true) = and_parts _ _ p.0 in
    let same : to_ascii_lowercase c ≡ c = eqb-true _ _ q.1 in
    rw (q.0, same) (after_low t (token ++ c ∷ []) rest p.1 ∙ ap (λ (u : List ℕ). after u rest) (append_assoc token (c ∷ []) t))

kept_one : (t : List ℕ) (ts : List (List ℕ)) → is_filled t ≡ true → filter is_filled (t ∷ []) ++ ts ≡ t ∷ ts
kept_one [] ts h = absurd (true≢false (sym h))
kept_one (c ∷ t) ts h = refl

after_spaced : (ts : List (List ℕ)) (t : List ℕ) → is_filled t ≡ true → AreTokens ts → after t (signed true [] ts) ≡ t ∷ ts
unfolding signed
after_spaced [] t h k = ap (λ (us : List (List ℕ)). us) (sym (append-nil (filter is_filled (t ∷ [])))) ∙ kept_one t [] h
after_spaced (u ∷ ts) t h k =
    kept_one t (after [] (u ++ signed true [] ts)) h
    ∙ ap (λ (us : List (List ℕ)). t ∷ us) (after_low u [] (signed true [] ts) k.0.low ∙ after_spaced ts u k.0.some k.1)

pub spaced_tokens : (ts : List (List ℕ)) → AreTokens ts → tokens (spaced ts) ≡ ts
unfolding signed
spaced_tokens [] k = refl
spaced_tokens (t ∷ ts) k =
    sym (after_is_tokens (spaced (t ∷ ts))) ∙ after_low t [] (signed true [] ts) k.0.low ∙ after_spaced ts t k.0.some k.1

utf8_space : IsUtf8 (32 ∷ [])
utf8_space = subst IsUtf8 (encode_ascii 32 (omega arith)) (utf8_one 32 refl)

signed_text : (ts : List (List ℕ)) → AreTexts ts → IsUtf8 (signed true [] ts)
unfolding signed
signed_text [] k = IsUtf8-nil
signed_text (t ∷ ts) k = IsUtf8-append (32 ∷ []) (t ++ signed true [] ts) utf8_space (IsUtf8-append t (signed true [] ts) k.0 (signed_text ts k.1))

pub spaced_text : (ts : List (List ℕ)) → AreTexts ts → IsUtf8 (spaced ts)
unfolding signed
spaced_text [] k = IsUtf8-nil
spaced_text (t ∷ ts) k = IsUtf8-append t (signed true [] ts) k.0 (signed_text ts k.1)
