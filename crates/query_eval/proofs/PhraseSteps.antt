-- The steps of a phrase: its words so far, and the documents at the end.
use Rattle.std.proofs.Common.{◌≡◌, ℕ, zero, suc, ◌+◌, ◌<◌, ◌≤◌, Bool, not, ◌&&◌, List, [], ◌∷◌, length, get_or, take, map, filter, sym, ap, ◌∙◌, arith, refl}
use Rattle.std.specs.List.{list_any}
use Rattle.std.specs.Ordering.{nat_cmp}
use Rattle.std.specs.FinSet.{empty, from_list}
use Rattle.field_schema.specs.declared.key.Key.TheVariants as key
use Rattle.field_schema.specs.Values.{values_at}
use Rattle.doc_model.specs.Document.{Document}
use Rattle.doc_sets.specs.Sets.{Numbers}
use Rattle.query_tree.specs.Matches.{has_words, is_empty}
use Rattle.segment_postings.specs.declared.posting.Position.{Position}
use Rattle.segment_postings.specs.Numbered.{Numbered, IsNumbered}
use Rattle.segment_postings.specs.Positions.{positions_of}
use Rattle.query_eval.specs.Found.{found}
use Rattle.query_eval.specs.Runs.{is_position, moved_on}
use Rattle.query_eval.proofs.Loops.{take_all, take_one}
use Rattle.query_eval.proofs.Phrases.{runs, runs_upto, runs_none, runs_more, phrase_set}
use Rattle.query_eval.proofs.Verdicts.{found_none}

-- ---- words so far

pub first_word : (v : Numbered) (field : ℕ) (words : List (List ℕ)) (w : List ℕ) (ws : List (List ℕ)) (ps : List Position) → words ≡ w ∷ ws → ps ≡ positions_of v field (key.Token w) → ps ≡ runs_upto field words 0 v.list
first_word v field words w ws ps e is =
    is ∙ runs_none field w v.list ∙ sym (ap (λ xs. runs_upto field xs 0 v.list) e)

length_take : {A : Type 0} (i : ℕ) (xs : List A) → i ≤ length xs → length (take i xs) ≡ i
length_take zero xs h = refl
length_take (suc i) [] h = absurd (omega (arith, h))
length_take (suc i) (x ∷ xs) h = ap suc (length_take i xs (omega (arith, h)))

pub next_word : (v : Numbered) (field : ℕ) (words : List (List ℕ)) (w : List ℕ) (ws : List (List ℕ)) (i : ℕ) (x : List ℕ) (held next more : List Position) → IsNumbered v → words ≡ w ∷ ws → i < length ws → x ≡ get_or ws i x → held ≡ runs_upto field words i v.list → next ≡ positions_of v field (key.Token x) → more ≡ filter (λ p. is_position (moved_on (i + 1) p) next) held → more ≡ runs_upto field words (i + 1) v.list
next_word v field words w ws i x held next more sound e within is so_far of_next put =
    let far : i + 1 ≡ length (take i ws) + 1 = ap (λ n. n + 1) (sym (length_take i ws (omega (arith, within)))) in
    let here : held ≡ runs field w (take i ws) v.list = so_far ∙ ap (λ xs. runs_upto field xs i v.list) e in
    put
    ∙ (λ j. filter (λ p. is_position (moved_on (i + 1) p) (of_next j)) (here j))
    ∙ runs_more field w (take i ws) x (i + 1) 0 v.size v.list far sound.rising
    ∙ ap (λ xs. runs field w xs v.list) (sym (take_one i ws x within is))
    ∙ sym (ap (λ xs. runs_upto field xs (i + 1) v.list) e)

-- ---- the documents

abbrev pub says_words : ℕ → List (List ℕ) → Document → Bool
says_words field words d = not (is_empty words) && list_any (has_words words) (values_at d.values field)

pub last_word : (v : Numbered) (field : ℕ) (words : List (List ℕ)) (w : List ℕ) (ws : List (List ℕ)) (i : ℕ) (held : List Position) (numbers : List ℕ) → words ≡ w ∷ ws → length ws ≤ i → held ≡ runs_upto field words i v.list → numbers ≡ map (λ p. p.doc) held → from_list {R = nat_cmp} numbers ≡ found (says_words field words) v
last_word v field words w ws i held numbers e whole so_far told =
    ap (λ ns. from_list {R = nat_cmp} ns) (told ∙ ap (map (λ (p : Position). p.doc)) (so_far ∙ ap (λ xs. runs_upto field xs i v.list) e ∙ ap (λ xs. runs field w xs v.list) (take_all i ws whole)))
    ∙ phrase_set field w ws v
    ∙ sym (ap (λ xs. found (says_words field xs) v) e)

pub no_words : (v : Numbered) (field : ℕ) (words : List (List ℕ)) (s : Numbers) → length words ≡ 0 → s ≡ empty → s ≡ found (says_words field words) v
no_words v field [] s h e = e ∙ found_none v
no_words v field (w ∷ ws) s h e = absurd (omega (arith, h))
