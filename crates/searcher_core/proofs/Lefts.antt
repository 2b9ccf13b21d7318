-- Sets of what passes, as they are met one after another.
use Rattle.std.proofs.Common.{◌≡◌, ℕ, suc, ◌+◌, ◌<◌, Bool, true, false, not, ◌&&◌, ◌||◌, cond, List, [], ◌∷◌, ◌++◌, length, map, filter, Option, Some, None, nat_eq, refl, sym, ap, subst, ◌∙◌, arith}
use Rattle.std.specs.List.{list_all, list_any}
use Rattle.std.specs.Ordering.{nat_cmp}
use Rattle.std.specs.Cmp.{nat_cmp_total}
use Rattle.std.specs.FinSet.{contains, empty, from_list, intersection, len, empty_of_len, contains-empty, contains-intersection, same_set, nat_cmp-IsAntisymmetric}
use Rattle.std.specs.Prelude.{if◌then◌else◌}
use Rattle.std.proofs.lemmas.Bool.{ne_eqb}
use Rattle.std.proofs.lemmas.List.{length-append}
use Rattle.std.proofs.lemmas.List.Folds.{list_all-append}
use Rattle.doc_model.specs.Document.{Document}
use Rattle.doc_sets.specs.Sets.{Numbers}
use Rattle.doc_sets.specs.declared.TheConstants.{MAX_DOCS}
use Rattle.doc_sets.proofs.SetsOf.{len_of}
use Rattle.query_eval.specs.Found.{found, numbers_where, answer}
use Rattle.query_eval.specs.Kept.{Asks}
use Rattle.query_eval.proofs.Ascents.{ascending_where}
use Rattle.query_eval.proofs.Verdicts.{and_true, found_all, found_and, found_alike, found_every}
use Rattle.query_tree.specs.declared.query.Query.{Query, out-Query}
use Rattle.query_tree.specs.Matches.{top}
use Rattle.segment_postings.specs.Numbered.{Numbered, IsNumbered, docs, numbers}
use Rattle.searcher_core.specs.Evaluated.{AskInTurn, passes_too, while_some}
use Rattle.searcher_core.specs.Meeting.{HasMet, IsCommonOf, left_of}
use Rattle.searcher_core.proofs.Turns.{asked_both, asked_one, passes_last, passes_none, passes_one, passes_rest, while_joined, while_more, while_none}

some_where : (p : Document → Bool) (es : List (ℕ × Document)) → list_any p (map (λ e. e.1) es) ≡ not (nat_eq (length (numbers_where p es)) 0)
some_where p [] = refl
some_where p (e ∷ es) =
    elim (p e.1) as (λ b. (b || list_any p (map (λ f. f.1) es)) ≡ not (nat_eq (length (map (λ f. f.0) (cond b (e ∷ filter (λ f. p f.1) es) (filter (λ f. p f.1) es)))) 0)) [
      | true ↦ sym (ap not (ne_eqb (suc (length (numbers_where p es))) 0 (λ q. omega (arith, q))))
      | false ↦ some_where p es
    ]

-- some document passes exactly where the set of those that do has a member
pub some_left : (p : Document → Bool) (v : Numbered) → IsNumbered v → list_any p (docs v) ≡ not (nat_eq (len (found p v)) 0)
unfolding found
some_left p v sound =
    some_where p v.list ∙ ap (λ n. not (nat_eq n 0)) (sym (len_of 0 MAX_DOCS (numbers_where p v.list) (ascending_where p v sound)))

pub none_left : (p : Document → Bool) (v : Numbered) (n : ℕ) → IsNumbered v → n ≡ len (found p v) → n ≡ 0 → list_any p (docs v) ≡ false
none_left p v n sound is zero = some_left p v sound ∙ ap (λ m. not (nat_eq m 0)) (sym is ∙ zero)

pub one_left : (p : Document → Bool) (v : Numbered) (n : ℕ) → IsNumbered v → n ≡ len (found p v) → (n ≡ 0 → ⊥) → list_any p (docs v) ≡ true
one_left p v n sound is some = some_left p v sound ∙ ap (λ m. not (nat_eq m 0)) (sym is) ∙ ap not (ne_eqb n 0 some)

empty_meets : (s : Numbers) → intersection empty s ≡ empty
empty_meets s = same_set nat_cmp_total nat_cmp-IsAntisymmetric _ _ (λ n.
    contains-intersection nat_cmp_total empty s n ∙ ap (λ b. b && contains s n) (contains-empty nat_cmp n) ∙ sym (contains-empty nat_cmp n))

-- where nothing passes, nothing passes more
pub none_more : (p r : Document → Bool) (v : Numbered) (n : ℕ) → IsNumbered v → n ≡ len (found p v) → n ≡ 0 → found p v ≡ found (λ d. p d && r d) v
none_more p r v n sound is zero =
    let none : found p v ≡ empty = empty_of_len (found p v) (sym is ∙ zero) in
    none ∙ sym (empty_meets (found r v)) ∙ ap (λ s. intersection s (found r v)) (sym none) ∙ found_and p r v sound

-- ---- what is left, met by what queries match

pub nothing_met : (v : Numbered) (left : Numbers) (before : ℕ) → HasMet v [] left left before before
nothing_met v left before = record {
  found_is = λ p at. at ∙ found_alike p (passes_too p []) v (λ d. sym (passes_none p d));
  asked = λ p at. refl;
}

-- no document is left, and none is looked for
pub none_met : (v : Numbered) (q : Query) (left : Numbers) (n before : ℕ) → IsNumbered v → n ≡ len left → n ≡ 0 → HasMet v (q ∷ []) left left before before
none_met v q left n before sound is zero = record {
  found_is = λ p at. at ∙ none_more p (λ d. list_all (top d.values) (q ∷ [])) v n sound (is ∙ ap len at) zero;
  asked = λ p at. subst (λ qs. AskInTurn qs before before) (sym (while_none (docs v) p (q ∷ []) (none_left p v n sound (is ∙ ap len at) zero))) refl;
}

-- some are left, and meet what a query matches
pub some_met : (v : Numbered) (q : Query) (left others both : Numbers) (n before after : ℕ) → IsNumbered v → n ≡ len left → (n ≡ 0 → ⊥) → others ≡ answer q v → both ≡ intersection left others
    → Asks (out-Query q) before after → HasMet v (q ∷ []) left both before after
some_met v q left others both n before after sound is some matched meets asks = record {
  found_is = λ p at.
      meets ∙ (λ i. intersection (at i) (matched i)) ∙ found_and p (λ d. top d.values q) v sound
      ∙ found_alike (λ d. p d && top d.values q) (passes_too p (q ∷ [])) v (λ d. sym (passes_one p q d));
  asked = λ p at.
      subst (λ b. AskInTurn (if b then q ∷ [] else []) before after) (sym (one_left p v n sound (is ∙ ap len at) some)) (asked_one q before after asks);
}

-- all live documents meet what a query matches
pub all_meet : (v : Numbered) (q : Query) (left others : Numbers) → IsNumbered v → left ≡ from_list (numbers v) → others ≡ answer q v → others ≡ intersection left others
all_meet v q left others sound all matched =
    matched ∙ sym (found_and (λ d. true) (λ d. top d.values q) v sound) ∙ sym (λ i. intersection ((all ∙ found_all v) i) (matched i))

-- one query more
pub met_more : (v : Numbered) (qs : List Query) (q : Query) (first left met : Numbers) (before between after : ℕ) → HasMet v qs first left before between → HasMet v (q ∷ []) left met between after
    → HasMet v (qs ++ q ∷ []) first met before after
met_more v qs q first left met before between after so now = record {
  found_is = λ p at.
      now.found_is (passes_too p qs) (so.found_is p at)
      ∙ found_alike (passes_too (passes_too p qs) (q ∷ [])) (passes_too p (qs ++ q ∷ [])) v (λ d. passes_one (passes_too p qs) q d ∙ passes_last p qs q d);
  asked = λ p at.
      subst (λ rs. AskInTurn rs before after) (sym (while_more (docs v) p qs q))
      (asked_both (while_some (docs v) p qs) (while_some (docs v) (passes_too p qs) (q ∷ [])) before between after (so.asked p at) (now.asked (passes_too p qs) (so.found_is p at)));
}

-- a query, and then others
pub met_both : (v : Numbered) (q : Query) (qs : List Query) (first left met : Numbers) (before between after : ℕ) → HasMet v (q ∷ []) first left before between → HasMet v qs left met between after
    → HasMet v (q ∷ qs) first met before after
met_both v q qs first left met before between after so now = record {
  found_is = λ p at.
      now.found_is (passes_too p (q ∷ [])) (so.found_is p at)
      ∙ found_alike (passes_too (passes_too p (q ∷ [])) qs) (passes_too p (q ∷ qs)) v (passes_rest p q qs);
  asked = λ p at.
      subst (λ rs. AskInTurn rs before after) (sym (while_joined (docs v) p q qs))
      (asked_both (while_some (docs v) p (q ∷ [])) (while_some (docs v) (passes_too p (q ∷ [])) qs) before between after (so.asked p at) (now.asked (passes_too p (q ∷ [])) (so.found_is p at)));
}

-- what sets of queries have in common is what matches all of them
pub common_left : (v : Numbered) (qs : List Query) (sets : List Numbers) (left : Option Numbers) → IsNumbered v → sets ≡ map (λ q. answer q v) qs → IsCommonOf sets left
    → left_of v left ≡ found (λ d. list_all (top d.values) qs) v
common_left v [] sets None sound are is = found_all v
common_left v (q ∷ qs) sets None sound are is = cc
common_left v [] sets (Some s) sound are is = (let none = ap length are in let some = is.0 in absurd (omega (arith, none, some)))
common_left v (q ∷ qs) sets (Some s) sound are is = found_every (λ x d. top d.values x) (q ∷ qs) v sets s (omega arith) sound are is.1

-- one set more
pub common_first : (x : Numbers) → IsCommonOf (x ∷ []) (Some x)
common_first x = (omega arith, record { members = λ n. sym (and_true (contains x n)) })

pub common_more : (sets : List Numbers) (x left both : Numbers) → IsCommonOf sets (Some left) → both ≡ intersection left x → IsCommonOf (sets ++ x ∷ []) (Some both)
common_more sets x left both is meets =
    let more : length (sets ++ x ∷ []) ≡ length sets + 1 = length-append sets (x ∷ []) in (
      omega (arith, more),
      record {
        members = λ n.
            ap (λ s. contains s n) meets ∙ contains-intersection nat_cmp_total left x n
            ∙ (λ i. is.1.members n i && sym (and_true (contains x n)) i)
            ∙ sym (list_all-append (λ s. contains s n) sets (x ∷ []));
      },
    )
