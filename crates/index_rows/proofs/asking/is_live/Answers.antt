-- A number of the set is that of a live document.
use Rattle.std.proofs.Common.{ℕ, true, false, IsTrue, ◌||◌, cond, List, [], ◌∷◌, map, find, nat_eq, ap, subst, refl, ◌∙◌, Some, IsSome}
use Rattle.std.specs.Option.{option_map}
use Rattle.std.specs.FinSet.{contains, contains-from_list_nat}
use Rattle.doc_model.specs.Document.{Document}
use Rattle.doc_sets.specs.Sets.{is_in}
use Rattle.segment_postings.specs.Numbered.{numbers}
use Rattle.index_rows.proofs.asking.is_live.Goals as goal

-- a number that stands among others is found
found : (es : List (ℕ × Document)) (q : ℕ) → IsTrue (is_in (map (λ e. e.0) es) q) → IsSome (option_map (λ e. e.1) (find (λ e. nat_eq e.0 q) es))
found [] q h = absurd (cc)
found (e ∷ es) q h =
    elim (nat_eq e.0 q) as (λ b. IsTrue (b || is_in (map (λ e. e.0) es) q) → IsSome (option_map (λ e. e.1) (cond b (Some e) (find (λ e. nat_eq e.0 q) es)))) [
      | true ↦ λ _. refl
      | false ↦ λ rest. found es q rest
    ] h

pub returns : goal.returns
returns c live =
    let same = c.has.ensures.member ∙ ap (λ s. contains s c.args.doc) c.live.ensures.numbers ∙ contains-from_list_nat (numbers c.args.probe.now.view.now.seen) c.args.doc in
    found c.args.probe.now.view.now.seen.list c.args.doc (subst IsTrue same live)
