-- Records keep their names when keys are added behind the others.
use Rattle.std.proofs.Common.{◌≡◌, ℕ, zero, suc, Bool, true, false, List, [], ◌∷◌, ◌++◌, Option, Some, None, IsSome, refl, true≢false, sym, ap, subst, ◌∙◌, if◌then◌else◌, slice_get}
use Rattle.std.specs.Prelude.{option_map, option_and_then, unwrap_or}
use Rattle.std.specs.List.{cons_option, find, list_any}
use Rattle.std.proofs.lemmas.List.Elements.{filter_map-append}
use Rattle.std.proofs.lemmas.Option.{none-some}
use Rattle.cache_traces.specs.declared.told.Told.{Told}
use Rattle.indexmap.specs.IndexSet.{insert_key}
use Rattle.cache_traces.specs.declared.record.Done.{Done}
use Rattle.cache_traces.specs.declared.record.Done.TheVariants as done
use Rattle.cache_traces.specs.declared.record.Record.{Record}
use Rattle.cache_traces.specs.declared.act.Act.{Act}
use Rattle.cache_traces.specs.declared.act.Step.{Step}
use Rattle.cache_traces.specs.declared.act.Act.TheVariants.{Looked, Finished, GaveUp, Listed}
use Rattle.cache_traces.specs.Named.{all_named, named, step_of, steps_of, AllNamed}
use Rattle.cache_traces.specs.Traced.{Grows, and_then}

-- what is mapped was there
there : {A B : Type 0} (f : A → B) (o : Option A) → IsSome (option_map f o) → IsSome o
there f None h = absurd (true≢false (sym h))
there f (Some x) h = h

there_first : {A B : Type 0} (f : A → Option B) (o : Option A) → IsSome (option_and_then f o) → IsSome o
there_first f None h = absurd (true≢false (sym h))
there_first f (Some x) h = refl

module _ {K : Type 0} where
  get_front : (ks more : List K) (n : ℕ) → IsSome (slice_get ks n) → slice_get (ks ++ more) n ≡ slice_get ks n
  get_front [] more n h = absurd (true≢false (sym h))
  get_front (k ∷ ks) more zero h = refl
  get_front (k ∷ ks) more (suc n) h = get_front ks more n h

  all_front : (ks more : List K) (ns : List ℕ) → IsSome (all_named ks ns) → all_named (ks ++ more) ns ≡ all_named ks ns
  all_front ks more [] h = refl
  all_front ks more (n ∷ ns) h = by (slice_get ks n) refl (all_front ks more ns)
    where
      by : (o : Option K) → slice_get ks n ≡ o → (IsSome (all_named ks ns) → all_named (ks ++ more) ns ≡ all_named ks ns) → all_named (ks ++ more) (n ∷ ns) ≡ all_named ks (n ∷ ns)
      by None e rest = absurd (true≢false (sym (subst (λ x. IsSome (option_and_then (λ k. option_map (λ ls. k ∷ ls) (all_named ks ns)) x)) e h)))
      by (Some k) e rest =
          let is : slice_get (ks ++ more) n ≡ slice_get ks n = get_front ks more n (there_first (λ l. option_map (λ ls. l ∷ ls) (all_named ks ns)) (slice_get ks n) h) in
          let others : IsSome (all_named ks ns) = there (λ ls. k ∷ ls) (all_named ks ns) (subst (λ x. IsSome (option_and_then (λ l. option_map (λ ls. l ∷ ls) (all_named ks ns)) x)) e h) in
          (λ i. option_and_then (λ l. option_map (λ ls. l ∷ ls) (rest others i)) (is i))

  module _ {N : Type 0} where
    abbrev pub look_up : ℕ → Bool → Told → K → Act K N
    look_up need again told k = Looked k need again told

    abbrev pub end_with : N → Bool → K → Act K N
    end_with numbers stored k = Finished k numbers stored

    abbrev pub end_without : K → Act K N
    end_without k = GaveUp k

    abbrev pub list : ℕ → List K → Act K N
    list most ks = Listed most ks

    named_front : (ks more : List K) (d : Done N) → IsSome (named ks d) → named (ks ++ more) d ≡ named ks d
    named_front ks more (done.Looked key need again told) h = ap (option_map (look_up need again told)) (get_front ks more key (there (look_up need again told) (slice_get ks key) h))
    named_front ks more (done.Finished key numbers stored) h = ap (option_map (end_with numbers stored)) (get_front ks more key (there (end_with numbers stored) (slice_get ks key) h))
    named_front ks more (done.GaveUp key) h = ap (option_map end_without) (get_front ks more key (there end_without (slice_get ks key) h))
    named_front ks more (done.Listed most ns) h = ap (option_map (list most)) (all_front ks more ns.items (there (list most) (all_named ks ns.items) h))

    abbrev pub with_seat : ℕ → Act K N → Step K N
    with_seat n act = record { seat = n; act = act }

    step_front : (ks more : List K) (r : Record N) → IsSome (step_of ks r) → step_of (ks ++ more) r ≡ step_of ks r
    step_front ks more r h = ap (option_map (with_seat r.seat)) (named_front ks more r.done (there (with_seat r.seat) (named ks r.done) h))

    pub steps_front : (ks more : List K) (rs : List (Record N)) → AllNamed ks rs → steps_of (ks ++ more) rs ≡ steps_of ks rs
    steps_front ks more [] h = refl
    steps_front ks more (r ∷ rs) h = λ i. cons_option (step_front ks more r h.0 i) (steps_front ks more rs h.1 i)

    pub named_all : (ks more : List K) (rs : List (Record N)) → AllNamed ks rs → AllNamed (ks ++ more) rs
    named_all ks more [] h = tt
    named_all ks more (r ∷ rs) h = (subst IsSome (sym (step_front ks more r h.0)) h.0, named_all ks more rs h.1)

    -- the keys with one inserted
    module _ (eq : K → K → Bool) (ks : List K) (k : K) (rs : List (Record N)) (h : AllNamed ks rs) where
      pub steps_insert : steps_of (insert_key eq ks k) rs ≡ steps_of ks rs
      steps_insert = elim (list_any (eq k) ks) as (λ b. steps_of (if b then ks else ks ++ k ∷ []) rs ≡ steps_of ks rs) [
        | true ↦ refl
        | false ↦ steps_front ks (k ∷ []) rs h
      ]

      pub named_insert : AllNamed (insert_key eq ks k) rs
      named_insert = elim (list_any (eq k) ks) as (λ b. AllNamed (if b then ks else ks ++ k ∷ []) rs) [
        | true ↦ h
        | false ↦ named_all ks (k ∷ []) rs h
      ]

    -- ---- one more record

    pub steps_then : (ks : List K) (rs : List (Record N)) (r : Record N) (act : Act K N) → named ks r.done ≡ Some act → steps_of ks (rs ++ r ∷ []) ≡ and_then (steps_of ks rs) r.seat act
    steps_then ks rs r act is =
        let one : steps_of ks (r ∷ []) ≡ with_seat r.seat act ∷ [] = ap (λ o. cons_option (option_map (with_seat r.seat) o) []) is in
        filter_map-append (step_of ks) rs (r ∷ []) ∙ ap (λ more. steps_of ks rs ++ more) one

    pub named_then : (ks : List K) (rs : List (Record N)) (r : Record N) → AllNamed ks rs → IsSome (named ks r.done) → AllNamed ks (rs ++ r ∷ [])
    named_then ks [] r h one = (some_mapped (named ks r.done) one, tt)
      where
        some_mapped : (o : Option (Act K N)) → IsSome o → IsSome (option_map (with_seat r.seat) o)
        some_mapped None h = absurd (true≢false (sym h))
        some_mapped (Some x) h = refl
    named_then ks (q ∷ rs) r h one = (h.0, named_then ks rs r h.1 one)

some_is : {A : Type 0} {x y : A} → Some x ≡ Some y → x ≡ y
some_is {A} {x} h = ap (λ o. unwrap_or o x) h

-- a key that is found passes the test
pub find-passes : {K : Type 0} (test : K → Bool) (ks : List K) (k : K) → find test ks ≡ Some k → test k ≡ true
find-passes test [] k h = absurd (none-some k h)
find-passes test (x ∷ xs) k h = by (test x) refl (find-passes test xs k)
  where
    by : (b : Bool) → test x ≡ b → (find test xs ≡ Some k → test k ≡ true) → test k ≡ true
    by true e rest = subst (λ y. test y ≡ true) (some_is (subst (λ b. (if b then Some x else find test xs) ≡ Some k) e h)) e
    by false e rest = rest (subst (λ b. (if b then Some x else find test xs) ≡ Some k) e h)

nothing_more : {K : Type 0} (ks : List K) → ks ≡ ks ++ []
nothing_more [] = refl
nothing_more (k ∷ ks) = ap (λ l. k ∷ l) (nothing_more ks)

-- the keys with one inserted go on from those before
pub grows-insert : {K : Type 0} (eq : K → K → Bool) (ks : List K) (k : K) → Grows ks (insert_key eq ks k)
grows-insert eq ks k = elim (list_any (eq k) ks) as (λ b. Grows ks (if b then ks else ks ++ k ∷ [])) [
  | true ↦ ([], nothing_more ks)
  | false ↦ (k ∷ [], refl)
]

pub grows-same : {K : Type 0} (ks ls : List K) → ls ≡ ks → Grows ks ls
grows-same ks ls is = ([], is ∙ nothing_more ks)
