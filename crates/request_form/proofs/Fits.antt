-- Requests that read keep their ranges.
use Rattle.std.proofs.Common.{◌≡◌, ℕ, ◌≤◌, ◌<◌, ◌&&◌, not, Bool, true, false, cond, leb, List, [], ◌∷◌, length, filter, Option, Some, None, Result, Ok, Err, IfOk, ok_or, codes, refl, sym, ap, ◌∙◌, subst, arith}
use Rattle.std.specs.List.{All, AllPairs}
use Rattle.std.specs.Str.{all_ascii_digits}
use Rattle.std.specs.Str.Parse.{digits_value}
use Rattle.std.proofs.lemmas.Bool.{false≢true}
use Rattle.std.proofs.lemmas.Bool.Decides.{nat_tests}
use Rattle.std.proofs.lemmas.List.Elements.{All-nil, All-cons}
use Rattle.std.proofs.lemmas.List.Kept.{AllPairs-cons, AllPairs-filter}
use Rattle.field_schema.specs.Outcome.{Gives}
use Rattle.field_schema.specs.declared.field.Field.{Field}
use Rattle.query_tree.specs.Order.{query_eq}
use Rattle.query_tree.specs.QueryLaws.{query_eq-refl}
use Rattle.query_text.specs.declared.op.Op.{Op}
use Rattle.query_text.specs.Sorts.{and_then}
use Rattle.request_form.specs.declared.fault.RequestFault.{RequestFault}
use Rattle.request_form.specs.declared.params.Param.{Param}
use Rattle.request_form.specs.declared.request.Defaults.{Defaults}
use Rattle.request_form.specs.declared.request.Filter.{Filter}
use Rattle.request_form.specs.declared.request.Request.{Request}
use Rattle.request_form.specs.Params.{value_of, values_of}
use Rattle.request_form.specs.Values.{count_in, count_of, fields_of, is_count, op_of, read_or}
use Rattle.request_form.specs.Requests.{default_field, filters_in, filters_of, is_no_memory, main_query, once, query_in, request_of, sort_by_params}
use Rattle.request_form.specs.Ranges.{Differ, IsRequest}

-- ---- filters

abbrev differs : Filter → Filter → Bool
differs f g = not (query_eq f.query g.query)

apart : (f g : Filter) → query_eq f.query g.query ≡ false → Differ f g
apart f g other same = false≢true (sym other ∙ ap (query_eq f.query) (sym same) ∙ query_eq-refl f.query)

all_apart : (f : Filter) (gs : List Filter) → All (Differ f) (filter (differs f) gs)
all_apart f [] = All-nil (Differ f)
all_apart f (g ∷ gs) = by (query_eq f.query g.query) refl (all_apart f gs)
  where
    by : (b : Bool) → query_eq f.query g.query ≡ b → All (Differ f) (filter (differs f) gs) → All (Differ f) (cond (not b) (g ∷ filter (differs f) gs) (filter (differs f) gs))
    by true e others = others
    by false e others = All-cons (Differ f) g (filter (differs f) gs) (apart f g e) others

pub once_differ : (fs : List Filter) → AllPairs Differ (once fs)
once_differ [] = λ i j d before within. absurd (omega arith)
once_differ (f ∷ fs) =
    AllPairs-cons Differ f (filter (differs f) (once fs)) (all_apart f (once fs)) (AllPairs-filter Differ (differs f) (once fs) (once_differ fs))

-- ---- counts

and_right : (a b : Bool) → (a && b) ≡ true → b ≡ true
and_right true b h = h
and_right false b h = absurd (false≢true h)

count_fits : (told : RequestFault) (missing : ℕ) (value : Option (List ℕ)) → missing ≤ 2147483647 → IfOk (read_or missing count_in told value) (λ n. n ≤ 2147483647)
count_fits told missing None fits = fits
count_fits told missing (Some value) fits = by (is_count value) refl
  where
    by : (b : Bool) → is_count value ≡ b → IfOk (ok_or (cond b (Some (digits_value 10 value)) None) told) (λ n. n ≤ 2147483647)
    by true e = let most : leb (digits_value 10 value) 2147483647 ≡ true = and_right (leb 1 (length value) && leb (length value) 10 && all_ascii_digits value) (leb (digits_value 10 value) 2147483647) e in grind (arith, nat_tests)
    by false e = tt

-- ---- the request

any_then : {A B E : Type 0} (Q : B → Type 0) (r : Result A E) (f : A → Result B E) → ((x : A) → IfOk (f x) Q) → IfOk (and_then r f) Q
any_then Q (Ok x) f h = h x
any_then Q (Err e) f h = tt

fits_then : {A B E : Type 0} (P : A → Type 0) (Q : B → Type 0) (r : Result A E) (f : A → Result B E) → IfOk r P → ((x : A) → P x → IfOk (f x) Q) → IfOk (and_then r f) Q
fits_then P Q (Ok x) f p h = h x p
fits_then P Q (Err e) f p h = tt

filters_fit : (fields : List Field) (df : Option ℕ) (o : Op) (most : ℕ) (ps : List Param) → IfOk (filters_of fields df o most ps) (AllPairs Differ)
filters_fit fields df o most ps =
    any_then (AllPairs Differ) (filters_in (query_in fields df o most) 1 (values_of (codes "fq") ps)) (λ all. Ok (once all)) once_differ

pub request_fits : (fields : List Field) (d : Defaults) (ps : List Param) → IfOk (request_of fields d ps) IsRequest
unfolding request_of
request_fits fields d ps =
    fits_then (λ n. n ≤ 2147483647) IsRequest (count_of (codes "start") 0 ps) _ (count_fits _ 0 (value_of (codes "start") ps) (omega arith)) (λ start s.
    fits_then (λ n. n ≤ 2147483647) IsRequest (count_of (codes "rows") 10 ps) _ (count_fits _ 10 (value_of (codes "rows") ps) (omega arith)) (λ rows r.
    any_then IsRequest (sort_by_params fields ps) _ (λ sort.
    any_then IsRequest (op_of ps) _ (λ o.
    any_then IsRequest (main_query fields (default_field fields d ps) o d.most ps) _ (λ q.
    fits_then (AllPairs Differ) IsRequest (filters_of fields (default_field fields d ps) o d.most ps) _ (filters_fit fields (default_field fields d ps) o d.most ps) (λ filters f.
    record { start = s; rows = r; filters = f }))))))

-- what holds of the value that is stated holds of the one that is given
pub given_fits : (answer stated : Result Request RequestFault) → Gives is_no_memory answer stated → IfOk stated IsRequest → IfOk answer IsRequest
given_fits (Ok r) stated gives fits = subst (λ (s : Result Request RequestFault). IfOk s IsRequest) gives fits
given_fits (Err e) stated gives fits = tt
