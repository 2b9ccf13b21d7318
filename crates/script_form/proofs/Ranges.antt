-- What the checks of a configuration give.
use Rattle.std.proofs.Common.{◌≡◌, ℕ, ◌-◌, ◌≤◌, ◌&&◌, List, [], ◌∷◌, Bool, true, false, cond, length, take, Option, Some, None, option_map, option_and_then, ok_or, Result, Ok, Err, IfOk, slice_get, nat_eq, refl, ap, subst, arith, lit≤, IsTrue, IsSomeAnd, codes, leb}
use Rattle.std.specs.Prelude.{⊤, MatchOption}
use Rattle.std.specs.Cmp.{second_so}
use Rattle.std.specs.List.{All, AllByRecursion, ends_with, filter_map}
use Rattle.std.specs.Result.{result_ok}
use Rattle.std.specs.Option.{option_map_or, option_or}
use Rattle.std.specs.Str.Parse.{digits_value}
use Rattle.std.proofs.lemmas.Bool.Decides.{nat_tests}
use Rattle.std.proofs.lemmas.List.Elements.{All-from_recursion}
use Rattle.serde_json.specs.Data.{Data}
use Rattle.serde_json.specs.Find.{as_array, as_number, as_str, as_u64, get}
use Rattle.field_schema.proofs.FieldFaults.{read_is}
use Rattle.field_schema.specs.ReadSchema.{field_data, field_of, first_fault, is_shaped, key_in, listed, schema_of}
use Rattle.field_schema.specs.Schema.{Fields, IsSchema, field_named}
use Rattle.field_schema.specs.declared.field.Field.{Field}
use Rattle.field_schema.specs.declared.schema.SchemaFault.{SchemaFault}
use Rattle.field_schema.specs.declared.schema.SchemaFault.TheVariants as schema_fault
use Rattle.request_form.specs.Params.{params_of}
use Rattle.request_form.specs.Ranges.{IsRequest}
use Rattle.request_form.specs.Requests.{request_of}
use Rattle.request_form.specs.declared.fault.RequestFault.{RequestFault}
use Rattle.request_form.specs.declared.request.Defaults.{Defaults}
use Rattle.request_form.specs.declared.request.Request.{Request}
use Rattle.request_form.proofs.Fits.{request_fits}
use Rattle.script_form.specs.Decimals.{decimal_within, is_decimal}
use Rattle.script_form.specs.Lines.{config_text, has_marker}
use Rattle.script_form.specs.Ranges.{IsConfig, IsIndexed, IsWarmSetting, IsWithin, ReadConfigIsWithinRanges}
use Rattle.script_form.specs.ReadConfig.{cache_check, cache_setting, cache_size, check, config_in, config_of, default_cache, documents_check, each_some, failed, field_check, flag_check, indexed_field, is_object, member_or, no_warming, number_check, object_in, percentage, request_in, requests_check, requests_in, schema_check, schema_told, text_config, warm_setting, whole_within}
use Rattle.script_form.specs.Results.{result_then}
use Rattle.script_form.specs.declared.config.Config.{Config}
use Rattle.script_form.specs.declared.config.ConfigRefusal.{ConfigRefusal}
use Rattle.script_form.specs.declared.config.WarmSetting.{WarmSetting}
use Rattle.script_form.specs.declared.member.CacheSetting.{CacheSetting}

-- ---- results and options that give a value

pub then_ok : {A B E : Type 0} (r : Result A E) (next : A → Result B E) (y : B) → result_then r next ≡ Ok y → (x : A) × (r ≡ Ok x) × (next x ≡ Ok y)
then_ok (Ok x) next y h = (x, refl, h)
then_ok (Err e) next y h = absurd (cc)

ok_some : {A : Type 0} (o : Option A) (e : ConfigRefusal) (x : A) → ok_or o e ≡ Ok x → o ≡ Some x
ok_some (Some a) e x h = cc
ok_some None e x h = absurd (cc)

and_then_some : {A B : Type 0} (f : A → Option B) (o : Option A) (y : B) → option_and_then f o ≡ Some y → (x : A) × (o ≡ Some x) × (f x ≡ Some y)
and_then_some f (Some x) y h = (x, refl, h)
and_then_some f None y h = absurd (cc)

map_some : {A B : Type 0} (f : A → B) (o : Option A) (y : B) → option_map f o ≡ Some y → (x : A) × (o ≡ Some x) × (f x ≡ y)
map_some f (Some x) y h = (x, refl, cc)
map_some f None y h = absurd (cc)

-- a member is what is meant where it is missing, or what a value reads to
module _ {A : Type 0} (P : A → Type 0) (missing : A) (reads : Data → Option A) where
  member_cases : (m : Option Data) (x : A) → P missing → ((d : Data) (y : A) → reads d ≡ Some y → P y) → option_map_or reads m (Some missing) ≡ Some x → P x
  member_cases None x here there h = let e : missing ≡ x = cc in subst P e here
  member_cases (Some d) x here there h = there d x h

  pub checked : (at : ℕ) (name : List ℕ) (d : Data) (x : A) → P missing → ((e : Data) (y : A) → reads e ≡ Some y → P y) → check at name missing reads d ≡ Ok x → P x
  checked at name d x here there h = member_cases (get name d) x here there (ok_some (member_or name missing reads d) _ x h)

pub if_some : {A : Type 0} (b : Bool) (v n : A) → cond b (Some v) None ≡ Some n → (b ≡ true) × (v ≡ n)
if_some true v n h = (refl, cc)
if_some false v n h = absurd (cc)

if_then : {A : Type 0} (b : Bool) (o : Option A) (n : A) → cond b o None ≡ Some n → o ≡ Some n
if_then true o n h = h
if_then false o n h = absurd (cc)

-- ---- each member

within_from : (low high v n : ℕ) → (leb low v && leb v high) ≡ true → v ≡ n → IsWithin low high n
within_from low high v n h e = subst (IsWithin low high) e (grind (arith, nat_tests))

whole_is : (low high : ℕ) (d : Data) (n : ℕ) → whole_within low high d ≡ Some n → IsWithin low high n
whole_is low high d n h =
    let p = and_then_some (λ v. cond (leb low v && leb v high) (Some v) None) (option_and_then as_u64 (as_number d)) n h in
    let q = if_some (leb low p.0 && leb p.0 high) p.0 n p.2 in
    within_from low high p.0 n q.0 q.1

pub decimal_is : (low high : ℕ) (text : List ℕ) (n : ℕ) → decimal_within low high text ≡ Some n → IsWithin low high n
decimal_is low high text n h =
    let v = digits_value 10 text in
    let q = if_some (is_decimal text && (leb low v && leb v high)) v n h in
    within_from low high v n (second_so (is_decimal text) (leb low v && leb v high) q.0) q.1

percentage_is : (text : List ℕ) (n : ℕ) → percentage text ≡ Some n → n ≤ 100
percentage_is text n h =
    (decimal_is 0 100 (take (length text - 1) text) n (if_then (ends_with nat_eq text (codes "%")) (decimal_within 0 100 (take (length text - 1) text)) n h)).1

warm_from : (a b : Option ℕ) (w : WarmSetting) → ((n : ℕ) → a ≡ Some n → n ≤ 4096) → ((n : ℕ) → b ≡ Some n → n ≤ 100)
    → option_or (option_map (λ n. record { number = n; percent = false }) a) (option_map (λ n. record { number = n; percent = true }) b) ≡ Some w → IsWarmSetting w
warm_from (Some n) b w p q h =
    let this : WarmSetting = record { number = n; percent = false } in
    let e : this ≡ w = cc in subst IsWarmSetting e (p n refl)
warm_from None (Some n) w p q h =
    let this : WarmSetting = record { number = n; percent = true } in
    let e : this ≡ w = cc in subst IsWarmSetting e (q n refl)
warm_from None None w p q h = absurd (cc)

warm_is : (d : Data) (w : WarmSetting) → warm_setting d ≡ Some w → IsWarmSetting w
warm_is d w h =
    warm_from (whole_within 0 4096 d) (option_and_then percentage (as_str d)) w (λ n e. (whole_is 0 4096 d n e).1)
    (λ n e. let p = and_then_some percentage (as_str d) n e in percentage_is p.0 n p.2) h

size_is : (d : Data) (n : ℕ) → cache_size d ≡ Some n → IsWithin 1 4096 n
size_is d n h =
    member_cases (IsWithin 1 4096) 512 (whole_within 1 4096) (get (codes "size") d) n (omega arith, omega arith) (whole_is 1 4096)
    (if_then (is_object d) (member_or (codes "size") 512 (whole_within 1 4096) d) n h)

abbrev IsCache : CacheSetting → Type 0
IsCache c = IsWithin 1 4096 c.size × IsWarmSetting c.warm

cache_is : (d : Data) (c : CacheSetting) → cache_setting d ≡ Some c → IsCache c
cache_is d c h =
    let p = and_then_some (λ size. option_map (λ warm. record { size = size; warm = warm }) (member_or (codes "autowarmCount") no_warming warm_setting d)) (cache_size d) c h in
    let q = map_some (λ warm. record { size = p.0; warm = warm }) (member_or (codes "autowarmCount") no_warming warm_setting d) c p.2 in
    let warm = member_cases IsWarmSetting no_warming warm_setting (get (codes "autowarmCount") d) q.0 (omega arith) warm_is q.1 in
    subst IsCache q.2 (size_is d p.0 p.1, warm)

indexed_so : (o : Option Field) → option_map_or (λ f. f.indexed) o false ≡ true → IsSomeAnd o (λ f. IsTrue f.indexed)
indexed_so (Some f) h = h
indexed_so None h = absurd (cc)

indexed_is : (s : Fields) (d : Data) (n : ℕ) → indexed_field s d ≡ Some n → IsIndexed s n
indexed_is s d n h =
    let p = and_then_some (λ m. cond (option_map_or (λ f. f.indexed) (slice_get s.list m) false) (Some m) None) (option_and_then (λ name. field_named name s.list) (as_str d)) n h in
    let q = if_some (option_map_or (λ f. f.indexed) (slice_get s.list p.0) false) p.0 n p.2 in
    subst (IsIndexed s) q.1 (indexed_so (slice_get s.list p.0) q.0)

abbrev IsDefault : Fields → Option ℕ → Type 0
IsDefault s df = MatchOption df ⊤ (IsIndexed s)

default_is : (s : Fields) (d : Data) (df : Option ℕ) → option_map Some (indexed_field s d) ≡ Some df → IsDefault s df
default_is s d df h =
    let p = map_some (λ n. Some n) (indexed_field s d) df h in
    subst (IsDefault s) p.2 (indexed_is s d p.0 p.1)

-- ---- the requests of listeners

ok_is : (r : Result Request RequestFault) (x : Request) → result_ok r ≡ Some x → IfOk r IsRequest → IsRequest x
ok_is (Ok y) x h k = let e : y ≡ x = cc in subst IsRequest e k
ok_is (Err e) x h k = absurd (cc)

module _ (s : Fields) (defaults : Defaults) where
  request_is : (v : Data) (r : Request) → request_in s defaults v ≡ Some r → IsRequest r
  request_is v r h =
      let p = and_then_some (λ text. result_ok (request_of s.list defaults (params_of text))) (as_str v) r h in
      ok_is (request_of s.list defaults (params_of p.0)) r p.2 (request_fits s.list defaults (params_of p.0))

  each_is : (vs : List Data) (rs : List Request) → each_some (request_in s defaults) vs ≡ Some rs → AllByRecursion IsRequest rs
  each_is [] rs h = let e : [] ≡ rs = cc in subst (AllByRecursion IsRequest) e tt
  each_is (v ∷ vs) rs h =
      let p = and_then_some (λ y. option_map (λ ys. y ∷ ys) (each_some (request_in s defaults) vs)) (request_in s defaults v) rs h in
      let q = map_some (λ ys. p.0 ∷ ys) (each_some (request_in s defaults) vs) rs p.2 in
      subst (AllByRecursion IsRequest) q.2 (request_is v p.0 p.1, each_is vs q.0 q.1)

  listed_are : (d : Data) (rs : List Request) → requests_in s defaults d ≡ Some rs → AllByRecursion IsRequest rs
  listed_are d rs h =
      let p = and_then_some (λ texts. each_some (request_in s defaults) (listed texts)) (as_array d) rs h in
      each_is (listed p.0) rs p.2

-- ---- the schema

abbrev keyed : List Field → ℕ → Fields
keyed fields key = record { list = fields; key = key }

schema_from : (shaped : Bool) (f : Option SchemaFault) (k : Option ℕ) (fields : List Field) (s : Fields)
    → cond shaped (option_map_or Err f (option_map_or (λ key. Ok (keyed fields key)) k (Err schema_fault.NoUniqueKey))) (Err schema_fault.NotObject) ≡ Ok s
    → (f ≡ None) × ((key : ℕ) × (k ≡ Some key) × (keyed fields key ≡ s))
schema_from true None (Some key) fields s h = (refl, (key, refl, cc))
schema_from true None None fields s h = absurd (cc)
schema_from true (Some e) k fields s h = absurd (cc)
schema_from false f k fields s h = absurd (cc)

schema_is : (d : Data) (s : Fields) → schema_of d ≡ Ok s → IsSchema s
schema_is d s h =
    let fields = filter_map field_of (field_data d) in
    let p = schema_from (is_shaped d) (first_fault [] (field_data d)) (key_in fields d) fields s h in
    subst IsSchema p.1.2 (read_is fields (field_data d) d p.1.0 (ap (λ (f : Option SchemaFault). option_map_or Err f (Ok fields)) p.0) p.1.1)

told_is : (at : ℕ) (name : List ℕ) (r : Result Fields SchemaFault) (s : Fields) → schema_told at name r ≡ Ok s → r ≡ Ok s
told_is at name (Ok x) s h = let e : x ≡ s = cc in ap Ok e
told_is at name (Err fault) s h = absurd (cc)

schema_member : (at : ℕ) (name : List ℕ) (m : Option Data) (e : ConfigRefusal) (s : Fields) → option_map_or (λ v. schema_told at name (schema_of v)) m (Err e) ≡ Ok s → IsSchema s
schema_member at name (Some v) e s h = schema_is v s (told_is at name (schema_of v) s h)
schema_member at name None e s h = absurd (cc)

-- ---- the checks

number_is : (at : ℕ) (name : List ℕ) (missing most : ℕ) (d : Data) (n : ℕ) → IsWithin 1 most missing → number_check at name missing most d ≡ Ok n → IsWithin 1 most n
number_is at name missing most d n here h = checked (IsWithin 1 most) missing (whole_within 1 most) at name d n here (whole_is 1 most) h

cached_is : (at : ℕ) (name : List ℕ) (d : Data) (c : CacheSetting) → cache_check at name d ≡ Ok c → IsCache c
cached_is at name d c h = checked IsCache default_cache cache_setting at name d c ((omega arith, omega arith), omega arith) cache_is h

documents_is : (at : ℕ) (name : List ℕ) (d : Data) (n : ℕ) → documents_check at name d ≡ Ok n → IsWithin 1 4096 n
documents_is at name d n h = checked (IsWithin 1 4096) 512 cache_size at name d n (omega arith, omega arith) size_is h

field_is : (at : ℕ) (name : List ℕ) (s : Fields) (d : Data) (df : Option ℕ) → field_check at name s d ≡ Ok df → IsDefault s df
field_is at name s d df h = checked (IsDefault s) None (λ v. option_map Some (indexed_field s v)) at name d df tt (default_is s) h

requests_are : (at : ℕ) (name : List ℕ) (s : Fields) (defaults : Defaults) (d : Data) (rs : List Request) → requests_check at name s defaults d ≡ Ok rs → All IsRequest rs
requests_are at name s defaults d rs h =
    All-from_recursion IsRequest rs (checked (AllByRecursion IsRequest) [] (requests_in s defaults) at name d rs tt (listed_are s defaults) h)

made : (config c : Config) → ◌≡◌ {A = Result Config ConfigRefusal} (Ok config) (Ok c) → config ≡ c
made config c h = cc

config_in_is : (d : Data) (c : Config) → config_in d ≡ Ok c → IsConfig c
config_in_is d c h =
    let version = then_ok (number_check 3 (codes "version") 1 1 d) _ c h in
    let schema = then_ok (schema_check 4 (codes "schema") d) _ c version.2 in
    let filters = then_ok (cache_check 5 (codes "filterCache") d) _ c schema.2 in
    let results = then_ok (cache_check 6 (codes "queryResultCache") d) _ c filters.2 in
    let documents = then_ok (documents_check 7 (codes "documentCache") d) _ c results.2 in
    let window = then_ok (number_check 8 (codes "queryResultWindowSize") 20 4096 d) _ c documents.2 in
    let most_docs = then_ok (number_check 9 (codes "queryResultMaxDocsCached") 200 4096 d) _ c window.2 in
    let max_warming = then_ok (number_check 10 (codes "maxWarmingSearchers") 1 4 d) _ c most_docs.2 in
    let cold = then_ok (flag_check 11 (codes "useColdSearcher") d) _ c max_warming.2 in
    let most_clauses = then_ok (number_check 12 (codes "maxBooleanClauses") 1024 65535 d) _ c cold.2 in
    let warmers = then_ok (number_check 13 (codes "warmers") 1 4 d) _ c most_clauses.2 in
    let df = then_ok (field_check 14 (codes "df") schema.0 d) _ c warmers.2 in
    let defaults : Defaults = record { df = df.0; most = most_clauses.0 } in
    let first = then_ok (requests_check 15 (codes "firstSearcher") schema.0 defaults d) _ c df.2 in
    let fresh = then_ok (requests_check 16 (codes "newSearcher") schema.0 defaults d) _ c first.2 in
    let filter_is = cached_is 5 (codes "filterCache") d filters.0 filters.1 in
    let result_is = cached_is 6 (codes "queryResultCache") d results.0 results.1 in
    subst IsConfig (made _ c fresh.2) (record {
      schema = schema_member 4 (codes "schema") (get (codes "schema") d) _ schema.0 schema.1;
      filter_size = filter_is.0;
      filter_warm = filter_is.1;
      result_size = result_is.0;
      result_warm = result_is.1;
      document_size = documents_is 7 (codes "documentCache") d documents.0 documents.1;
      window = number_is 8 (codes "queryResultWindowSize") 20 4096 d window.0 (lit≤ tt, lit≤ tt) window.1;
      most_docs = number_is 9 (codes "queryResultMaxDocsCached") 200 4096 d most_docs.0 (lit≤ tt, lit≤ tt) most_docs.1;
      max_warming = number_is 10 (codes "maxWarmingSearchers") 1 4 d max_warming.0 (lit≤ tt, lit≤ tt) max_warming.1;
      most_clauses = number_is 12 (codes "maxBooleanClauses") 1024 65535 d most_clauses.0 (lit≤ tt, lit≤ tt) most_clauses.1;
      warmers = number_is 13 (codes "warmers") 1 4 d warmers.0 (lit≤ tt, lit≤ tt) warmers.1;
      df = field_is 14 (codes "df") schema.0 d df.0 df.1;
      first = requests_are 15 (codes "firstSearcher") schema.0 defaults d first.0 first.1;
      fresh = requests_are 16 (codes "newSearcher") schema.0 defaults d fresh.0 fresh.1;
    })

text_config_is : (o : Option Data) (e : ConfigRefusal) (c : Config) → option_map_or config_in o (Err e) ≡ Ok c → IsConfig c
text_config_is (Some d) e c h = config_in_is d c h
text_config_is None e c h = absurd (cc)

pub read_is_config : (text : List ℕ) (c : Config) → text_config text ≡ Ok c → IsConfig c
read_is_config text c h = text_config_is (object_in text) (failed 2 (codes "config")) c h

marked : (b : Bool) (r : Result Config ConfigRefusal) (e : ConfigRefusal) (c : Config) → cond b r (Err e) ≡ Ok c → r ≡ Ok c
marked true r e c h = h
marked false r e c h = absurd (cc)

pub config_is : ReadConfigIsWithinRanges
unfolding config_of
config_is input c h =
    read_is_config (config_text input) c
    (marked (has_marker input) (text_config (config_text input)) (failed 1 (codes "%%")) c h)
