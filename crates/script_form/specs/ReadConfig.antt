-- Which configuration the input begins with, and the first of its checks that fails.
use Rattle.std.specs.Prelude.{ℕ, ◌-◌, List, [], ◌∷◌, length, take, Bool, true, false, ◌&&◌, nat_le, nat_eq, if◌then◌else◌, Option, Some, None, is_some, option_and_then, option_map, ok_or, Result, Ok, Err, codes, slice_get}
use Rattle.std.specs.List.{ends_with}
use Rattle.std.specs.Option.{option_map_or, option_or}
use Rattle.std.specs.Result.{result_ok}
use Rattle.std.specs.Str.{is_utf8}
use Rattle.serde_json.specs.Data.{Data}
use Rattle.serde_json.specs.Find.{get, as_array, as_bool, as_number, as_object, as_str, as_u64}
use Rattle.serde_json.specs.Read.{read}
use Rattle.field_schema.specs.Schema.{Fields, field_named}
use Rattle.field_schema.specs.ReadSchema.{schema_of, listed}
use Rattle.field_schema.specs.declared.schema.SchemaFault.{SchemaFault}
use Rattle.field_schema.specs.declared.schema.SchemaFault.TheVariants as schema_fault
use Rattle.request_form.specs.declared.request.Defaults.{Defaults}
use Rattle.request_form.specs.declared.request.Request.{Request}
use Rattle.request_form.specs.Params.{params_of}
use Rattle.request_form.specs.Requests.{request_of}
use Rattle.script_form.specs.declared.config.Config.{Config}
use Rattle.script_form.specs.declared.config.WarmSetting.{WarmSetting}
use Rattle.script_form.specs.declared.config.ConfigRefusal.{ConfigRefusal}
use Rattle.script_form.specs.declared.config.ConfigRefusal.TheVariants as refusal
use Rattle.script_form.specs.declared.member.CacheSetting.{CacheSetting}
use Rattle.script_form.specs.Decimals.{decimal_within}
use Rattle.script_form.specs.Lines.{has_marker, config_text}
use Rattle.script_form.specs.Results.{result_then}

-- want of memory is no fault of the input
abbrev pub is_no_memory : ConfigRefusal → Bool
is_no_memory (refusal.Fault fault) = false
is_no_memory refusal.NoMemory = true

-- the check of that number fails, and that is the name it tells
abbrev pub failed : ℕ → List ℕ → ConfigRefusal
failed at name = refusal.Fault (record { at = at; name = name })

-- ---- what a member's value must be

-- a whole number from low to high
abbrev pub whole_within : ℕ → ℕ → Data → Option ℕ
whole_within low high d =
    option_and_then (λ n. if nat_le low n && nat_le n high then Some n else None) (option_and_then as_u64 (as_number d))

-- a decimal number from 0 to 100 in front of `%`
abbrev pub percentage : List ℕ → Option ℕ
percentage text = if ends_with nat_eq text (codes "%") then decimal_within 0 100 (take (length text - 1) text) else None

-- nothing is regenerated
abbrev pub no_warming : WarmSetting
no_warming = record { number = 0; percent = false }

-- a whole number from 0 to 4,096, or a percentage
abbrev pub warm_setting : Data → Option WarmSetting
warm_setting d =
    option_or (option_map (λ n. record { number = n; percent = false }) (whole_within 0 4096 d))
    (option_map (λ n. record { number = n; percent = true }) (option_and_then percentage (as_str d)))

-- ---- members

-- what a member of an object reads to; where it is missing, what that means; None where it is there and does not read
abbrev pub member_or : {A : Type 0} → List ℕ → A → (Data → Option A) → Data → Option A
member_or name missing reads d = option_map_or reads (get name d) (Some missing)

abbrev pub is_object : Data → Bool
is_object d = is_some (as_object d)

-- the entries of a cache: an object whose `size` is 1 to 4,096
abbrev pub cache_size : Data → Option ℕ
cache_size d = if is_object d then member_or (codes "size") 512 (whole_within 1 4096) d else None

-- a cache's object: its entries, and how many of an old cache's are regenerated
abbrev pub cache_setting : Data → Option CacheSetting
cache_setting d =
    option_and_then (λ size. option_map (λ warm. record { size = size; warm = warm })
    (member_or (codes "autowarmCount") no_warming warm_setting d)) (cache_size d)

abbrev pub default_cache : CacheSetting
default_cache = record { size = 512; warm = no_warming }

-- the place of the field that a text names, where it is indexed
abbrev pub indexed_field : Fields → Data → Option ℕ
indexed_field s d =
    option_and_then (λ n. if option_map_or (λ f. f.indexed) (slice_get s.list n) false then Some n else None)
    (option_and_then (λ name. field_named name s.list) (as_str d))

-- the request that a text reads to, where it reads
abbrev pub request_in : Fields → Defaults → Data → Option Request
request_in s defaults d =
    option_and_then (λ text. result_ok (request_of s.list defaults (params_of text))) (as_str d)

-- what each of a list gives, where each gives something
abbrev pub each_some : {A B : Type 0} → (A → Option B) → List A → Option (List B)
each_some f [] = Some []
each_some f (x ∷ xs) = option_and_then (λ y. option_map (λ ys. y ∷ ys) (each_some f xs)) (f x)

-- the requests of a list of texts, where each reads
abbrev pub requests_in : Fields → Defaults → Data → Option (List Request)
requests_in s defaults d =
    option_and_then (λ texts. each_some (request_in s defaults) (listed texts)) (as_array d)

-- ---- the checks, each by its number and the name of its member

-- what a member reads to, or what is meant where it is missing; else the check fails
abbrev pub check : {A : Type 0} → ℕ → List ℕ → A → (Data → Option A) → Data → Result A ConfigRefusal
check at name missing reads d = ok_or (member_or name missing reads d) (failed at name)

-- a whole number from 1 to the most
abbrev pub number_check : ℕ → List ℕ → ℕ → ℕ → Data → Result ℕ ConfigRefusal
number_check at name missing most d = check at name missing (whole_within 1 most) d

-- a cache that is warmed
abbrev pub cache_check : ℕ → List ℕ → Data → Result CacheSetting ConfigRefusal
cache_check at name d = check at name default_cache cache_setting d

-- the document cache
abbrev pub documents_check : ℕ → List ℕ → Data → Result ℕ ConfigRefusal
documents_check at name d = check at name 512 cache_size d

-- true or false, which is meant where it is missing
abbrev pub flag_check : ℕ → List ℕ → Data → Result Bool ConfigRefusal
flag_check at name d = check at name false as_bool d

-- an indexed field of the schema, or none where it is missing
abbrev pub field_check : ℕ → List ℕ → Fields → Data → Result (Option ℕ) ConfigRefusal
field_check at name s d = check at name None (λ v. option_map Some (indexed_field s v)) d

-- what a schema's fault is told by: the name of its field, where it has one
abbrev pub schema_failed : ℕ → List ℕ → SchemaFault → ConfigRefusal
schema_failed at name schema_fault.NotObject = failed at name
schema_failed at name schema_fault.NoUniqueKey = failed at (codes "uniqueKey")
schema_failed at name (schema_fault.BadName field) = failed at field
schema_failed at name (schema_fault.BadType field) = failed at field
schema_failed at name (schema_fault.Twice field) = failed at field
schema_failed at name schema_fault.NoMemory = refusal.NoMemory

abbrev pub schema_told : ℕ → List ℕ → Result Fields SchemaFault → Result Fields ConfigRefusal
schema_told at name (Ok s) = Ok s
schema_told at name (Err fault) = Err (schema_failed at name fault)

-- the schema, which must be there
abbrev pub schema_check : ℕ → List ℕ → Data → Result Fields ConfigRefusal
schema_check at name d = option_map_or (λ v. schema_told at name (schema_of v)) (get name d) (Err (failed at name))

-- the requests of a listener, each of which reads; none where it is missing
abbrev pub requests_check : ℕ → List ℕ → Fields → Defaults → Data → Result (List Request) ConfigRefusal
requests_check at name s defaults d = check at name [] (requests_in s defaults) d

-- the configuration of an object, or the first of the checks from 3 on that fails
abbrev pub config_in : Data → Result Config ConfigRefusal
config_in d =
    result_then (number_check 3 (codes "version") 1 1 d) (λ version.
    result_then (schema_check 4 (codes "schema") d) (λ schema.
    result_then (cache_check 5 (codes "filterCache") d) (λ filters.
    result_then (cache_check 6 (codes "queryResultCache") d) (λ results.
    result_then (documents_check 7 (codes "documentCache") d) (λ documents.
    result_then (number_check 8 (codes "queryResultWindowSize") 20 4096 d) (λ window.
    result_then (number_check 9 (codes "queryResultMaxDocsCached") 200 4096 d) (λ most_docs.
    result_then (number_check 10 (codes "maxWarmingSearchers") 1 4 d) (λ max_warming.
    result_then (flag_check 11 (codes "useColdSearcher") d) (λ cold.
    result_then (number_check 12 (codes "maxBooleanClauses") 1024 65535 d) (λ most_clauses.
    result_then (number_check 13 (codes "warmers") 1 4 d) (λ warmers.
    result_then (field_check 14 (codes "df") schema d) (λ df.
    result_then (requests_check 15 (codes "firstSearcher") schema (record { df = df; most = most_clauses }) d) (λ first.
    result_then (requests_check 16 (codes "newSearcher") schema (record { df = df; most = most_clauses }) d) (λ fresh.
    Ok (record {
      schema = schema;
      filter_size = filters.size;
      filter_warm = filters.warm;
      result_size = results.size;
      result_warm = results.warm;
      document_size = documents;
      window = window;
      most_docs = most_docs;
      max_warming = max_warming;
      cold = cold;
      most_clauses = most_clauses;
      warmers = warmers;
      df = df;
      first = first;
      fresh = fresh;
    })))))))))))))))

-- the value that a text is, where it is UTF-8 and reads as JSON
abbrev pub value_in : List ℕ → Option Data
value_in text = if is_utf8 text then read text else None

-- the object that a text is, where it is one
abbrev pub object_in : List ℕ → Option Data
object_in text = option_and_then (λ d. if is_object d then Some d else None) (value_in text)

-- the configuration of a text, or the first of the checks from 2 on that fails: 2 is that it is an object
abbrev pub text_config : List ℕ → Result Config ConfigRefusal
text_config text = option_map_or config_in (object_in text) (Err (failed 2 (codes "config")))

-- the configuration that the input begins with, or the first check that fails: 1 is the line behind it
unfoldable pub config_of : List ℕ → Result Config ConfigRefusal
config_of input = if has_marker input then text_config (config_text input) else Err (failed 1 (codes "%%"))
