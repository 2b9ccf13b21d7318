-- What the lines of a script keep.
use Rattle.std.proofs.Common.{◌≡◌, ℕ, ◌+◌, ◌≤◌, ◌==◌, List, [], ◌∷◌, length, map, Bool, true, false, cond, Option, Some, None, Result, Ok, Err, codes, refl, ap, subst, arith}
use Rattle.std.specs.List.{All, range_with_len}
use Rattle.std.specs.Option.{option_map_or}
use Rattle.std.specs.Str.{is_utf8}
use Rattle.std.proofs.lemmas.List.Elements.{All-cons, All-nil}
use Rattle.field_schema.specs.Bytes.{bytes_eq}
use Rattle.script_form.specs.Decimals.{are_digits, decimal_within}
use Rattle.script_form.specs.Ranges.{HasClient, IsScript, IsWithin, ReadFrontIsScript, ReadScriptIsScript}
use Rattle.script_form.specs.ReadScript.{body_part, client_of, client_part, front_from, front_of, in_front, is_nothing, request_of, verb_part, what_in, what_of, with_body}
use Rattle.script_form.specs.Results.{result_then}
use Rattle.script_form.specs.declared.script.Front.{Front}
use Rattle.script_form.specs.declared.script.Line.{Line}
use Rattle.script_form.specs.declared.script.LineFault.{LineFault}
use Rattle.script_form.specs.declared.script.LineName.{LineName}
use Rattle.script_form.specs.declared.script.LineName.TheVariants as name
use Rattle.script_form.specs.declared.script.ScriptRefusal.TheVariants as refusal
use Rattle.script_form.specs.declared.script.What.{What}
use Rattle.script_form.specs.declared.script.What.TheVariants as what
use Rattle.script_form.proofs.Ranges.{decimal_is, then_ok}

-- what an Ok of one of two branches tells
module _ {A E : Type 0} (P : A → Type 0) (b : Bool) where
  either_ok : (r s : Result A E) (x : A) → ((y : A) → r ≡ Ok y → P y) → ((y : A) → s ≡ Ok y → P y) → cond b r s ≡ Ok x → P x
  either_ok r s x here there h = elim b as (λ c. cond c r s ≡ Ok x → P x) [ true ↦ (λ e. here x e) | false ↦ (λ e. there x e) ] h

-- a value that is given at once
given : {A E : Type 0} (P : A → Type 0) (v : A) → P v → (y : A) → ◌≡◌ {A = Result A E} (Ok v) (Ok y) → P y
given P v p y h = let e : v ≡ y = cc in subst P e p

refused : {A E : Type 0} (P : A → Type 0) (e : E) (y : A) → ◌≡◌ {A = Result A E} (Err e) (Ok y) → P y
refused P e y h = absurd (cc)

client_here : (clients : ℕ) (o : Option ℕ) (c : ℕ) → ((n : ℕ) → o ≡ Some n → IsWithin 1 clients n) → option_map_or (λ n. Ok n) o (Err name.BadClient) ≡ Ok c → IsWithin 1 clients c
client_here clients (Some n) c within h = let e : n ≡ c = cc in subst (IsWithin 1 clients) e (within n refl)
client_here clients None c within h = absurd (cc)

client_is : (clients : ℕ) (part : List ℕ) (c : ℕ) → client_of clients part ≡ Ok c → IsWithin 1 clients c
client_is clients part c h =
    either_ok (IsWithin 1 clients) (are_digits part) (option_map_or (λ n. Ok n) (decimal_within 1 clients part) (Err name.BadClient)) (Err name.NoClient) c
    (λ y e. client_here clients (decimal_within 1 clients part) y (decimal_is 1 clients part) e) (refused (IsWithin 1 clients) name.NoClient) h

module _ (clients client : ℕ) (within : IsWithin 1 clients client) where
  abbrev Has : What → Type 0
  Has w = HasClient clients w

  body_is : (request : List ℕ → What) (body : List ℕ) → Has (request body) → (w : What) → with_body request body ≡ Ok w → Has w
  body_is request body has w h =
      either_ok Has (length body == 0) (Err name.BadBody) (Ok (request body)) w (refused Has name.BadBody) (given Has (request body) has) h

  commit_is : (verb body : List ℕ) (w : What) → cond (bytes_eq verb (codes "commit")) (Ok (what.Commit client body)) (Err name.BadVerb) ≡ Ok w → Has w
  commit_is verb body w h =
      either_ok Has (bytes_eq verb (codes "commit")) (Ok (what.Commit client body)) (Err name.BadVerb) w (given Has (what.Commit client body) within) (refused Has name.BadVerb) h

  request_is : (verb body : List ℕ) (w : What) → request_of client verb body ≡ Ok w → Has w
  request_is verb body w h =
      either_ok Has (bytes_eq verb (codes "add")) (with_body (what.Add client) body) _ w (body_is (what.Add client) body within)
      (λ x e. either_ok Has (bytes_eq verb (codes "delete")) (with_body (what.Delete client) body) _ x (body_is (what.Delete client) body within)
      (λ y f. either_ok Has (bytes_eq verb (codes "query")) (with_body (what.Query client) body) _ y (body_is (what.Query client) body within) (commit_is verb body) f) e) h

module _ (clients : ℕ) where
  abbrev IsHad : What → Type 0
  IsHad w = HasClient clients w

  asked_is : (line : List ℕ) (w : What) → result_then (client_of clients (client_part line)) (λ client. request_of client (verb_part line) (body_part line)) ≡ Ok w → IsHad w
  asked_is line w h =
      let p = then_ok (client_of clients (client_part line)) (λ client. request_of client (verb_part line) (body_part line)) w h in
      request_is clients p.0 (client_is clients (client_part line) p.0 p.1) (verb_part line) (body_part line) w p.2

  text_is : (line : List ℕ) (w : What) → what_in clients line ≡ Ok w → IsHad w
  text_is line w h =
      either_ok IsHad (is_nothing line) (Ok what.Nothing) _ w (given IsHad what.Nothing tt)
      (λ x e. either_ok IsHad (bytes_eq line (codes "---")) (Ok what.PhaseEnd) _ x (given IsHad what.PhaseEnd tt) (asked_is line) e) h

  line_is : (line : List ℕ) (w : What) → what_of clients line ≡ Ok w → IsHad w
  unfolding what_of
  line_is line w h = either_ok IsHad (is_utf8 line) (what_in clients line) (Err name.NotUtf8) w (text_is line) (refused IsHad name.NotUtf8) h

  -- ---- the lines from a number on

  record IsFrom (n : ℕ) (ls : List Line) : Type 0 where
    numbers : map (λ l. l.number) ls ≡ range_with_len n (length ls)
    clients_are : All (λ l. HasClient clients l.what) ls

  nothing_is : (n : ℕ) → IsFrom n []
  nothing_is n = record { numbers = refl; clients_are = All-nil (λ l. HasClient clients l.what) }

  in_front_is : (n : ℕ) (r : Result What LineName) (later : Front) → ((w : What) → r ≡ Ok w → IsHad w) → IsFrom (n + 1) later.lines → IsFrom n (in_front n r later).lines
  in_front_is n (Ok w) later had from =
      record { numbers = ap (λ ns. n ∷ ns) from.numbers; clients_are = All-cons (λ l. HasClient clients l.what) (record { number = n; what = w }) later.lines (had w refl) from.clients_are }
  in_front_is n (Err e) later had from = nothing_is n

  front_is : (n : ℕ) (ls : List (List ℕ)) → IsFrom n (front_from clients n ls).lines
  front_is n [] = nothing_is n
  front_is n (line ∷ others) = in_front_is n (what_of clients line) (front_from clients (n + 1) others) (line_is line) (front_is (n + 1) others)

  in_front_most : (n : ℕ) (r : Result What LineName) (later : Front) (m : ℕ) → length later.lines ≤ m → length (in_front n r later).lines ≤ m + 1
  in_front_most n (Ok w) later m most = omega arith
  in_front_most n (Err e) later m most = omega arith

  front_most : (n : ℕ) (ls : List (List ℕ)) → length (front_from clients n ls).lines ≤ length ls
  front_most n [] = omega arith
  front_most n (line ∷ others) =
      let most = in_front_most n (what_of clients line) (front_from clients (n + 1) others) (length others) (front_most (n + 1) others) in
      omega (arith, most)

  in_front_all : (n : ℕ) (r : Result What LineName) (later : Front) (m : ℕ) → (later.fault ≡ None → length later.lines ≡ m) → (in_front n r later).fault ≡ None → length (in_front n r later).lines ≡ m + 1
  in_front_all n (Ok w) later m all h = let e = all h in omega (arith, e)
  in_front_all n (Err e) later m all h = absurd (cc)

  front_all : (n : ℕ) (ls : List (List ℕ)) → (front_from clients n ls).fault ≡ None → length (front_from clients n ls).lines ≡ length ls
  front_all n [] h = refl
  front_all n (line ∷ others) h =
      let all = in_front_all n (what_of clients line) (front_from clients (n + 1) others) (length others) (front_all (n + 1) others) h in
      omega (arith, all)

whole_is : (fault : Option LineFault) (ls read : List Line) → option_map_or (λ f. Err (refusal.Fault f)) fault (Ok ls) ≡ Ok read → (fault ≡ None) × (ls ≡ read)
whole_is None ls read h = (refl, cc)
whole_is (Some f) ls read h = absurd (cc)

from_is : (clients : ℕ) (ls : List Line) → IsFrom clients 1 ls → IsScript clients ls
from_is clients ls from = record { numbers = from.numbers; asked = from.clients_are }

pub front_is_script : ReadFrontIsScript
unfolding front_of
front_is_script clients ls = (from_is clients (front_from clients 1 ls).lines (front_is clients 1 ls), front_most clients 1 ls)

pub script_is : ReadScriptIsScript
unfolding front_of
script_is clients ls read h =
    let p = whole_is (front_from clients 1 ls).fault (front_from clients 1 ls).lines read h in
    subst (λ r. IsScript clients r × (length r ≡ length ls)) p.1 (from_is clients (front_from clients 1 ls).lines (front_is clients 1 ls), front_all clients 1 ls p.0)
