-- The lines of a script, read one after another.
use Rattle.std.proofs.Common.{◌≡◌, ℕ, ◌+◌, List, [], ◌∷◌, ◌++◌, append_assoc, append-nil, Bool, cond, Some, None, Result, Ok, Err, refl, sym, ap, ◌∙◌}
use Rattle.std.specs.Str.{IsUtf8, is_utf8}
use Rattle.std.proofs.lemmas.Bool.{false_from_ne_true}
use Rattle.std.proofs.lemmas.Str.{IsUtf8-from_is_utf8, is_utf8-from_IsUtf8}
use Rattle.script_form.specs.ReadScript.{front_from, in_front, told, what_in, what_of}
use Rattle.script_form.specs.declared.script.Front.{Front}
use Rattle.script_form.specs.declared.script.Line.{Line}
use Rattle.script_form.specs.declared.script.LineFault.{LineFault}
use Rattle.script_form.specs.declared.script.LineName.{LineName}
use Rattle.script_form.specs.declared.script.LineName.TheVariants as name
use Rattle.script_form.specs.declared.script.ScriptRefusal.TheVariants as refusal
use Rattle.script_form.specs.declared.script.What.{What}

pub what_of_text : (clients : ℕ) (line : List ℕ) → IsUtf8 line → what_of clients line ≡ what_in clients line
unfolding what_of
what_of_text clients line is = ap (λ (b : Bool). cond b (what_in clients line) (Err name.NotUtf8)) (is_utf8-from_IsUtf8 line is)

pub what_of_bytes : (clients : ℕ) (line : List ℕ) → (IsUtf8 line → ⊥) → what_of clients line ≡ Err name.NotUtf8
unfolding what_of
what_of_bytes clients line never =
    ap (λ (b : Bool). cond b (what_in clients line) (Err name.NotUtf8)) (false_from_ne_true (is_utf8 line) (λ is. never (IsUtf8-from_is_utf8 line is)))

-- the lines so far in front of what is read behind them
abbrev pub onto : List Line → Front → Front
onto read later = record { lines = read ++ later.lines; fault = later.fault }

pub onto_nil : (f : Front) → onto [] f ≡ f
onto_nil f = refl

told_ok : (n : ℕ) (r : Result What LineName) (w : What) → told n r ≡ Ok w → r ≡ Ok w
told_ok n (Ok x) w h = let e : x ≡ w = cc in ap Ok e
told_ok n (Err fault) w h = absurd (cc)

told_fault : (n : ℕ) (r : Result What LineName) (later : Front) (fault : LineFault) → told n r ≡ Err (refusal.Fault fault)
    → in_front n r later ≡ record { lines = []; fault = Some fault }
told_fault n (Ok x) later fault h = absurd (cc)
told_fault n (Err name) later fault h = cc

pub front_more : (read : List Line) (clients n : ℕ) (line : List ℕ) (others : List (List ℕ)) (w : What) → told n (what_of clients line) ≡ Ok w
    → onto read (front_from clients n (line ∷ others)) ≡ onto (read ++ record { number = n; what = w } ∷ []) (front_from clients (n + 1) others)
front_more read clients n line others w h =
    let later = front_from clients (n + 1) others in
    let this : Line = record { number = n; what = w } in
    ap (λ r. onto read (in_front n r later)) (told_ok n (what_of clients line) w h)
    ∙ ap (λ ls. record { lines = ls; fault = later.fault }) (sym (append_assoc read (this ∷ []) later.lines))

pub front_stops : (read : List Line) (clients n : ℕ) (line : List ℕ) (others : List (List ℕ)) (fault : LineFault) → told n (what_of clients line) ≡ Err (refusal.Fault fault)
    → onto read (front_from clients n (line ∷ others)) ≡ record { lines = read; fault = Some fault }
front_stops read clients n line others fault h =
    ap (onto read) (told_fault n (what_of clients line) (front_from clients (n + 1) others) fault h)
    ∙ ap (λ ls. record { lines = ls; fault = Some fault }) (append-nil read)

pub front_ends : (read : List Line) (clients n : ℕ) → onto read (front_from clients n []) ≡ record { lines = read; fault = None }
front_ends read clients n = ap (λ ls. record { lines = ls; fault = None }) (append-nil read)
