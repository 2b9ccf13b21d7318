-- What was written of a text is a front of it.
use Rattle.std.proofs.Common.{◌≡◌, sym, ◌∙◌, ap, ℕ, List, [], ◌++◌, length, take, drop, append_assoc, append-nil, subst, Option, Result, Ok, Err, OnErr, OnOk, IsErr, Bool, true, false, option_map, ◌≤◌, Some, None, refl}
use Rattle.std.proofs.Math.Seq.{take-append_seam}
use Rattle.std.proofs.lemmas.List.{take-append-drop}
use Rattle.std.specs.Io.KnownBytes.{Appends, Keeps}
use Rattle.std.proofs.KnownBytes.{Appends-kept, Appends-trans}
use Rattle.std.proofs.lemmas.Bool.{false≢true}
use Rattle.rt_edge.specs.Faults.{HasCause, Rose}
use Rattle.rt_edge.specs.Flushes.{FlushFlushes, IsTold}
use Rattle.solr_cli.specs.Writing.{AppendsPart, TellsFlushes}

-- a part more of a text
pub front_more : (text done rest : List ℕ) (n : ℕ) → text ≡ done ++ rest → text ≡ (done ++ take n rest) ++ drop n rest
front_more text done rest n e = e ∙ ap (λ t. done ++ t) (sym (take-append-drop n rest)) ∙ sym (append_assoc done (take n rest) (drop n rest))

-- what was appended is a front of the text
pub part_of : (a b : Option (List ℕ)) (text done rest : List ℕ) → text ≡ done ++ rest → Appends a b done → AppendsPart a b text
part_of a b text done rest e h = (length done, subst (λ t. Appends a b t) (sym (ap (take (length done)) e ∙ take-append_seam done rest)) h)

pub whole_part : (a b : Option (List ℕ)) (text : List ℕ) → Appends a b text → AppendsPart a b text
whole_part a b text h = part_of a b text text [] (sym (append-nil text)) h

-- all of the text was appended, and nothing since
pub whole_kept : {T E : Type 0} (r : Result T E) (a b c : Option (List ℕ)) (text : List ℕ) → Appends a b text → Keeps b c → OnErr r (AppendsPart a c text)
whole_kept (Ok x) a b c text h k = tt
whole_kept (Err e) a b c text h k = whole_part a c text (Appends-kept a b c text h k)

pub on_err : {T E : Type 0} (r : Result T E) (P : Type 0) → P → OnErr r P
on_err (Ok x) P p = tt
on_err (Err e) P p = p

-- ---- a call behind others that failed nowhere

-- the cause of its answer is that of all of them
pub cause_behind : {T E : Type 0} (a b c : ℕ) (r : Result T E) → b ≡ a → HasCause b c r → HasCause a c r
cause_behind a b c r same h = subst (λ n. HasCause n c r) same h

-- a failure has its cause where the count rose
pub cause_of_err : {T E : Type 0} (a c : ℕ) (r : Result T E) → IsErr r → a ≤ c → Rose a c → HasCause a c r
cause_of_err a c (Ok x) is_err l rose = absurd (false≢true is_err)
cause_of_err a c (Err e) is_err l rose = record { later = l; failed = rose; kept = tt }

-- a good flush behind them tells that all is flushed
pub flushed_behind : {E : Type 0} (a b c : Option Bool) {T : Type 0} (r : Result T E) → TellsFlushes a b → FlushFlushes b c r → OnOk r (IsTold a c true)
flushed_behind a b c (Ok x) same h = h ∙ same
flushed_behind a b c (Err e) same h = tt

-- a good write tells as much as before
pub written_tells : (a b : Option Bool) → IsTold a b false → TellsFlushes a b
written_tells None b h = ap (option_map (λ (x : Bool). true)) h
written_tells (Some x) b h = ap (option_map (λ (x : Bool). true)) h

-- what a call appended behind a text
pub behind_text : {T E : Type 0} (r : Result T E) (a b c : Option (List ℕ)) (text more : List ℕ) → Appends a b text → OnOk r (Appends b c more) → OnOk r (Appends a c (text ++ more))
behind_text (Ok x) a b c text more h k = Appends-trans a b c text more h k
behind_text (Err e) a b c text more h k = tt
