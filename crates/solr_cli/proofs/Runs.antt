-- What an input that was read to its end is answered, over what the source had.
use Rattle.std.proofs.Common.{◌≡◌, refl, sym, ◌∙◌, ap, ℕ, ◌≤◌, ◌<◌, List, [], ◌++◌, length, append-nil, length-append, subst, Option, Some, None, Result, Ok, Err, IfSome, IfOk, IfErr, MatchResult, Bool, true, false, nat_lt, arith}
use Rattle.std.proofs.lemmas.Bool.Decides.{nat_tests}
use Rattle.std.specs.Io.KnownBytes.{Consumes, IsAtEnd}
use Rattle.script_form.specs.Lines.{most_input, too_large}
use Rattle.field_schema.specs.declared.text.Text.{Text}
use Rattle.script_form.specs.declared.config.Config.{Config}
use Rattle.client_runner.specs.declared.rows.Output.{Output}
use Rattle.client_runner.specs.Outputs.{output_view}
use Rattle.solr_cli.specs.declared.status.Status.{Status}
use Rattle.solr_cli.specs.declared.status.Status.TheVariants as status
use Rattle.solr_cli.specs.Answering.{IsAnswer, IsRefusal, ReadsTo}
use Rattle.solr_cli.specs.InputRuns.{IsCountOf, IsCountsLine, IsReadRefusal, IsRunFrom, TellsCounts, TellsCountsFrom}
use Rattle.solr_cli.specs.Top.{IsRun}
use Rattle.client_runner.proofs.Inputs.{beyond_input, within_input}

-- the bytes that were taken are all of them
all_taken : (xs ys bytes : List ℕ) → xs ≡ bytes ++ ys → ys ≡ [] → bytes ≡ xs
all_taken xs ys bytes h e = sym (h ∙ ap (λ t. bytes ++ t) e ∙ append-nil bytes)

-- an input within the limits was read to its end
is_all : (xs ys bytes : List ℕ) → Consumes (Some xs) (Some ys) bytes → (length bytes ≤ most_input → IsAtEnd (Some ys)) → too_large bytes ≡ false → bytes ≡ xs
is_all xs ys bytes h end w = all_taken xs ys bytes h (end (within_input bytes w))

-- an input that was answered was run
pub is_run : (bytes : List ℕ) (config : Config) (o : Output) → IsAnswer bytes config (output_view o) → IsRun bytes o
is_run bytes config o a = (config, a.script, record { reads = a.reads; history = a.history; lawful = a.lawful; notes = a.notes })

run_of : (xs ys bytes : List ℕ) (r : Config × Output) → Consumes (Some xs) (Some ys) bytes → (length bytes ≤ most_input → IsAtEnd (Some ys))
    → IsAnswer bytes r.0 (output_view r.1) → IsRunFrom xs (Some ys) r.1
run_of xs ys bytes r h end a =
    record {
      ended = ap (λ t. Some t) (end (within_input bytes a.reads.within));
      ran = subst (λ t. IsRun t r.1) (is_all xs ys bytes h end a.reads.within) (is_run bytes r.0 r.1 a);
    }

pub ran_over : (old new : Option (List ℕ)) (bytes : List ℕ) (r : Result (Config × Output) Status) → Consumes old new bytes → (length bytes ≤ most_input → IsAtEnd new)
    → MatchResult r (λ p. IsAnswer bytes p.0 (output_view p.1)) (IsRefusal bytes) → IfSome old (λ xs. IfOk r (λ p. IsRunFrom xs new p.1))
ran_over None new bytes r h end a = tt
ran_over (Some xs) None bytes r h end a = absurd h
ran_over (Some xs) (Some ys) bytes (Ok p) h end a = run_of xs ys bytes p h end a
ran_over (Some xs) (Some ys) bytes (Err s) h end a = tt

-- ---- a refusal

longer : (bytes ys : List ℕ) → length bytes ≤ length (bytes ++ ys)
longer bytes ys = let whole = length-append bytes ys in omega (arith, whole)

-- an input of which only a front was read passes the limits too
too_large_whole : (xs ys bytes : List ℕ) → Consumes (Some xs) (Some ys) bytes → (length bytes ≤ most_input → IsAtEnd (Some ys)) → too_large bytes ≡ true → too_large xs ≡ true
too_large_whole xs ys bytes h end large = by_length (nat_lt most_input (length bytes)) refl
  where
    by_length : (b : Bool) → nat_lt most_input (length bytes) ≡ b → too_large xs ≡ true
    by_length true e =
        let beyond : most_input < length bytes = grind (arith, nat_tests) in
        let all_longer : length bytes ≤ length xs = subst (λ t. length bytes ≤ length t) (sym h) (longer bytes ys) in
        beyond_input xs (omega (arith, beyond, all_longer))
    by_length false e =
        let within : length bytes ≤ most_input = grind (arith, nat_tests) in
        subst (λ t. too_large t ≡ true) (all_taken xs ys bytes h (end within)) large

refusal_of : (xs ys bytes : List ℕ) (s : Status) → Consumes (Some xs) (Some ys) bytes → (length bytes ≤ most_input → IsAtEnd (Some ys)) → IsRefusal bytes s → IsReadRefusal xs s
refusal_of xs ys bytes status.Done h end a = absurd a
refusal_of xs ys bytes status.Usage h end a = absurd a
refusal_of xs ys bytes status.ReadFault h end a = absurd a
refusal_of xs ys bytes status.WriteFault h end a = absurd a
refusal_of xs ys bytes (status.BadConfig at name) h end a = subst (λ t. IsRefusal t (status.BadConfig at name)) (is_all xs ys bytes h end a.within) a
refusal_of xs ys bytes (status.BadLine line name) h end a = subst (λ t. IsRefusal t (status.BadLine line name)) (is_all xs ys bytes h end a.1.within) a
refusal_of xs ys bytes status.TooLarge h end a = too_large_whole xs ys bytes h end a
refusal_of xs ys bytes status.NoMemory h end a = tt

pub refused_over : {A : Type 0} (P : A → Type 0) (old new : Option (List ℕ)) (bytes : List ℕ) (r : Result A Status) → Consumes old new bytes → (length bytes ≤ most_input → IsAtEnd new)
    → MatchResult r P (IsRefusal bytes) → IfSome old (λ xs. IfErr r (IsReadRefusal xs))
refused_over P None new bytes r h end a = tt
refused_over P (Some xs) None bytes r h end a = absurd h
refused_over P (Some xs) (Some ys) bytes (Ok p) h end a = tt
refused_over P (Some xs) (Some ys) bytes (Err s) h end a = refusal_of xs ys bytes s h end a

-- ---- the counts of a script

count_of : (xs ys bytes text : List ℕ) → Consumes (Some xs) (Some ys) bytes → (length bytes ≤ most_input → IsAtEnd (Some ys)) → TellsCounts bytes text → IsCountOf xs (Some ys) text
count_of xs ys bytes text h end (config, script, reads, told) =
    let all = is_all xs ys bytes h end reads.within in
    (ap (λ t. Some t) (end (within_input bytes reads.within)), (config, script, subst (λ t. ReadsTo t config script) all reads, told))

pub counted_over : (old new : Option (List ℕ)) (bytes : List ℕ) (r : Result Text Status) → Consumes old new bytes → (length bytes ≤ most_input → IsAtEnd new)
    → MatchResult r (TellsCounts bytes) (IsRefusal bytes) → TellsCountsFrom old new r
counted_over None new bytes r h end a = tt
counted_over (Some xs) None bytes r h end a = absurd h
counted_over (Some xs) (Some ys) bytes (Ok text) h end a = count_of xs ys bytes text h end a
counted_over (Some xs) (Some ys) bytes (Err s) h end a = tt

pub counts_line : (bytes : List ℕ) (r : Result Text Status) → MatchResult r (TellsCounts bytes) (IsRefusal bytes) → IfOk r IsCountsLine
counts_line bytes (Ok text) (config, script, reads, told) = (script, told)
counts_line bytes (Err s) a = tt
