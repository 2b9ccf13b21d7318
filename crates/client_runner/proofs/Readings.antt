-- What the parameters of requests read to, in the words of the laws.
use Rattle.std.proofs.Common.{◌≡◌, refl, sym, ℕ, suc, List, [], ◌∷◌, length, Bool, not, true, false, Ok, Err, codes, arith}
use Rattle.std.proofs.lemmas.Bool.{false≢true}
use Rattle.form_urlencoded.proofs.OnLiterals.{form_urlencoded_on_literals}
use Rattle.request_form.specs.Commits as commits
use Rattle.request_form.specs.Params.{params_of}
use Rattle.run_laws.specs.CallReadings.{commit_of, commit_told}

-- a commit without parameters reads as they do
pub commit_reads : (body : List ℕ) → commit_of body ≡ commit_told (commits.commit_of (params_of body))
unfolding form_urlencoded_on_literals
commit_reads [] = refl
commit_reads (b ∷ body) = refl

-- ---- a condition that is denied

pub is_false : (b : Bool) → not b ≡ true → b ≡ false
is_false true e = absurd (false≢true e)
is_false false e = refl

pub is_true : (b : Bool) → not b ≡ false → b ≡ true
is_true true e = refl
is_true false e = absurd (false≢true (sym e))
