-- Parts of agreeing, read off histories that are written out.
use Rattle.std.proofs.Common.{◌≡◌, ◌⊎◌, ℕ, ◌<◌, ◌≤◌, List, [], ◌∷◌, Bool, true, false, cond, Option, Some, None, Ok, refl, sym, subst, ◌∙◌, inl, inr, arith, slice_get}
use Rattle.std.proofs.lemmas.Option.{same_Some}
use Rattle.std.specs.List.{AllByRecursion}
use Rattle.serde_json.proofs.OnLiterals.{serde_json_on_literals}
use Rattle.doc_model.specs.Document.{Document}
use Rattle.run_laws.proofs.OnLiterals.{requests_on_literals}
use Rattle.search_model.specs.Live.{Change, added}
use Rattle.registry_machine.specs.declared.entry.Entry.TheVariants.{Open}
use Rattle.run_laws.specs.Rows.{add, query}
use Rattle.run_laws.specs.Calls.{Call, Told}
use Rattle.run_laws.specs.Bounds.{opened_by}
use Rattle.run_laws.specs.Trials.{one_warming, add_a, find_x, document_a, asked_x}
use Rattle.run_history.specs.Tellings.{Telling, Life, an_update, an_answer, wants}
use Rattle.run_history.specs.Agreement.{RepliesTo, ComesBefore, StandsBefore}
use Rattle.run_history.specs.Trials.{Step, read, call}
use Rattle.run_history.proofs.Extend.{no_order, ends_order}

pub adds_a : (line : ℕ) → wants one_warming (call line add add_a) ≡ Ok (an_update (added document_a))
unfolding serde_json_on_literals
adds_a line = refl

pub asks_x : (line : ℕ) → wants one_warming (call line query find_x) ≡ Ok (an_answer asked_x)
unfolding serde_json_on_literals requests_on_literals
asks_x line = refl

pub same_docs : (a b : ℕ) (v u : ℕ × Change) (x g y s : ℕ) (c d : List Document) → ◌≡◌ {A = Step} (Open a v x y c) (Open b u g s d) → d ≡ c
same_docs a b v u x g y s c d e = cc

-- ---- order

pub self_before : (lives : List Life) (t : Telling) → StandsBefore lives t t
self_before lives t = record { told = λ b m n x y. absurd (no_order t.told.call b); ended = λ b. absurd (no_order t.told.call (ends_order t.told t.told.call b)) }

-- a row of one phase comes before none of a lower line
pub later_before : (lives : List Life) (e t : Telling) → (ComesBefore e.told.call t.told.call → ⊥) → StandsBefore lives e t
later_before lives e t never = record { told = λ b m n x y. absurd (never b); ended = λ b. absurd (never (ends_order e.told t.told.call b)) }

pub not_before : (e t : Call) → t.phase ≤ e.phase → t.line ≤ e.line → ComesBefore e t → ⊥
not_before e t phases lines (inl lt) = omega (arith, lt, phases)
not_before e t phases lines (inr k) = let lt = k.1 in omega (arith, lt, lines)

-- a row stands before another where its index is lower, and so is the end of what it opened
pub earlier_before : (lives : List Life) (e t : Telling) (m n : ℕ) → e.index ≡ Some m → t.index ≡ Some n → m < n → AllByRecursion (λ s. (s.ended < n) ⊎ (opened_by e.told ≡ Some s.row.generation → ⊥)) lives → StandsBefore lives e t
earlier_before lives e t m n i j lt ends = record {
  told = λ b x y p q. let a = same_Some m x (sym i ∙ p) in let c = same_Some n y (sym j ∙ q) in omega (arith, a, c, lt);
  ended = λ b. each lives ends;
}
  where
    each : (ls : List Life) → AllByRecursion (λ s. (s.ended < n) ⊎ (opened_by e.told ≡ Some s.row.generation → ⊥)) ls → AllByRecursion (λ s. opened_by e.told ≡ Some s.row.generation → (x : ℕ) → t.index ≡ Some x → s.ended < x) ls
    each [] h = tt
    each (s ∷ ls) h = ((λ o x q. one h.0 o x q), each ls h.1)
      where
        one : (s.ended < n) ⊎ (opened_by e.told ≡ Some s.row.generation → ⊥) → opened_by e.told ≡ Some s.row.generation → (x : ℕ) → t.index ≡ Some x → s.ended < x
        one (inl l) o x q = let c = same_Some n x (sym j ∙ q) in omega (arith, l, c)
        one (inr other) o x q = absurd (other o)

-- ---- replies

pub replied_by : (h : List Step) (t : Told) (n : ℕ) (x : Step) → slice_get h n ≡ Some x → RepliesTo read one_warming h t x → (e : Step) → slice_get h n ≡ Some e → RepliesTo read one_warming h t e
replied_by h t n x at k e there = subst (RepliesTo read one_warming h t) (same_Some x e (sym at ∙ there)) k

-- ---- pins

pub pinned_once : (b : Bool) → ◌≡◌ {A = Option ℕ} (cond b None (cond b (Some 1) (cond b None (cond b (Some 1) None)))) None
pinned_once true = refl
pinned_once false = refl

pub pinned_two : (b : Bool) → ◌≡◌ {A = Option ℕ} (cond b None (cond b (Some 2) (cond b None (cond b (Some 1) None)))) None
pinned_two true = refl
pinned_two false = refl
