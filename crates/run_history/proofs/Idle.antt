-- A row that tells nothing agrees with every history.
use Rattle.std.proofs.Common.{◌≡◌, ◌≢◌, ◌⊎◌, ℕ, ◌+◌, ◌<◌, List, [], ◌∷◌, ◌++◌, count_by, Some, sym, ap, ◌∙◌, inl, inr, arith}
use Rattle.std.proofs.lemmas.Option.{none-some}
use Rattle.std.specs.List.{AllByRecursion}
use Rattle.script_form.specs.declared.config.Config.{Config}
use Rattle.registry_machine.specs.declared.entry.Entry.{Entry}
use Rattle.registry_machine.specs.Machine.{Limits}
use Rattle.run_laws.specs.Calls.{Told}
use Rattle.run_laws.specs.Bounds.{opened_by}
use Rattle.run_laws.specs.Lawful.{IsIdle}
use Rattle.run_history.specs.Tellings.{Reading, Telling, Life, tells_at, warmed_at, wants}
use Rattle.run_history.specs.Agreement.{IsTelling, StandsBefore, RepliesIdly, HasReply, Agrees}
use Rattle.run_history.specs.Serial.{idle}
use Rattle.run_history.proofs.Elements.{In, all_in, all_from, all_append}
use Rattle.run_history.proofs.Counts.{count_append}
use Rattle.run_history.proofs.Told.{idle_opened}

module _ {U D L : Type 0} (r : Reading U D) (l : Limits) (c : Config) (h : List (Entry U D L)) (ts : List Telling) (lives : List Life) (t : Told) (old : Agrees r l c h ts lives) (none : IsIdle t.row) (reply : RepliesIdly c t.row (wants c t.call)) where
  in_rows : (x : Telling) (xs : List Telling) → In x (xs ++ idle t ∷ []) → In x xs ⊎ (idle t ≡ x)
  in_rows x [] (inl e) = inr e
  in_rows x [] (inr i) = absurd i
  in_rows x (y ∷ xs) (inl e) = inl (inl e)
  in_rows x (y ∷ xs) (inr i) = elim (in_rows x xs i) [ inl j ↦ inl (inr j) | inr e ↦ inr e ]

  same_count : (n : ℕ) → count_by (tells_at n) (ts ++ idle t ∷ []) ≡ count_by (tells_at n) ts
  same_count n = count_append (tells_at n) ts (idle t ∷ []) ∙ omega arith

  no_index : (x : Telling) (n : ℕ) → idle t ≡ x → x.index ≡ Some n → ⊥
  no_index x n e i = none-some n (ap (λ y. y.index) e ∙ i)

  not_opened : (e : Telling) (g : ℕ) → idle t ≡ e → opened_by e.told ≡ Some g → ⊥
  not_opened e g same o = none-some g (sym (idle_opened t none) ∙ (ap (λ y. opened_by y.told) same ∙ o))

  before : (e x : Telling) → In e ts ⊎ (idle t ≡ e) → In x ts ⊎ (idle t ≡ x) → StandsBefore lives e x
  before e x (inl i) (inl j) = all_in (StandsBefore lives e) ts (all_in (λ y. AllByRecursion (StandsBefore lives y) ts) ts old.order e i) x j
  before e x (inl i) (inr same) = record {
    told = λ b m n a o. absurd (no_index x n same o);
    ended = λ b. all_from (λ s. opened_by e.told ≡ Some s.row.generation → (n : ℕ) → x.index ≡ Some n → s.ended < n) lives (λ s j o n a. absurd (no_index x n same a));
  }
  before e x (inr same) j = record {
    told = λ b m n a o. absurd (no_index e m same a);
    ended = λ b. all_from (λ s. opened_by e.told ≡ Some s.row.generation → (n : ℕ) → x.index ≡ Some n → s.ended < n) lives (λ s i o n a. absurd (not_opened e s.row.generation same o));
  }

  pub idle_agrees : Agrees r l c h (ts ++ idle t ∷ []) lives
  idle_agrees = record {
    rows = all_append (IsTelling r c h) ts (idle t ∷ []) old.rows (none, tt);
    once = record {
      begins = old.once.begins;
      first = all_append (λ x. x.index ≢ Some 0) ts (idle t ∷ []) old.once.first ((λ e. none-some 0 e), tt);
      placed = λ n e at placed named above. same_count n ∙ old.once.placed n e at placed named above;
      froms = old.once.froms;
      acquired = λ n g k a. ap (λ m. m + count_by (warmed_at n) lives) (same_count n) ∙ old.once.acquired n g k a;
    };
    searchers = old.searchers;
    order = all_from (λ e. AllByRecursion (StandsBefore lives e) (ts ++ idle t ∷ [])) (ts ++ idle t ∷ []) (λ e i. all_from (StandsBefore lives e) (ts ++ idle t ∷ []) (λ x j. before e x (in_rows e ts i) (in_rows x ts j)));
    warmings = old.warmings;
    views = old.views;
    replies = all_append (HasReply r c h) ts (idle t ∷ []) old.replies (reply, tt);
    released = old.released;
  }
