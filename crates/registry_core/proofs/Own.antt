-- The entries that a caller has more after its calls.
use Rattle.std.proofs.Common.{◌≡◌, ℕ, List, [], ◌∷◌, ◌++◌, length, length-append, append_assoc, cond, Option, Some, None, inl, inr, refl, sym, ap, ◌∙◌, arith}
use Rattle.std.proofs.lemmas.List.{append_cancel_left}
use Rattle.std.proofs.lemmas.Option.{none-some}
use Rattle.registry_machine.specs.declared.entry.Entry.{Entry}
use Rattle.registry_machine.specs.Entries.{caller_of}
use Rattle.registry_machine.specs.Machine.{is_some_of}
use Rattle.registry_machine.specs.Callers.{mine, Prolongs}
use Rattle.registry_machine.proofs.Lists.{same_test}
use Rattle.searcher_table.specs.declared.board.Asked.{Asked}
use Rattle.searcher_table.specs.Views.{StartsWith, GoesOn}
use Rattle.searcher_table.proofs.Frame.{own_joined}
use Rattle.searcher_table.proofs.Passing.{nothing_more}

-- where one is all that there is, nothing stands before it or behind it
pub alone : {A : Type 0} (xs ys : List A) (a b : A) → xs ++ a ∷ ys ≡ b ∷ [] → (xs ≡ []) × (ys ≡ [])
alone [] [] a b e = (refl, refl)
alone [] (y ∷ ys) a b e = let n = ap length e in absurd (omega arith)
alone (x ∷ xs) ys a b e = let n = ap length e in let m = length-append xs (a ∷ ys) in absurd (omega arith)

module _ {U X L : Type 0} where
  -- what is seen is joined of what was seen and more
  pub seen_joined : {c : ℕ} {seen since own : List (Entry U X L)} → Prolongs c seen since own → mine c since ≡ mine c seen ++ own
  seen_joined {c} {seen} {since} {own} p = ap (mine c) p.joined ∙ own_joined c seen p.more ∙ ap (λ l. mine c seen ++ l) p.own

  pub prolongs_on : {c : ℕ} {seen since later own more : List (Entry U X L)} → Prolongs c seen since own → Prolongs c since later more → Prolongs c seen later (own ++ more)
  prolongs_on {c} {seen} {since} {later} {own} {more} a b = record {
    more = a.more ++ b.more;
    joined = b.joined ∙ ap (λ l. l ++ b.more) a.joined ∙ append_assoc seen a.more b.more;
    own = own_joined c a.more b.more ∙ (λ i. a.own i ++ b.own i);
  }

  -- its own entry is the caller's
  pub own_first : (c : ℕ) (e : Entry U X L) (es : List (Entry U X L)) → caller_of e ≡ Some c → mine c (e ∷ es) ≡ e ∷ mine c es
  own_first c e es is = ap (λ b. cond b (e ∷ mine c es) (mine c es)) (ap (is_some_of c) is ∙ same_test c)

  -- where nothing was announced, nothing was executed
  pub still : {c : ℕ} {had has : List (Entry U X L)} {now : Option (Asked U)} (was : Option (Asked U)) → was ≡ None → GoesOn c had was has now → (has ≡ had) × (now ≡ None)
  still was none (inl s) = (s.mine, s.announced ∙ none)
  still was none (inr w) = absurd (none-some w.asked (sym none ∙ w.announced))

  pub none_own : {c : ℕ} {seen since own : List (Entry U X L)} → Prolongs c seen since own → mine c since ≡ mine c seen → own ≡ []
  none_own {c} {seen} {since} {own} p same = nothing_more (mine c seen) own (sym (seen_joined p) ∙ same)

  -- a caller's call was executed: it is all that the caller has more, and nothing is announced any more
  pub executed_alone : {c : ℕ} {seen since own : List (Entry U X L)} {was now : Option (Asked U)} (before : List (Entry U X L)) (e : Entry U X L) → Prolongs c seen since own
      → GoesOn c (mine c seen) was (mine c since) now → StartsWith before seen → StartsWith since (before ++ e ∷ []) → caller_of e ≡ Some c → (own ≡ e ∷ []) × (now ≡ None)
  executed_alone {c} {seen} {since} {own} {was} {now} before e p goes past stands is = by goes
    where
      all : own ≡ mine c past.0 ++ e ∷ mine c stands.0
      all = append_cancel_left (mine c seen) own (mine c past.0 ++ e ∷ mine c stands.0) (
          sym (seen_joined p) ∙ ap (mine c) (stands.1 ∙ append_assoc before (e ∷ []) stands.0 ∙ ap (λ l. l ++ e ∷ stands.0) past.1 ∙ append_assoc seen past.0 (e ∷ stands.0))
          ∙ own_joined c seen (past.0 ++ e ∷ stands.0) ∙ ap (λ l. mine c seen ++ l) (own_joined c past.0 (e ∷ stands.0) ∙ ap (λ l. mine c past.0 ++ l) (own_first c e stands.0 is))
          )

      by : GoesOn c (mine c seen) was (mine c since) now → (own ≡ e ∷ []) × (now ≡ None)
      by (inl s) =
          let n = ap length (sym all ∙ none_own p s.mine) in
          let m = length-append (mine c past.0) (e ∷ mine c stands.0) in
          absurd (omega arith)
      by (inr w) =
          let one : own ≡ w.entry ∷ [] = append_cancel_left (mine c seen) own (w.entry ∷ []) (sym (seen_joined p) ∙ w.mine) in
          let nothing = alone (mine c past.0) (mine c stands.0) e w.entry (sym all ∙ one) in
          (all ∙ (λ i. nothing.0 i ++ e ∷ nothing.1 i), w.none)
