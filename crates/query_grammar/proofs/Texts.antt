-- A text reads exactly where its lexemes are the leaves of a tree and tell no other fault.
use Rattle.std.proofs.Common.{◌≡◌, ◌+◌, ◌++◌, ◌∷◌, [], ℕ, List, Bool, true, false, not, Option, None, Some, Result, Ok, Err, length, refl, ap, sym, subst, ◌∙◌, ◌⊎◌, inl, inr, arith, ⊎_elim}
use Rattle.std.specs.Prelude.{◌==◌, is_none, is_some, if◌then◌else◌, option_map}
use Rattle.std.specs.List.{list_any}
use Rattle.std.specs.Option.{option_map_or}
use Rattle.std.specs.Result.{is_ok, IsOk, result_ok}
use Rattle.std.proofs.lemmas.Bool.{or_parts, or_from, and_parts, and_from, not-true, not-false, not_from_true, not_from_false, false≢true, true≢false}
use Rattle.query_tree.specs.declared.query.Query.{Query}
use Rattle.query_lexemes.specs.declared.fault.QueryFault.{QueryFault}
use Rattle.query_lexemes.specs.declared.fault.QueryFault.TheVariants as fault
use Rattle.query_lexemes.specs.declared.letter.Letter.{Letter}
use Rattle.query_lexemes.specs.declared.local.Local.{Local}
use Rattle.query_lexemes.specs.declared.lexeme.Lexeme.{Lexeme}
use Rattle.query_lexemes.specs.declared.lexeme.What.{What}
use Rattle.query_lexemes.specs.declared.lexeme.What.TheVariants as what
use Rattle.query_lexemes.specs.declared.lexeme.Operator.{Operator}
use Rattle.query_lexemes.specs.Letters.{letters as letters_of}
use Rattle.query_lexemes.specs.Lexemes.{lexemes}
use Rattle.query_lexemes.specs.Local.{local, behind_mark}
use Rattle.query_lexemes.proofs.LexemeTexts.{NextWrong, Follows}
use Rattle.query_text.specs.declared.reader.Parsed.{Parsed}
use Rattle.query_text.specs.Clauses.{joined}
use Rattle.query_text.specs.Levels.{top, joins}
use Rattle.query_text.specs.Faults.{fault_if, least, told, told_with, syntax}
use Rattle.query_text.specs.Reads.{Setting, after, is_finish, read_from, query_of, with_local, no_local, behind_local, letters_reading}
use Rattle.query_text.proofs.Steps.{IsUntold}
use Rattle.query_text.proofs.Reading.{untold_from}
use Rattle.query_grammar.specs.Forms.{AreOfForms}
use Rattle.query_grammar.specs.Fitting.{Level, stands, AllStand, behind_all, AllButOperatorStand}
use Rattle.query_grammar.specs.Texts.{up_to_finish, lexemes_of, whats, IsRight, AllRight, AreOfQuery, query_letters, IsOfQuery, TellsFirst}
use Rattle.query_grammar.specs.Laws.{LexemesEnd, LettersRead, LettersRefused, TextsRead}
use Rattle.query_grammar.proofs.Standing.{text_stands}
use Rattle.query_grammar.proofs.Forming.{stand_forms}
use Rattle.query_grammar.proofs.Lexing.{Sound, Ended, lexemes_end}

-- ---- what can stand, and the fault where it can't

untold_if : (b : Bool) (f : QueryFault) → fault_if b f ≡ None → b ≡ false
untold_if true f h = absurd (true≢false (sym (ap is_none h)))
untold_if false f h = refl

fits_if : (b : Bool) (p : ℕ) → (if b then None else option_map fault.Syntax (Some p)) ≡ None → b ≡ true
fits_if true p h = refl
fits_if false p h = absurd (true≢false (sym (ap is_none h)))

no_fault : (b : Bool) (f : QueryFault) → b ≡ false → fault_if b f ≡ None
no_fault b f h = rw h refl

-- an operator without a place behind it, and a lexeme that is wrong
abbrev IdleOperator : What → List Lexeme → Type 0
IdleOperator w xs = (o : Operator) × (w ≡ what.Operator o None) × (is_finish w ≡ false) × NextWrong xs

-- a lexeme that isn't wrong can stand, or is such an operator
stands_or : (w : What) (o : Option QueryFault) (xs : List Lexeme) (l : Level) (os : List Level) (at : ℕ) → o ≡ None → Sound w o → Follows w xs
    → syntax l os at w ≡ None → (stands l os w ≡ true) ⊎ IdleOperator w xs
unfolding syntax
stands_or (what.Word text) o xs l os at n k f h = inl refl
stands_or (what.Prefix text) o xs l os at n k f h = inl refl
stands_or (what.Quoted text) o xs l os at n k f h = inl refl
stands_or what.Star o xs l os at n k f h = inl refl
stands_or (what.Range low from to high) o xs l os at n k f h = inl refl
stands_or (what.Name text colon) o xs l os at n k f h = inl (not-false _ (untold_if _ _ h))
stands_or (what.Any colon other) o xs l os at n k f h = inl (not-false _ (untold_if _ _ h))
stands_or (what.Operator p None) o xs l os at n k f h = inr (p, refl, refl, f)
stands_or (what.Operator p (Some b)) o xs l os at n k f h = inl (fits_if _ _ h)
stands_or (what.Sign prohibits) o xs l os at n k f h = inl (not-false _ (untold_if _ _ h))
stands_or what.Opening o xs l os at n k f h = inl refl
stands_or what.Closing o xs l os at n k f h =
    let p : ((length os == 0) ≡ false) × (not (joins l) ≡ false) = or_parts _ _ (untold_if _ _ h) in
    inl (and_from _ _ (not_from_false _ p.0) (not-false _ p.1))
stands_or what.Finish o xs l os at n k f h = inl (not-false _ (untold_if _ _ h))
stands_or (what.Begun from to) o xs l os at n k f h = absurd (false≢true (sym (ap is_some n) ∙ k))
stands_or what.Half o xs l os at n k f h = absurd (false≢true (sym (ap is_some n) ∙ k))
stands_or what.Flaw o xs l os at n k f h = absurd (false≢true (sym (ap is_some n) ∙ k))

syntax_none : (w : What) (l : Level) (os : List Level) (at : ℕ) → stands l os w ≡ true → syntax l os at w ≡ None
unfolding syntax
syntax_none (what.Word text) l os at h = refl
syntax_none (what.Prefix text) l os at h = refl
syntax_none (what.Quoted text) l os at h = refl
syntax_none what.Star l os at h = refl
syntax_none (what.Range low from to high) l os at h = refl
syntax_none (what.Name text colon) l os at h = no_fault _ _ (not_from_true _ h)
syntax_none (what.Any colon other) l os at h = no_fault _ _ (not_from_true _ h)
syntax_none (what.Operator o behind) l os at h = rw h refl
syntax_none (what.Sign prohibits) l os at h = no_fault _ _ (not_from_true _ h)
syntax_none what.Opening l os at h = refl
syntax_none what.Closing l os at h =
    let p : (not (length os == 0) ≡ true) × (joins l ≡ true) = and_parts _ _ h in
    no_fault _ _ (or_from _ _ (not-true _ p.0) (not_from_true _ p.1))
syntax_none what.Finish l os at h = no_fault _ _ (not_from_true _ h)
syntax_none (what.Begun from to) l os at h = refl
syntax_none what.Half l os at h = refl
syntax_none what.Flaw l os at h = refl

finish_is : (w : What) → is_finish w ≡ true → w ≡ what.Finish
finish_is what.Finish h = refl
finish_is w h = absurd (false≢true h)

-- ---- lexemes

abbrev reads : Result Query QueryFault → Type 0
reads r = IsOk r

turn : (o : Option QueryFault) (r : Result Query QueryFault) → reads (option_map_or Err o r) → (o ≡ None) × reads r
turn None r h = (refl, h)
turn (Some f) r h = absurd (false≢true h)

module _ (s : Setting) (most : ℕ) where
  right_from : (l : Level) (os : List Level) (x : Lexeme) → x.wrong ≡ None → IsUntold s.fields most l os x.at x.what → IsRight s.fields most l os x
  right_from l os x n u = record {
    itself = n;
    field = u.field;
    number = u.number;
    low = u.from;
    high = u.to;
    supported = u.prefix;
    depth = u.deep;
    clauses = u.many;
  }

  told_none : (l : Level) (os : List Level) (x : Lexeme) → stands l os x.what ≡ true → IsRight s.fields most l os x → least (told s.fields most l os x) ≡ None
  unfolding told_with least
  told_none l os x h r =
      rw (r.itself, syntax_none x.what l os x.at h, r.field, r.number, r.low, r.high, r.supported, r.depth, r.clauses) refl

  next_stops : (l : Level) (os : List Level) (xs : List Lexeme) → NextWrong xs → Ended xs → reads (read_from s most l os xs) → ⊥
  unfolding read_from
  next_stops l os [] n e h = e
  next_stops l os (x ∷ xs) n e h =
      let t : (least (told s.fields most l os x) ≡ None) × _ = turn (least (told s.fields most l os x)) _ h in
      let u = untold_from s.fields most l os x t.0 in
      true≢false (sym n ∙ ap is_some u.0)

  abbrev AreRight : Level → List Level → List Lexeme → Type 0
  AreRight l os xs = AllStand s l os (whats xs) × AllRight s most l os xs

  -- what is said of the lexemes behind one
  abbrev Behind : Level → List Level → Lexeme → List Lexeme → Type 0
  Behind l os x xs = reads (read_from s most (after s l os x.what).0 (after s l os x.what).1 xs)
      → AreRight (after s l os x.what).0 (after s l os x.what).1 (up_to_finish xs)

  right_or : (b : Bool) (l : Level) (os : List Level) (x : Lexeme) (xs : List Lexeme) → is_finish x.what ≡ b → (is_finish x.what ≡ false → Ended xs)
      → (stands l os x.what ≡ true) ⊎ IdleOperator x.what xs → IsRight s.fields most l os x → (Ended xs → Behind l os x xs)
      → reads (if b then Ok (joined s.op l.clauses) else read_from s most (after s l os x.what).0 (after s l os x.what).1 xs)
      → AreRight l os (x ∷ (if b then [] else up_to_finish xs))
  right_or true l os x xs b e (inl h) r k o = ((h, λ f. refl, tt), (r, tt))
  right_or true l os x xs b e (inr n) r k o = absurd (true≢false (sym b ∙ n.2))
  right_or false l os x xs b e (inl h) r k o =
      let m : AreRight (after s l os x.what).0 (after s l os x.what).1 (up_to_finish xs) = k (e b) o in
      ((h, λ f. absurd (true≢false (sym f ∙ b)), m.0), (r, m.1))
  right_or false l os x xs b e (inr n) r k o = absurd (next_stops (after s l os x.what).0 (after s l os x.what).1 xs n.3 (e b) o)

  reads_right : (xs : List Lexeme) (l : Level) (os : List Level) → Ended xs → reads (read_from s most l os xs) → AreRight l os (up_to_finish xs)
  unfolding read_from up_to_finish
  reads_right [] l os e h = absurd e
  reads_right (x ∷ xs) l os e h =
      let t : (least (told s.fields most l os x) ≡ None) × _ = turn (least (told s.fields most l os x)) _ h in
      let u = untold_from s.fields most l os x t.0 in
      right_or (is_finish x.what) l os x xs refl e.3 (stands_or x.what x.wrong xs l os x.at u.0 e.0 e.1 u.1.syntax) (right_from l os x u.0 u.1)
      (λ f g. reads_right xs (after s l os x.what).0 (after s l os x.what).1 f g) t.1

  -- ---- the first fault

  tells_here : (l : Level) (os : List Level) (x : Lexeme) (xs : List Lexeme) (f : QueryFault) → least (told s.fields most l os x) ≡ Some f
      → TellsFirst s most l os (x ∷ xs) f
  tells_here l os x xs f h = record { front = []; first = x; rest = xs; are = refl; goes_on = refl; stand = inl tt; tells = h }

  stand_more : (l : Level) (os : List Level) (w : What) (ws : List What) → stands l os w ≡ true → is_finish w ≡ false
      → AllButOperatorStand s (after s l os w).0 (after s l os w).1 ws → AllButOperatorStand s l os (w ∷ ws)
  stand_more l os w ws h n (inl k) = inl (h, λ e. absurd (false≢true (sym n ∙ e)), k)
  stand_more l os w ws h n (inr k) =
      inr (w ∷ k.0, k.1, ap (λ (vs : List What). w ∷ vs) k.2, (h, λ e. absurd (false≢true (sym n ∙ e)), k.3))

  tells_behind : (l : Level) (os : List Level) (x : Lexeme) (xs : List Lexeme) (f : QueryFault) → stands l os x.what ≡ true → is_finish x.what ≡ false
      → TellsFirst s most (after s l os x.what).0 (after s l os x.what).1 xs f → TellsFirst s most l os (x ∷ xs) f
  tells_behind l os x xs f h n k = record {
    front = x ∷ k.front;
    first = k.first;
    rest = k.rest;
    are = ap (λ (ys : List Lexeme). x ∷ ys) k.are;
    goes_on = or_from _ _ n k.goes_on;
    stand = stand_more l os x.what (whats k.front) h n k.stand;
    tells = k.tells;
  }

  fails : (o : Option QueryFault) (r : Result Query QueryFault) (f : QueryFault) → option_map_or Err o r ≡ Err f → (o ≡ Some f) ⊎ ((o ≡ None) × (r ≡ Err f))
  fails None r f h = inr (refl, h)
  fails (Some g) r f h = inl (cc h)

  -- the first of them tells the fault
  abbrev NextTells : Level → List Level → List Lexeme → QueryFault → Type 0
  NextTells l os xs f = (x : Lexeme) × (rest : List Lexeme) × (xs ≡ x ∷ rest) × (least (told s.fields most l os x) ≡ Some f)

  next_tells : (l : Level) (os : List Level) (xs : List Lexeme) (f : QueryFault) → NextWrong xs → Ended xs → read_from s most l os xs ≡ Err f
      → NextTells l os (up_to_finish xs) f
  unfolding read_from up_to_finish
  next_tells l os [] f n e h = absurd e
  next_tells l os (x ∷ xs) f n e h =
      ⊎_elim (λ t. (x, (if is_finish x.what then [] else up_to_finish xs), refl, t))
      (λ t. let u = untold_from s.fields most l os x t.0 in absurd (true≢false (sym n ∙ ap is_some u.0)))
      (fails (least (told s.fields most l os x)) _ f h)

  idle_tells : (l : Level) (os : List Level) (x : Lexeme) (xs ys : List Lexeme) (f : QueryFault) → IdleOperator x.what ys
      → NextTells (after s l os x.what).0 (after s l os x.what).1 xs f → TellsFirst s most l os (x ∷ xs) f
  idle_tells l os x xs ys f i k = record {
    front = x ∷ [];
    first = k.0;
    rest = k.1;
    are = ap (λ (zs : List Lexeme). x ∷ zs) k.2;
    goes_on = or_from _ _ i.2 refl;
    stand = inr ([], i.0, ap (λ (w : What). w ∷ []) i.1, tt);
    tells = k.3;
  }

  tells_or : (b : Bool) (l : Level) (os : List Level) (x : Lexeme) (xs : List Lexeme) (f : QueryFault) → is_finish x.what ≡ b → (is_finish x.what ≡ false → Ended xs)
      → (stands l os x.what ≡ true) ⊎ IdleOperator x.what xs
      → (Ended xs → read_from s most (after s l os x.what).0 (after s l os x.what).1 xs ≡ Err f
      → TellsFirst s most (after s l os x.what).0 (after s l os x.what).1 (up_to_finish xs) f)
      → (if b then Ok (joined s.op l.clauses) else read_from s most (after s l os x.what).0 (after s l os x.what).1 xs) ≡ Err f
      → TellsFirst s most l os (x ∷ (if b then [] else up_to_finish xs)) f
  tells_or true l os x xs f b e c k h = absurd (cc h)
  tells_or false l os x xs f b e (inl c) k h = tells_behind l os x (up_to_finish xs) f c b (k (e b) h)
  tells_or false l os x xs f b e (inr i) k h =
      idle_tells l os x (up_to_finish xs) xs f i (next_tells (after s l os x.what).0 (after s l os x.what).1 xs f i.3 (e b) h)

  tells_first : (xs : List Lexeme) (l : Level) (os : List Level) (f : QueryFault) → Ended xs → read_from s most l os xs ≡ Err f
      → TellsFirst s most l os (up_to_finish xs) f
  unfolding read_from up_to_finish
  tells_first [] l os f e h = absurd e
  tells_first (x ∷ xs) l os f e h =
      ⊎_elim (λ t. tells_here l os x _ f t)
      (λ t. let u = untold_from s.fields most l os x t.0 in
      tells_or (is_finish x.what) l os x xs f refl e.3 (stands_or x.what x.wrong xs l os x.at u.0 e.0 e.1 u.1.syntax)
      (λ g k. tells_first xs (after s l os x.what).0 (after s l os x.what).1 f g k) t.1)
      (fails (least (told s.fields most l os x)) _ f h)

  -- what is read behind them all
  abbrev pub clauses_read : Level → List Level → List What → Query
  clauses_read l os ws = joined s.op (behind_all s l os ws).0.clauses

  behind_finish : (l : Level) (os : List Level) (w : What) → is_finish w ≡ true → joined s.op l.clauses ≡ clauses_read l os (w ∷ [])
  unfolding after
  behind_finish l os w h = rw (finish_is w h) refl

  read_or : (b : Bool) (l : Level) (os : List Level) (x : Lexeme) (xs : List Lexeme) → is_finish x.what ≡ b → (is_finish x.what ≡ false → Ended xs)
      → AreRight l os (x ∷ (if b then [] else up_to_finish xs))
      → (Ended xs → AreRight (after s l os x.what).0 (after s l os x.what).1 (up_to_finish xs)
      → read_from s most (after s l os x.what).0 (after s l os x.what).1 xs
      ≡ Ok (clauses_read (after s l os x.what).0 (after s l os x.what).1 (whats (up_to_finish xs))))
      → (if b then Ok (joined s.op l.clauses) else read_from s most (after s l os x.what).0 (after s l os x.what).1 xs)
      ≡ Ok (clauses_read l os (x.what ∷ whats (if b then [] else up_to_finish xs)))
  read_or true l os x xs b e r k = ap (λ (q : Query). Ok q) (behind_finish l os x.what b)
  read_or false l os x xs b e r k = k (e b) (r.0.2, r.1.1)

  right_reads : (xs : List Lexeme) (l : Level) (os : List Level) → Ended xs → AreRight l os (up_to_finish xs)
      → read_from s most l os xs ≡ Ok (clauses_read l os (whats (up_to_finish xs)))
  unfolding read_from up_to_finish
  right_reads [] l os e r = absurd e
  right_reads (x ∷ xs) l os e r =
      rw (told_none l os x r.0.0 r.1.0)
      (read_or (is_finish x.what) l os x xs refl e.3 r (λ f g. right_reads xs (after s l os x.what).0 (after s l os x.what).1 f g))

-- ---- up to the end

abbrev HasEnd : List What → Type 0
HasEnd ws = (vs : List What) × (list_any is_finish vs ≡ false) × (ws ≡ vs ++ what.Finish ∷ [])

end_or : (b : Bool) (x : Lexeme) (xs : List Lexeme) → is_finish x.what ≡ b → (b ≡ false → HasEnd (whats xs)) → HasEnd (x.what ∷ whats (if b then [] else xs))
end_or true x xs b k = ([], refl, ap (λ (w : What). w ∷ []) (finish_is x.what b))
end_or false x xs b k = (x.what ∷ (k refl).0, or_from _ _ b (k refl).1, ap (λ (ws : List What). x.what ∷ ws) (k refl).2)

has_end : (xs : List Lexeme) → Ended xs → HasEnd (whats (up_to_finish xs))
unfolding up_to_finish
has_end [] e = absurd e
has_end (x ∷ xs) e = end_or (is_finish x.what) x (up_to_finish xs) refl (λ b. has_end xs (e.3 b))

pub lexemes_end_once : LexemesEnd
unfolding lexemes_of
lexemes_end_once end ls = has_end (lexemes (length ls + 1) end ls) (lexemes_end (length ls + 1) end ls (omega arith))

forms_of : (s : Setting) (df : Option ℕ) (ws : List What) → HasEnd ws → AllStand s (top df) [] ws → AreOfForms ws
forms_of s df ws e h = subst AreOfForms (sym e.2) (stand_forms s df e.0 (subst (AllStand s (top df) []) e.2 h))

-- ---- letters and texts

module _ (s : Setting) (most : ℕ) (df : Option ℕ) where
  ended : (end : ℕ) (ls : List Letter) → Ended (lexemes (length ls + 1) end ls)
  ended end ls = lexemes_end (length ls + 1) end ls (omega arith)

  pub letters_there : (end : ℕ) (ls : List Letter) → reads (query_of s most df end ls) → AreOfQuery s most df end ls
  unfolding query_of lexemes_of
  letters_there end ls h =
      let r : AreRight s most (top df) [] (lexemes_of end ls) = reads_right s most (lexemes (length ls + 1) end ls) (top df) [] (ended end ls) h in
      record { forms = forms_of s df (whats (lexemes_of end ls)) (has_end (lexemes (length ls + 1) end ls) (ended end ls)) r.0; right = r.1 }

  pub letters_value : (end : ℕ) (ls : List Letter) → AreOfQuery s most df end ls
      → query_of s most df end ls ≡ Ok (clauses_read s most (top df) [] (whats (lexemes_of end ls)))
  unfolding query_of lexemes_of
  letters_value end ls q =
      right_reads s most (lexemes (length ls + 1) end ls) (top df) [] (ended end ls)
      (subst (AllStand s (top df) []) q.forms.1 (text_stands s q.forms.0 df), q.right)

  pub letters_refused : LettersRefused s most df
  unfolding query_of lexemes_of
  letters_refused end ls f h = tells_first s most (lexemes (length ls + 1) end ls) (top df) [] f (ended end ls) h

  pub letters_read : LettersRead s most df
  letters_read end ls = (letters_there end ls, λ q. ap (λ (r : Result Query QueryFault). is_ok r) (letters_value end ls q))

  abbrev parses : Result Parsed QueryFault → Type 0
  parses r = IsOk r

  local_there : (p : Local) (r : Result Query QueryFault) → parses (with_local p r) → reads r
  local_there p (Ok q) h = refl
  local_there p (Err e) h = absurd (false≢true h)

  module _ (end : ℕ) where
    -- the letters of the query, which read
    abbrev Found : Option (Local × List Letter) → Type 0
    Found o = (p : Local × List Letter) × (o ≡ Some p) × reads (query_of s most df end p.1)

    items_there : (r : Result (Local × List Letter) ℕ) → parses (behind_local s most df end r) → Found (result_ok r)
    items_there (Ok p) h = (p, refl, local_there p.0 (query_of s most df end p.1) h)
    items_there (Err at) h = absurd (false≢true h)

    mark_there : (o : Option (List Letter)) (ls : List Letter)
        → parses (option_map_or (λ params. behind_local s most df end (local end params)) o (with_local no_local (query_of s most df end ls)))
        → Found (option_map_or (λ params. result_ok (local end params)) o (Some (no_local, ls)))
    mark_there None ls h = ((no_local, ls), refl, local_there no_local (query_of s most df end ls) h)
    mark_there (Some params) ls h = items_there (local end params) h

    -- what is read behind local parameters
    abbrev read_by : Local × List Letter → Result Parsed QueryFault
    read_by p = with_local p.0 (query_of s most df end p.1)

    items_value : (r : Result (Local × List Letter) ℕ) (p : Local × List Letter) → result_ok r ≡ Some p → behind_local s most df end r ≡ read_by p
    items_value (Ok x) p e = let f : x ≡ p = cc e in ap read_by f
    items_value (Err at) p e = absurd (cc e)

    mark_value : (o : Option (List Letter)) (ls : List Letter) (p : Local × List Letter)
        → option_map_or (λ params. result_ok (local end params)) o (Some (no_local, ls)) ≡ Some p
        → option_map_or (λ params. behind_local s most df end (local end params)) o (with_local no_local (query_of s most df end ls)) ≡ read_by p
    mark_value None ls p e = let all : Local × List Letter = (no_local, ls) in let f : (no_local, ls) ≡ p = cc e in ap read_by f
    mark_value (Some params) ls p e = items_value (local end params) p e

  pub text_there : (text : List ℕ) → parses (letters_reading s most df (length text) (letters_of text)) → IsOfQuery s most df text
  unfolding letters_reading
  text_there text h =
      let f : Found (length text) (query_letters (length text) (letters_of text)) = mark_there (length text) (behind_mark (letters_of text)) (letters_of text) h in
      record { params = (f.0).0; letters = (f.0).1; behind = f.1; query = letters_there (length text) (f.0).1 f.2 }

  pub text_value : (text : List ℕ) (q : IsOfQuery s most df text)
      → letters_reading s most df (length text) (letters_of text)
      ≡ with_local q.params (Ok (clauses_read s most (top df) [] (whats (lexemes_of (length text) q.letters))))
  unfolding letters_reading
  text_value text q =
      mark_value (length text) (behind_mark (letters_of text)) (letters_of text) (q.params, q.letters) q.behind
      ∙ ap (with_local q.params) (letters_value (length text) q.letters q.query)

  pub texts_read : TextsRead s most df
  texts_read text = (text_there text, λ q. ap is_ok (text_value text q))
