-- What can stand is gone on with to the end, and what can't stand ends it.
use Rattle.std.proofs.Common.{◌≡◌, ◌++◌, ◌∷◌, [], ℕ, List, true, false, Option, refl, sym, subst, ◌∙◌, ap, ◌⊎◌, ⊎_elim, inl, inr}
use Rattle.std.specs.List.{list_any}
use Rattle.std.proofs.lemmas.Bool.{or_parts, or_from, cases_Bool, false≢true, true≢false}
use Rattle.std.proofs.lemmas.List.{append_assoc}
use Rattle.query_lexemes.specs.declared.lexeme.What.{What}
use Rattle.query_lexemes.specs.declared.lexeme.What.TheVariants as what
use Rattle.query_text.specs.Levels.{joins, top, put}
use Rattle.query_text.specs.Reads.{Setting, after, is_finish}
use Rattle.query_grammar.specs.Forms.{AreOfForms}
use Rattle.query_grammar.specs.Fitting.{Level, stands, AllStand, behind_all, HasFirstFault}
use Rattle.query_grammar.specs.Laws.{StandingIsForms, StandingGoesOn, NothingGoesOn, FormsOrFault}
use Rattle.query_grammar.proofs.Standing.{put_joins, can_close, joins_between, text_stands}
use Rattle.query_grammar.proofs.Forming.{stand_forms}

-- a `)` for each query outside
closings : List Level → List What
closings [] = []
closings (o ∷ os) = what.Closing ∷ closings os

module _ (s : Setting) where
  close_all : (os : List Level) (l : Level) → joins l ≡ true → AllStand s l os (closings os ++ what.Finish ∷ [])
  unfolding closings after
  close_all [] l h = (joins_between l h, λ e. refl, tt)
  close_all (o ∷ os) l h = (can_close o os l h, λ e. absurd (false≢true e), close_all os (put o _) (put_joins o _))

  finish : (l : Level) (os : List Level) → AllStand s l os ((what.Star ∷ closings os) ++ what.Finish ∷ [])
  unfolding after
  finish l os = (refl, λ e. absurd (false≢true e), close_all os (put l _) (put_joins l _))

  stand_on : (ws rest : List What) (l : Level) (os : List Level) → AllStand s l os ws → list_any is_finish ws ≡ false
      → AllStand s (behind_all s l os ws).0 (behind_all s l os ws).1 rest → AllStand s l os (ws ++ rest)
  stand_on [] rest l os h n k = k
  stand_on (w ∷ ws) rest l os h n k =
      let p : (is_finish w ≡ false) × (list_any is_finish ws ≡ false) = or_parts _ _ n in
      (h.0, λ e. absurd (false≢true (sym p.0 ∙ e)), stand_on ws rest (after s l os w).0 (after s l os w).1 h.2 p.1 k)

  stands_there : (ws rest : List What) (w : What) (l : Level) (os : List Level) → AllStand s l os (ws ++ w ∷ rest)
      → stands (behind_all s l os ws).0 (behind_all s l os ws).1 w ≡ true
  stands_there [] rest w l os h = h.0
  stands_there (v ∷ ws) rest w l os h = stands_there ws rest w (after s l os v).0 (after s l os v).1 h.2

  pub standing_is_forms : (df : Option ℕ) → StandingIsForms s df
  standing_is_forms df ws = (stand_forms s df ws, λ f. subst (AllStand s (top df) []) f.1 (text_stands s f.0 df))

  pub standing_goes_on : (df : Option ℕ) → StandingGoesOn s df
  standing_goes_on df ws h n =
      let l : Level = (behind_all s (top df) [] ws).0 in
      let os : List Level = (behind_all s (top df) [] ws).1 in
      let more : List What = what.Star ∷ closings os in
      let all : AllStand s (top df) [] (ws ++ (more ++ what.Finish ∷ [])) = stand_on ws (more ++ what.Finish ∷ []) (top df) [] h n (finish l os) in (
        more,
        subst AreOfForms (append_assoc ws more (what.Finish ∷ []))
            (stand_forms s df (ws ++ more) (subst (AllStand s (top df) []) (sym (append_assoc ws more (what.Finish ∷ []))) all)),
      )

  pub nothing_goes_on : (df : Option ℕ) → NothingGoesOn s df
  nothing_goes_on df ws rest w h f =
      true≢false (sym (stands_there ws rest w (top df) [] (subst (AllStand s (top df) []) f.1 (text_stands s f.0 df))) ∙ h)

  -- ---- the first that can't stand

  stops_here : (l : Level) (os : List Level) (w : What) (ws : List What) → stands l os w ≡ false → HasFirstFault s l os (w ∷ ws)
  stops_here l os w ws h = record { front = []; first = w; rest = ws; are = refl; stand = tt; goes_on = refl; fault = h }

  stops_behind : (l : Level) (os : List Level) (w : What) (ws : List What) → stands l os w ≡ true → is_finish w ≡ false
      → HasFirstFault s (after s l os w).0 (after s l os w).1 ws → HasFirstFault s l os (w ∷ ws)
  stops_behind l os w ws h n k = record {
    front = w ∷ k.front;
    first = k.first;
    rest = k.rest;
    are = ap (λ (vs : List What). w ∷ vs) k.are;
    stand = (h, λ e. absurd (false≢true (sym n ∙ e)), k.stand);
    goes_on = or_from _ _ n k.goes_on;
    fault = k.fault;
  }

  stand_or : (ws : List What) (l : Level) (os : List Level) → list_any is_finish ws ≡ false
      → AllStand s l os (ws ++ what.Finish ∷ []) ⊎ HasFirstFault s l os (ws ++ what.Finish ∷ [])
  stand_or [] l os n =
      ⊎_elim (λ h. inl (h, λ e. refl, tt)) (λ h. inr (stops_here l os what.Finish [] h)) (cases_Bool (stands l os what.Finish))
  stand_or (w ∷ ws) l os n =
      let p : (is_finish w ≡ false) × (list_any is_finish ws ≡ false) = or_parts _ _ n in
      ⊎_elim
      (λ h. ⊎_elim (λ k. inl (h, λ e. absurd (false≢true (sym p.0 ∙ e)), k)) (λ k. inr (stops_behind l os w (ws ++ what.Finish ∷ []) h p.0 k))
      (stand_or ws (after s l os w).0 (after s l os w).1 p.1))
      (λ h. inr (stops_here l os w (ws ++ what.Finish ∷ []) h)) (cases_Bool (stands l os w))

  pub forms_or_fault : (df : Option ℕ) → FormsOrFault s df
  forms_or_fault df ws n =
      ⊎_elim (λ h. inl (stand_forms s df ws h)) (λ k. inr k) (stand_or ws (top df) [] n)
