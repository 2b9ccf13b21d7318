-- A desk's registrar after a call.
use Rattle.std.proofs.Common.{true, Option, Some, None, Result, Ok, Err, IfOk, IfErr, ◌≡◌, ℕ, ◌+◌, List, [], ◌∷◌, ◌++◌, count_by, refl, sym, ap, ◌∙◌, arith}
use Rattle.registry_machine.specs.declared.entry.Entry.{Entry}
use Rattle.registry_machine.specs.declared.entry.Entry.TheVariants.{Open, TooMany, GenerationsSpent, Finish, Superseded}
use Rattle.registry_machine.specs.Entries.{caller_of, has_place}
use Rattle.searcher_table.specs.declared.pass.Pass.{Pass}
use Rattle.searcher_table.specs.declared.registrar.Registrar.{Registrar}
use Rattle.searcher_table.specs.declared.board.Asked.{Asked}
use Rattle.searcher_table.specs.declared.shown.Shown.{Ghosts}
use Rattle.searcher_table.specs.declared.tokens.Announced.{Announced}
use Rattle.searcher_table.specs.declared.tokens.Sighting.{Sighting}
use Rattle.searcher_table.specs.declared.tokens.Opening.{Opening}
use Rattle.searcher_table.specs.declared.tokens.OpenRefusal.{OpenRefusal}
use Rattle.searcher_table.specs.declared.tokens.OpenRefusal.TheVariants.{TooMany as AsTooMany, GenerationsSpent as AsSpent}
use Rattle.searcher_table.specs.declared.tokens.Published.{Published}
use Rattle.searcher_table.specs.declared.tokens.Published.TheVariants.{Registered as AsRegistered, Superseded as AsSuperseded}
use Rattle.searcher_table.specs.Publishing.{HasEnded, HasPublished}
use Rattle.searcher_table.specs.Warming.{listed}
use Rattle.searcher_table.specs.Passes.{HasAnnounced, IsAnnouncedBy, HasMet}
use Rattle.searcher_table.specs.Openings.{HasOpened, IsRefused}
use Rattle.searcher_table.specs.Registrars.{seen_of, IsSameRegistrar, IsUnchanged, IsSightingOf, HasEntry}
use Rattle.searcher_table.proofs.Places.{same_places, one_place_more}
use Rattle.table_rows.specs.TableTrials.{IsReady, HasOneCallMore}
use Rattle.table_rows.proofs.Chain.{grown}

module _ {D U W X L : Type 0} where
  -- a pass at a registrar's table stays there
  pub still_ready : (r q : Registrar D U W X L) (t : Pass D U W X L) → IsReady r t → IsSameRegistrar r q → IsReady q t
  still_ready r q t ready same = record { table = ready.table ∙ sym same.table; none = ready.none }

  ended_counts : (r q : Registrar D U W X L) (o : Opening D U W X L) (e : Entry U X L) → HasEnded r q o e → has_place e ≡ true → HasOneCallMore r q
  ended_counts r q o e is has = record {
    registrar = is.registrar;
    places =
        let j = same_places (seen_of q) (is.before ++ e ∷ []) is.entry in
        let k = one_place_more is.before e has in
        let l = same_places is.before (seen_of r) is.seen in
        omega arith;
  }

  -- the end of a warming is one call more
  pub published_counts : (list : List L) (r q : Registrar D U W X L) (o : Opening D U W X L) (how : Published) → HasPublished list r q o how → HasOneCallMore r q
  published_counts list r q o (AsRegistered at old) is = ended_counts r q o (Finish o.generation list) is.ended refl
  published_counts list r q o (AsSuperseded by at) is = ended_counts r q o (Superseded o.generation by list) is.ended refl

module _ {D U W X L : Type 0} {shows : Ghosts D W X L} where
  -- the caller's call has its entry, which has a place
  pub record IsEntered (r q : Registrar D U W X L) (a : Announced D U W X L shows) : Type 0 where
    pub entry : Entry U X L
    pub has : HasEntry r q a entry
    pub named : caller_of entry ≡ Some a.caller
    pub placed : has_place entry ≡ true

  refused_entered : (r q : Registrar D U W X L) (a : Announced D U W X L shows) (why : OpenRefusal) → IsRefused r q a why → IsEntered r q a
  refused_entered r q a (AsTooMany at gens) is = record { entry = TooMany a.caller a.asked.content (listed gens); has = is.entry; named = refl; placed = refl }
  refused_entered r q a (AsSpent at) is = record { entry = GenerationsSpent a.caller a.asked.content; has = is.entry; named = refl; placed = refl }

  -- an opening has its entry, refused or not
  pub entered : {R : Type 0} (r q : Registrar D U W X L) (a : Announced D U W X L shows) (docs : D → X) (doors : List D) (why : R → OpenRefusal) (res : Result (Opening D U W X L) R)
      → IfOk res (λ o. HasOpened docs r q a doors o) → IfErr res (λ x. IsRefused r q a (why x)) → IsEntered r q a
  entered r q a docs doors why (Ok o) opened refused = record { entry = Open a.caller a.asked.content o.generation opened.slot opened.shown; has = opened.entry; named = refl; placed = refl }
  entered r q a docs doors why (Err x) opened refused = refused_entered r q a (why x) refused

  -- once the caller has met it nothing is announced any more, and it is one call more
  pub entered_counts : (s m t : Pass D U W X L) (x : Asked U) (a : Announced D U W X L shows) (r q v : Registrar D U W X L) (note : Sighting D U W X L shows)
      → IsReady r s → HasAnnounced s m x → IsAnnouncedBy m x a → IsEntered r q a → IsUnchanged q v → IsSightingOf v note → HasMet m t note → IsReady v t × HasOneCallMore r v
  entered_counts s m t x a r q v note ready said by up same told met =
      let g = grown m t a r q note up.entry up.named by.caller by.seen up.has (told.seen ∙ same.seen) met in (
        record {
          table = met.looked.more.pass.table ∙ said.more.pass.table ∙ ready.table ∙ sym (same.registrar.table ∙ up.has.registrar.table);
          none = g.1;
        },
        record {
          registrar = record { table = same.registrar.table ∙ up.has.registrar.table; plan = same.registrar.plan ∙ up.has.registrar.plan };
          places =
              let i = ap (count_by has_place) same.seen in
              let j = ap (count_by has_place) up.has.entry in
              let k = one_place_more up.has.before up.entry up.placed in
              let l = same_places up.has.before (seen_of r) up.has.seen in
              omega arith;
        },
      )
