-- Notes of one filter more.
use Rattle.std.proofs.Common.{◌≡◌, ℕ, Bool, true, false, not, cond, List, [], ◌∷◌, ◌++◌, map, filter, refl, sym, ap, subst, ◌∙◌}
use Rattle.std.proofs.lemmas.List.{append_assoc, append-nil, map-append}
use Rattle.std.proofs.lemmas.List.Elements.{filter-append}
use Rattle.query_tree.specs.declared.query.Query.{Query}
use Rattle.request_form.specs.declared.request.Filter.{Filter}
use Rattle.search_model.specs.declared.notes.Note.{Note}
use Rattle.search_model.specs.Noting.{AreNotes, IsNote}
use Rattle.searcher_core.specs.Evaluated.{AskInTurn, computed, computed_by}
use Rattle.searcher_core.specs.Noting.{may_cache}
use Rattle.searcher_core.specs.Searches.{cached, uncached, queries_of}
use Rattle.searcher_core.proofs.Turns.{asked_both}

pub notes_more : (bs : List Bool) (ns : List Note) (b : Bool) (n : Note) → AreNotes bs ns → IsNote b n → AreNotes (bs ++ b ∷ []) (ns ++ n ∷ [])
notes_more [] [] b n are is = (is, tt)
notes_more [] (m ∷ ns) b n are is = absurd are
notes_more (x ∷ bs) [] b n are is = absurd are
notes_more (x ∷ bs) (m ∷ ns) b n are is = (are.0, notes_more bs ns b n are.1 is)

computed_more : (fs : List Filter) (ns : List Note) (f : Filter) (n : Note) → AreNotes (may_cache fs) ns → computed (fs ++ f ∷ []) (ns ++ n ∷ []) ≡ computed fs ns ++ computed_by n f.query
computed_more [] [] f n are = append-nil (computed_by n f.query)
computed_more [] (m ∷ ns) f n are = absurd are
computed_more (g ∷ fs) [] f n are = absurd are
computed_more (g ∷ fs) (m ∷ ns) f n are =
    ap (λ l. computed_by m g.query ++ l) (computed_more fs ns f n are.1) ∙ sym (append_assoc (computed_by m g.query) (computed fs ns) (computed_by n f.query))

pub asked_more : (fs : List Filter) (ns : List Note) (f : Filter) (n : Note) (before between after : ℕ) → AreNotes (may_cache fs) ns
    → AskInTurn (computed fs ns) before between → AskInTurn (computed_by n f.query) between after → AskInTurn (computed (fs ++ f ∷ []) (ns ++ n ∷ [])) before after
asked_more fs ns f n before between after are so now =
    subst (λ qs. AskInTurn qs before after) (sym (computed_more fs ns f n are)) (asked_both (computed fs ns) (computed_by n f.query) before between after so now)

pub may_more : (fs : List Filter) (f : Filter) → may_cache (fs ++ f ∷ []) ≡ may_cache fs ++ f.cached ∷ []
may_more fs f = map-append (λ (g : Filter). g.cached) fs (f ∷ [])

pub cached_more : (fs : List Filter) (f : Filter) → f.cached ≡ true → queries_of (cached (fs ++ f ∷ [])) ≡ queries_of (cached fs) ++ f.query ∷ []
cached_more fs f is =
    ap queries_of (filter-append (λ (g : Filter). g.cached) fs (f ∷ []) ∙ ap (λ b. cached fs ++ cond b (f ∷ []) []) is)
    ∙ map-append (λ (g : Filter). g.query) (cached fs) (f ∷ [])

pub cached_same : (fs : List Filter) (f : Filter) → f.cached ≡ false → cached (fs ++ f ∷ []) ≡ cached fs
cached_same fs f is =
    filter-append (λ (g : Filter). g.cached) fs (f ∷ []) ∙ ap (λ b. cached fs ++ cond b (f ∷ []) []) is ∙ append-nil (cached fs)

pub uncached_more : (fs : List Filter) (f : Filter) → f.cached ≡ false → uncached (fs ++ f ∷ []) ≡ uncached fs ++ f ∷ []
uncached_more fs f is = filter-append (λ (g : Filter). not g.cached) fs (f ∷ []) ∙ ap (λ b. uncached fs ++ cond (not b) (f ∷ []) []) is

pub uncached_same : (fs : List Filter) (f : Filter) → f.cached ≡ true → uncached (fs ++ f ∷ []) ≡ uncached fs
uncached_same fs f is =
    filter-append (λ (g : Filter). not g.cached) fs (f ∷ []) ∙ ap (λ b. uncached fs ++ cond (not b) (f ∷ []) []) is ∙ append-nil (uncached fs)
