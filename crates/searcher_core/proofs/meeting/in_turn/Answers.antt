use Rattle.std.proofs.Common.{◌≡◌, ◌++◌, ◌∷◌, [], ◌+◌, List, map, take, sym, ap, subst, ◌∙◌, Bor}
use Rattle.std.specs.Arc.{arc_value}
use Rattle.std.proofs.lemmas.List.{map-append, take_more}
use Rattle.query_tree.specs.declared.query.Query.{Query}
use Rattle.request_form.specs.declared.request.Filter.{Filter}
use Rattle.searcher_core.specs.Meeting.{HasMet}
use Rattle.searcher_core.specs.Searches.{queries_of}
use Rattle.searcher_core.proofs.Lefts.{met_more}
use Rattle.searcher_core.proofs.meeting.in_turn.Goals as goal

pub loop-turn-preserved : goal.loop-turn-preserved
loop-turn-preserved g c =
    let v = g.P.Reads.view c.args.probe.now in
    let now : Bor Filter → Filter = λ f. f.now in
    let i = c.loop-turn.turn-index in
    let fs : List (Bor Filter) = take i c.args.turns.now in
    let f : Bor Filter = c.turn-item.result in
    let more : queries_of (map now (take (i + 1) c.args.turns.now)) ≡ queries_of (map now fs) ++ f.now.query ∷ [] =
    ap (λ xs. queries_of (map now xs)) (take_more c.args.turns.now i f c.loop-turn-test.true ∙ ap (λ x. fs ++ x ∷ []) (sym c.turn-item.is))
    ∙ ap queries_of (map-append now fs (f ∷ [])) ∙ map-append (λ (x : Filter). x.query) (map now fs) (f.now ∷ []) in
    let kept = c.loop-turn.invariant.kept in
    let before = (g.P.Reads.counted c.args.probe.now).postings in
    let between = (g.P.Reads.counted c.loop-turn.probe).postings in
    let after = (g.P.Reads.counted c.of_these.new.probe).postings in
    let met : HasMet v (f.now.query ∷ []) (arc_value c.loop-turn.left) (arc_value c.in_ok-left.left) between after =
    subst (λ w. HasMet w (f.now.query ∷ []) (arc_value c.loop-turn.left) (arc_value c.in_ok-left.left) between after) kept.view c.in_ok-left.ensures.met in
    let now_kept = c.in_ok-left.ensures.kept in
    record {
      met =
          subst (λ (qs : List Query). HasMet v qs (arc_value c.args.set) (arc_value c.in_ok-left.left) before after) (sym more)
          (met_more v (queries_of (map now fs)) f.now.query (arc_value c.args.set) (arc_value c.loop-turn.left) (arc_value c.in_ok-left.left) before between after c.loop-turn.invariant.met met);
      kept = record {
        view = now_kept.view ∙ kept.view;
        terms = now_kept.terms ∙ kept.terms;
        values = now_kept.values ∙ kept.values;
        stored = now_kept.stored ∙ kept.stored;
      };
    }
