use Rattle.std.proofs.Common.{◌∷◌, [], ◌++◌, ap, sym, ◌∙◌}
use Rattle.segment_postings.specs.declared.posting.Posting.{Posting}
use Rattle.segment_postings.proofs.PostingsGathered.{put_to_last, put_past_last}
use Rattle.segment_postings.proofs.gathering.open.Goals as goal

pub returns-then-last-doc : goal.returns-then-last-doc
returns-then-last-doc c = λ more. put_to_last c.args.found.now.items c.pop.new.self.items c.in-Some.last c.args.doc more c.in-Some.ensures.items c.if-last-doc.true

pub returns : goal.returns
returns c = λ more.
    put_past_last c.args.found.now.items c.pop.new.self.items c.push.new.self.items c.in-Some.last c.args.doc more c.in-Some.ensures.items c.in_ok-push.ensures.items c.if-last-doc.false
    ∙ ap (λ (p : Posting). c.push.new.self.items ++ record { doc = p.doc; places = p.places ++ more } ∷ []) (sym c.empty-2.ensures)
