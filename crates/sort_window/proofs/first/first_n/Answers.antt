use Rattle.std.proofs.Common.{◌≡◌, Some, min, length, sym, ap, ◌∙◌, rules}
use Rattle.doc_sets.specs.Sets.{members, IsListing}
use Rattle.doc_sets.proofs.Members.{listing_of}
use Rattle.sort_window.specs.First.{first_numbers}
use Rattle.sort_window.proofs.Among.{by_index, by_index_down, by_values}
use Rattle.sort_window.proofs.first.first_n.Goals.{in-Some-true+in_ok-numbers-in-Some-true, in-Some-false+in_ok-numbers-in-Some-false, in-None+in_ok-numbers-in-None}
use Rattle.sort_window.proofs.first.first_n.Goals as goal

pub returns-clause-first : goal.returns-clause-first
returns-clause-first g c =
    let v = g.P.Reads.view c.args.probe.now in
    let set = c.args.set.now in
    let keys = c.get-keys.result.now in
    let n = c.args.n in
    let listing : IsListing set (members set) = listing_of set c.len.ensures.documents in
    let most : c.min-most.result ≡ min n (length (members set)) = search rules in
    let at = ap (λ ks. first_numbers n ks set v) c.get-keys.ensures in
    elim c.match-index_first.branch [
      | in-Some-true+in_ok-numbers-in-Some-true w ↦
          c.new.ensures ∙ ap (λ ns. ns.items) w.numbers-is ∙ w.in_ok-numbers-in-Some-true.ensures
          ∙ by_index_down set v c.live-live.ensures.numbered c.requires.live listing n c.min-most.result keys most (sym c.index_first.ensures ∙ w.in-Some-true.is ∙ ap Some w.in-Some-true.field-0-test) ∙ at
      | in-Some-false+in_ok-numbers-in-Some-false w ↦
          c.new.ensures ∙ ap (λ ns. ns.items) w.numbers-is ∙ w.in_ok-numbers-in-Some-false.ensures
          ∙ by_index set v c.live-live.ensures.numbered c.requires.live listing n c.min-most.result keys most (sym c.index_first.ensures ∙ w.in-Some-false.is ∙ ap Some w.in-Some-false.field-0-test) ∙ at
      | in-None+in_ok-numbers-in-None w ↦
          c.new.ensures ∙ ap (λ ns. ns.items) w.numbers-is ∙ w.in_ok-numbers-in-None.ensures.first
          ∙ by_values set v c.live-live.ensures.numbered c.requires.live listing n c.min-most.result keys most ∙ at
    ]
