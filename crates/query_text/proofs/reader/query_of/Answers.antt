use Rattle.std.proofs.Common.{◌≡◌, ◌+◌, ◌-◌, ℕ, List, length, Some, None, Ok, sym, ap, ◌∙◌}
use Rattle.query_lexemes.specs.Lexemes.{lexemes}
use Rattle.query_text.specs.declared.level.Level.{Level}
use Rattle.query_text.specs.Faults.{least, told, told_with}
use Rattle.query_text.specs.Reads.{Setting, after, read_from}
use Rattle.query_text.proofs.Turns.{turn_fault, turn_finish, turn_more, turn_none, stated}
use Rattle.query_text.proofs.reader.query_of.Goals as goal

pub returns-in-Some : goal.returns-in-Some
returns-in-Some c =
    let s : Setting = record { fields = c.args.schema.now.list; op = c.args.op } in
    let tells : least (told s.fields c.args.most c.loop-turn.level c.loop-turn.outer c.in-Ok.read.0) ≡ Some c.in-Some.fault =
    ap (λ (w : List (List ℕ)). least (told_with s.fields c.args.most c.loop-turn.level c.loop-turn.outer c.in-Ok.read.0 w)) (sym c.in_ok-words.ensures) ∙ sym c.in-Some.ensures in
    stated _ _
    (sym c.loop-turn.invariant
    ∙ turn_fault s c.args.most (length c.args.letters.now + 1) c.loop-turn.turn c.args.end c.loop-turn.level c.loop-turn.outer c.loop-turn.rest.now c.in-Ok.read.1.now c.in-Ok.read.0 c.in-Some.fault c.loop-turn-test.true c.in-Ok.ensures tells)

pub returns-then-is_finish : goal.returns-then-is_finish
returns-then-is_finish c =
    let s : Setting = record { fields = c.args.schema.now.list; op = c.args.op } in
    let tells : least (told s.fields c.args.most c.loop-turn.level c.loop-turn.outer c.in-Ok.read.0) ≡ None =
    ap (λ (w : List (List ℕ)). least (told_with s.fields c.args.most c.loop-turn.level c.loop-turn.outer c.in-Ok.read.0 w)) (sym c.in_ok-words.ensures) ∙ sym c.in_default.ensures in
    sym c.loop-turn.invariant
    ∙ turn_finish s c.args.most (length c.args.letters.now + 1) c.loop-turn.turn c.args.end c.loop-turn.level c.loop-turn.outer c.loop-turn.rest.now c.in-Ok.read.1.now c.in-Ok.read.0 c.loop-turn-test.true c.in-Ok.ensures
    tells (sym c.is_finish.ensures ∙ c.if-is_finish.true) ∙ ap Ok (sym c.in_ok-joined.ensures)

pub loop-turn-preserved : goal.loop-turn-preserved
loop-turn-preserved c =
    let s : Setting = record { fields = c.args.schema.now.list; op = c.args.op } in
    let tells : least (told s.fields c.args.most c.loop-turn.level c.loop-turn.outer c.in-Ok.read.0) ≡ None =
    ap (λ (w : List (List ℕ)). least (told_with s.fields c.args.most c.loop-turn.level c.loop-turn.outer c.in-Ok.read.0 w)) (sym c.in_ok-words.ensures) ∙ sym c.in_default.ensures in
    let behind : Level × List Level = after s c.loop-turn.level c.loop-turn.outer c.in-Ok.read.0.what in
    let here : Level × List Level = (c.in_ok-inner.inner, c.in_ok-inner.others) in
    let e : here ≡ behind = c.in_ok-inner.ensures in
    ap (λ (p : Level × List Level). read_from s c.args.most p.0 p.1 (lexemes (length c.args.letters.now + 1 - (c.loop-turn.turn + 1)) c.args.end c.in-Ok.read.1.now)) e
    ∙ sym (turn_more s c.args.most (length c.args.letters.now + 1) c.loop-turn.turn c.args.end c.loop-turn.level c.loop-turn.outer c.loop-turn.rest.now c.in-Ok.read.1.now c.in-Ok.read.0 c.loop-turn-test.true c.in-Ok.ensures
    tells (sym c.is_finish.ensures ∙ c.if-is_finish.false))
    ∙ c.loop-turn.invariant

pub returns : goal.returns
returns c =
    let s : Setting = record { fields = c.args.schema.now.list; op = c.args.op } in
    sym c.loop-turn.invariant
    ∙ turn_none s c.args.most (length c.args.letters.now + 1) c.loop-turn.turn c.args.end c.loop-turn.level c.loop-turn.outer c.loop-turn.rest.now c.loop-turn-test.false
    ∙ ap Ok (sym c.in_ok-joined-2.ensures)
