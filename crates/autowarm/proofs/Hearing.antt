-- Requests in their turn, with one more.
use Rattle.std.proofs.Common.{◌≡◌, ℕ, ◌+◌, ◌<◌, Bool, cond, List, [], ◌∷◌, ◌++◌, length, take, get_or, refl, sym, ap, subst, ◌∙◌, arith}
use Rattle.std.specs.Prelude.{Result, Ok, Err, IfOk, OnErr, count_by, min}
use Rattle.std.specs.Result.{is_ok}
use Rattle.std.proofs.lemmas.List.{take_more}
use Rattle.field_schema.specs.declared.memory.NoMemory.{NoMemory}
use Rattle.request_form.specs.declared.request.Request.{Request}
use Rattle.searcher_core.specs.Serving.{HasRefused, HasServed}
use Rattle.searcher_core.specs.Shows.{Shows}
use Rattle.searcher_core.specs.declared.seats.Seats.{Seats}
use Rattle.searcher_core.specs.declared.served.Served.{Served}
use Rattle.autowarm.specs.Listening.{AreHeard, HeardInTurn, IsHeard}
use Rattle.autowarm.proofs.Counting.{count_last}

pub none_heard : (w : Shows) (old : Seats) → AreHeard w [] 0 old old
none_heard w old = record { heard = []; in_turn = refl; served_is = refl }

-- what an answer tells
pub heard_by : (w : Shows) (r : Request) (a : Result Served NoMemory) (old new : Seats)
    → IfOk a (λ s. HasServed w r s old new) → OnErr a (HasRefused w r old new) → IsHeard w r (is_ok a) old new
heard_by w r (Ok s) old new served refused = (s, served)
heard_by w r (Err e) old new served refused = refused

turn_more : (w : Shows) (rs : List Request) (bs : List Bool) (r : Request) (b : Bool) (old mid new : Seats)
    → HeardInTurn w rs bs old mid → IsHeard w r b mid new → HeardInTurn w (rs ++ r ∷ []) (bs ++ b ∷ []) old new
turn_more w [] [] r b old mid new so step = (new, subst (λ m. IsHeard w r b m new) so step, refl)
turn_more w [] (c ∷ bs) r b old mid new so step = absurd so
turn_more w (q ∷ rs) [] r b old mid new so step = absurd so
turn_more w (q ∷ rs) (c ∷ bs) r b old mid new so step = (so.0, so.1, turn_more w rs bs r b so.0 mid new so.2 step)

-- one more, up to the greatest number
capped : (n k x : ℕ) → k ≡ min n 4294967295 → min (k + x) 4294967295 ≡ min (n + x) 4294967295
capped n k x is = omega arith

-- the request at i was heard behind those before it
pub heard_more : (w : Shows) (rs : List Request) (i : ℕ) (r : Request) (b : Bool) (old mid new : Seats) (k k' x : ℕ)
    → i < length rs → r ≡ get_or rs i r → AreHeard w (take i rs) k old mid → IsHeard w r b mid new
    → k' ≡ min (k + x) 4294967295 → x ≡ cond b 1 0 → AreHeard w (take (i + 1) rs) k' old new
heard_more w rs i r b old mid new k k' x within item so step served one =
    let more : take (i + 1) rs ≡ take i rs ++ r ∷ [] = take_more rs i r within ∙ ap (λ x. take i rs ++ x ∷ []) (sym item) in
    record {
      heard = so.heard ++ b ∷ [];
      in_turn = subst (λ l. HeardInTurn w l (so.heard ++ b ∷ []) old new) (sym more) (turn_more w (take i rs) so.heard r b old mid new so.in_turn step);
      served_is =
          served ∙ capped (count_by (λ y. y) so.heard) k x so.served_is
          ∙ ap (λ n. min n 4294967295) (ap (λ n. count_by (λ y. y) so.heard + n) one ∙ sym (count_last (λ y. y) so.heard b));
    }
