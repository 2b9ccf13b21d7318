-- The first searcher alone, and rows in any order.
use Rattle.std.proofs.Common.{◌≡◌, ◌≢◌, ℕ, ◌+◌, List, [], ◌∷◌, Bool, true, false, cond, count_by, Some, refl, sym, ap, ◌∙◌, arith}
use Rattle.std.proofs.lemmas.Option.{none-some}
use Rattle.std.proofs.lemmas.List.Elements.{All-from_recursion, recursion_from_All}
use Rattle.std.proofs.lemmas.List.Sorted.{All-permutation, sum_by-IsPermutation}
use Rattle.std.specs.List.{AllByRecursion}
use Rattle.std.specs.List.Sorted.{IsPermutation}
use Rattle.script_form.specs.declared.config.Config.{Config}
use Rattle.registry_machine.specs.declared.entry.Entry.{Entry}
use Rattle.registry_machine.specs.declared.entry.Entry.TheVariants.{Open, Finish, Acquire}
use Rattle.registry_machine.specs.Entries.{opens, registers}
use Rattle.registry_machine.specs.Places.{Stands}
use Rattle.registry_machine.specs.Machine.{Limits}
use Rattle.registry_machine.specs.Legal.{Legal, state_of}
use Rattle.registry_machine.proofs.Lists.{false_true}
use Rattle.run_laws.specs.Lawful.{is_acquired_first, first_told, first_from}
use Rattle.run_history.specs.Tellings.{Reading, Telling, Life, tells_at, warmed_at}
use Rattle.run_history.specs.Agreement.{IsTelling, StandsBefore, HasReply, Agrees}
use Rattle.run_history.specs.Serial.{Serves, start_entries, first_life, stand_at_start, CanStart}
use Rattle.run_history.proofs.Elements.{all_in, all_from}
use Rattle.run_history.proofs.Indexed.{each_from_0, IsPlacedOnce, acquired_by, views_by}
use Rattle.run_history.proofs.Quiet.{Quiet, start_legal, start_quiet, query_legal, query_quiet}
use Rattle.run_history.proofs.Requests.{settle}

module _ {U D : Type 0} (L : Type 0) (r : Reading U D) (l : Limits) (c : Config) (caller : ℕ) (u : U) (slot : ℕ) (d : D) (can : CanStart r l slot d) where
  abbrev begin : Bool → List (Entry U D L)
  begin listened = start_entries caller u slot d listened

  -- the opening and the registration
  legal : Legal {U = U} {D = D} {L = L} l (begin false)
  legal = start_legal U D L l caller u slot d can.first can.last can.room can.slot_below

  quiet : Quiet (state_of {U = U} {D = D} {L = L} l (begin false)) 1 0 slot
  quiet = start_quiet U D L l caller u slot d

  -- and the acquire by the listeners, with its release
  legal_heard : Legal {U = U} {D = D} {L = L} l (begin true)
  legal_heard = (legal.0, (legal.1.0, query_legal U D L l (state_of l (begin false)) (stand_at_start slot false) caller quiet))

  quiet_heard : Quiet (state_of {U = U} {D = D} {L = L} l (begin true)) 1 1 slot
  quiet_heard = query_quiet U D L (state_of l (begin false)) (stand_at_start slot false) caller quiet

  shows : (b : ℕ) (v : U) (g x : ℕ) (y : D) → ◌≡◌ {A = Entry U D L} (Open caller u 1 slot d) (Open b v g x y) → r.docs y ≡ []
  shows b v g x y e = ap r.docs (sym (same_docs b v g x y e)) ∙ can.none
    where
      same_docs : (b : ℕ) (v : U) (g x : ℕ) (y : D) → ◌≡◌ {A = Entry U D L} (Open caller u 1 slot d) (Open b v g x y) → d ≡ y
      same_docs b v g x y e = cc

  opened : (listened : Bool) → Stands opens (begin listened) 0 1
  opened listened = record { entry = Open caller u 1 slot d; at = refl; told = refl }

  registered : (listened : Bool) → Stands registers (begin listened) 1 1
  registered listened = record { entry = Finish 1 []; at = refl; told = refl }

  -- nobody acquires it before the clients
  alone : first_told false ≡ first_from c → Serves {L = L} r l c (begin false) [] (first_life false ∷ []) (stand_at_start slot false)
  alone told = record {
    settled = settle r l (begin false) (stand_at_start slot false) legal quiet refl (0, caller, u, slot, d, refl, can.none) refl;
    agrees = record {
      rows = tt;
      once = record {
        begins = record { opened = opened false; registered = registered false };
        first = tt;
        placed = each_from_0 (IsPlacedOnce []) (begin false) ((λ p n z. absurd (omega (arith, z))), ((λ p n z. absurd (false_true n)), tt));
        froms = (refl, tt);
        acquired = acquired_by [] (first_life false ∷ []) (begin false) ((λ pin a. absurd (none-some pin a)), ((λ pin a. absurd (none-some pin a)), tt));
      };
      searchers = record {
        generations = refl;
        each = (
          record {
            opening = opened false;
            opened = refl;
            end = record { entry = Finish 1 []; at = refl; told = refl };
            ended = refl;
            registered = (λ e. refl, λ e. refl);
            acquired = refl;
          },
          tt,
        );
      };
      order = tt;
      warmings = (told, tt);
      views = views_by r (begin false) (shows, ((λ b v g x y e. absurd (grind arith)), tt));
      replies = tt;
      released = quiet.pins;
    };
  }

  -- its listeners acquire it first
  heard : first_told true ≡ first_from c → Serves {L = L} r l c (begin true) [] (first_life true ∷ []) (stand_at_start slot true)
  heard told = record {
    settled = settle r l (begin true) (stand_at_start slot true) legal_heard quiet_heard refl (0, caller, u, slot, d, refl, can.none) refl;
    agrees = record {
      rows = tt;
      once = record {
        begins = record { opened = opened true; registered = registered true };
        first = tt;
        placed = each_from_0 (IsPlacedOnce []) (begin true) (
          (λ p n z. absurd (omega (arith, z))),
          ((λ p n z. absurd (false_true n)), ((λ p n z. absurd (false_true p)), ((λ p n z. absurd (false_true p)), tt))),
        );
        froms = (((1, 0), refl, record { entry = Acquire caller 1 0; at = refl; told = refl }), tt);
        acquired = acquired_by [] (first_life true ∷ []) (begin true) (
          (λ pin a. absurd (none-some pin a)),
          ((λ pin a. absurd (none-some pin a)), ((λ pin a. refl), ((λ pin a. absurd (none-some pin a)), tt))),
        );
      };
      searchers = record {
        generations = refl;
        each = (
          record {
            opening = opened true;
            opened = refl;
            end = record { entry = Finish 1 []; at = refl; told = refl };
            ended = refl;
            registered = (λ e. refl, λ e. refl);
            acquired = refl;
          },
          tt,
        );
      };
      order = tt;
      warmings = (told, tt);
      views = views_by r (begin true) (shows, ((λ b v g x y e. absurd (grind arith)), ((λ b v g x y e. absurd (grind arith)), ((λ b v g x y e. absurd (grind arith)), tt))));
      replies = tt;
      released = quiet_heard.pins;
    };
  }

  either : (listened : Bool) → first_told listened ≡ first_from c → Serves {L = L} r l c (begin listened) [] (first_life listened ∷ []) (stand_at_start slot listened)
  either false told = alone told
  either true told = heard told

  pub starts : Serves {L = L} r l c (begin (is_acquired_first c)) [] (first_life (is_acquired_first c) ∷ []) (stand_at_start slot (is_acquired_first c))
  starts = either (is_acquired_first c) refl

-- ---- any order

all_permuted : {A : Type 0} (P : A → Type 0) (xs ys : List A) → IsPermutation xs ys → AllByRecursion P xs → AllByRecursion P ys
all_permuted P xs ys moved h = recursion_from_All P ys (All-permutation P xs ys moved (All-from_recursion P xs h))

module _ {U D L : Type 0} (r : Reading U D) (l : Limits) (c : Config) (h : List (Entry U D L)) (lives : List Life) (ts us : List Telling) (moved : IsPermutation ts us) (old : Agrees r l c h ts lives) where
  same_count : (n : ℕ) → count_by (tells_at n) us ≡ count_by (tells_at n) ts
  same_count n = sum_by-IsPermutation (λ t. cond (tells_at n t) 1 0) ts us moved

  -- rows agree in any order
  pub permuted : Agrees r l c h us lives
  permuted = record {
    rows = all_permuted (IsTelling r c h) ts us moved old.rows;
    once = record {
      begins = old.once.begins;
      first = all_permuted (λ t. t.index ≢ Some 0) ts us moved old.once.first;
      placed = λ n e at placed named above. same_count n ∙ old.once.placed n e at placed named above;
      froms = old.once.froms;
      acquired = λ n g k a. ap (λ m. m + count_by (warmed_at n) lives) (same_count n) ∙ old.once.acquired n g k a;
    };
    searchers = old.searchers;
    order = all_permuted (λ e. AllByRecursion (StandsBefore lives e) us) ts us moved (all_from (λ e. AllByRecursion (StandsBefore lives e) us) ts (λ e i. all_permuted (StandsBefore lives e) ts us moved (all_in (λ x. AllByRecursion (StandsBefore lives x) ts) ts old.order e i)));
    warmings = old.warmings;
    views = old.views;
    replies = all_permuted (HasReply r c h) ts us moved old.replies;
    released = old.released;
  }
