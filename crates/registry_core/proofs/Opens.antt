-- What lies under the lock stays as its seats know it through an opening.
use Rattle.std.proofs.Common.{◌≡◌, ℕ, ◌+◌, ◌≤◌, List, [], ◌∷◌, ◌++◌, length, length-append, filter_map, Some, refl, sym, ap, subst, ◌∙◌, arith}
use Rattle.std.specs.Prelude.{vec_capacity, Result, IfOk}
use Rattle.std.proofs.Common.{Vec, Global}
use Rattle.std.specs.List.{AllByRecursion}
use Rattle.std.proofs.lemmas.Option.{none-some}
use Rattle.searcher_table.specs.declared.gens.Gens.{Gens}
use Rattle.searcher_table.specs.declared.registrar.Registrar.{Registrar}
use Rattle.searcher_table.specs.declared.shown.Shown as shown
use Rattle.searcher_table.specs.declared.tokens.Announced.{Announced}
use Rattle.searcher_table.specs.declared.tokens.Opening.{Opening}
use Rattle.searcher_table.specs.declared.tokens.OpenRefusal.{OpenRefusal}
use Rattle.searcher_table.specs.declared.tokens.OpenRefusal.TheVariants.{TooMany as AsTooMany, GenerationsSpent as AsSpent}
use Rattle.registry_machine.specs.Legal.{Legal}
use Rattle.searcher_table.specs.Words.{limits}
use Rattle.searcher_table.specs.Registrars.{table_of, plan_of, seen_of, places_of, HasEntry}
use Rattle.searcher_table.specs.Openings.{warming_of, AreDoors, HasOpened, IsRefused as IsRefusedThere}
use Rattle.registry_core.specs.declared.NoMemory.{NoMemory}
use Rattle.registry_core.specs.declared.change.Change.{Change}
use Rattle.registry_core.specs.declared.journal.Placed.{Placed}
use Rattle.registry_core.specs.declared.locked.Locked.{Locked}
use Rattle.registry_core.specs.declared.writer.Writer as writer
use Rattle.registry_core.specs.Journal.{updates_of, by_caller, entry_told, told, journal_of, ShowRight}
use Rattle.registry_core.specs.declared.journal.Happened.TheVariants.{Opened}
use Rattle.registry_core.specs.Keeping.{IsKept}
use Rattle.registry_core.specs.Making.{IsNewDoor, AreMade}
use Rattle.registry_core.specs.Opening.{AreNext, IsOpened, IsRefused, opening_entry, refusal_entry, refusal_place, refusal_told}
use Rattle.registry_machine.specs.Entries.{ends}
use Rattle.registry_core.specs.Finishes.{generations}
use Rattle.registry_core.proofs.Next.{next_of}
use Rattle.registry_core.proofs.Endings.{ends_stay}
use Rattle.registry_core.proofs.Kept.{enters, has_place}

all_by : {A : Type 0} (P Q : A → Type 0) → ((x : A) → P x → Q x) → (xs : List A) → AllByRecursion P xs → AllByRecursion Q xs
all_by P Q f [] all = tt
all_by P Q f (x ∷ xs) all = (f x all.0, all_by P Q f xs all.1)

module _ {D S X L : Type 0} (is : shown.Ghosts D S X L) (with : S) where
  -- doors that were made are those of the table
  pub are_doors : {U : Type 0} (Right : X → Type 0) (callers : ℕ) (r : Registrar D U S X L) (doors : List D) (own : D) → AreMade is with Right callers doors own → with ≡ (plan_of r).setting.value → callers ≡ (plan_of r).callers → AreDoors is.setting is.docs is.list r doors
  are_doors Right callers r doors own m setting many = record {
    count = m.count ∙ many;
    settings = all_by (IsNewDoor is with m.shown) (λ d. is.setting d ≡ (plan_of r).setting.value) (λ d n. n.setting ∙ setting) doors m.each;
    same = (m.shown, all_by (IsNewDoor is with m.shown) (λ d. is.docs d ≡ m.shown) (λ d n. n.docs) doors m.each);
    unused = all_by (IsNewDoor is with m.shown) (λ d. is.list d ≡ []) (λ d n. n.unused) doors m.each;
  }

  -- of which there is one at least, so they show what was made
  pub first_shows : (x y : X) (doors : List D) → 1 ≤ length doors → AllByRecursion (IsNewDoor is with x) doors → AllByRecursion (λ d. is.docs d ≡ y) doors → x ≡ y
  first_shows x y [] some new all = absurd (omega arith)
  first_shows x y (d ∷ ds) some new all = sym new.0.docs ∙ all.0

module _ {D U S X L : Type 0} {shows : shown.Ghosts D S X L} (r s : Registrar D (Change U) S X L) (a : Announced D (Change U) S X L shows) where
  -- a refusal has its entry
  pub refused_entry : (why : OpenRefusal) → IsRefusedThere r s a why → HasEntry r s a (refusal_entry a why)
  refused_entry (AsTooMany at gens) h = h.entry
  refused_entry (AsSpent at) h = h.entry

  refused_place : (why : OpenRefusal) → IsRefusedThere r s a why → refusal_place why ≡ places_of r
  refused_place (AsTooMany at gens) h = h.place
  refused_place (AsSpent at) h = h.place

  pub is_refused : (why : OpenRefusal) → IsRefusedThere r s a why → IsRefused a why (seen_of s)
  is_refused why h = (updates_of (seen_of r), has_place r s a (refusal_entry a why) (refusal_place why) (refused_entry why h) (refused_place why h))

module _ {D U W S X L : Type 0} {shows : shown.Ghosts D S X L} (w : writer.Ghosts W D U S X L) (r s : Registrar D (Change U) S X L) (a : Announced D (Change U) S X L shows) (doors : List D) (own : D) (made : AreNext shows w r doors own) (o : Opening D (Change U) S X L)
    (h : HasOpened shows.docs r s a doors o) where
  -- the entry carries what was made
  pub same_shown : made.shown ≡ h.shown
  same_shown = first_shows shows (plan_of r).setting.value made.shown h.shown doors (let n = made.count in let some = r.some in omega arith) made.each h.doors_show

  pub right_shown : (docs : X) → Some h.shown ≡ Some docs → w.shows (updates_of (seen_of r)) docs
  right_shown docs is = let same : h.shown ≡ docs = cc in subst (w.shows (updates_of (seen_of r))) (same_shown ∙ same) made.right

  pub is_opened : IsOpened (plan_of r).setting.value w.shows (table_of r) a o own (seen_of s)
  is_opened = record {
    slot = h.slot;
    shown = h.shown;
    us = updates_of (seen_of r);
    placed = has_place r s a (opening_entry a o.generation h.slot h.shown) o.at h.entry h.place;
    right = subst (w.shows (updates_of (seen_of r))) same_shown made.right;
    door = subst (λ x. IsNewDoor shows (plan_of r).setting.value x own) same_shown made.last;
    seen = h.seen;
    table_is = h.table ∙ h.entry.registrar.table;
  }

module _ {D U W S X L : Type 0} {shows : shown.Ghosts D S X L} (w : writer.Ghosts W D U S X L) (l m : Locked D U W S X L) (a : Announced D (Change U) S X L shows) (p : Placed U Gens) (k : IsKept w l) (items : m.journal.items ≡ l.journal.items ++ p ∷ [])
    (writer : m.writer ≡ l.writer) (callers : m.callers ≡ l.callers) (accepted : m.accepted ≡ l.accepted) (most : m.max_updates ≡ l.max_updates) (room : length l.journal.items + 1 + m.warming ≤ vec_capacity m.journal) (finishes : m.finishes.items ≡ l.finishes.items) (space : length m.finishes.items + m.warming ≤ vec_capacity m.finishes) where
  -- an opening was refused, and the journal tells it
  pub refuses : (why : OpenRefusal) → IsRefusedThere l.registrar m.registrar a why → entry_told p ≡ by_caller a.caller a.asked.content (refusal_told why) → m.warming ≡ l.warming → IsKept w m
  refuses (AsTooMany at gens) h tells warming =
      enters w l m (refusal_entry a (AsTooMany at gens)) p k (next_of l.registrar m.registrar a _ h.entry) items (ap (λ q. Some q) (sym tells)) refl (λ docs is. absurd (none-some docs is)) writer callers accepted most (warming ∙ k.spare.warming) room
      (ends_stay l m (refusal_entry a (AsTooMany at gens)) k.ended (next_of l.registrar m.registrar a _ h.entry) space refl finishes)
  refuses (AsSpent at) h tells warming =
      enters w l m (refusal_entry a (AsSpent at)) p k (next_of l.registrar m.registrar a _ h.entry) items (ap (λ q. Some q) (sym tells)) refl (λ docs is. absurd (none-some docs is)) writer callers accepted most (warming ∙ k.spare.warming) room
      (ends_stay l m (refusal_entry a (AsSpent at)) k.ended (next_of l.registrar m.registrar a _ h.entry) space refl finishes)

  -- a generation was opened, and the journal tells it
  pub opens : (doors : List D) (own : D) → AreNext shows w l.registrar doors own → (o : Opening D (Change U) S X L) → HasOpened shows.docs l.registrar m.registrar a doors o → entry_told p ≡ by_caller a.caller a.asked.content (Opened o.generation) → m.warming ≡ l.warming + 1 → IsKept w m
  opens doors own made o h tells warming =
      enters w l m (opening_entry a o.generation h.slot h.shown) p k (next_of l.registrar m.registrar a _ h.entry) items (ap (λ q. Some q) (sym tells)) refl (right_shown w l.registrar m.registrar a doors own made o h) writer callers accepted most
      (let n = k.spare.warming in let j = length-append (warming_of l.registrar) (o.generation ∷ []) in omega arith) room (ends_stay l m (opening_entry a o.generation h.slot h.shown) k.ended (next_of l.registrar m.registrar a _ h.entry) space refl finishes)

module _ {D U W S X L : Type 0} (w : writer.Ghosts W D U S X L) where
  -- the same is kept with more room, and by a writer that has taken the same
  pub roomier : (l m : Locked D U W S X L) → IsKept w l → m.registrar ≡ l.registrar → m.journal.items ≡ l.journal.items → vec_capacity l.journal ≤ vec_capacity m.journal → w.taken m.writer ≡ w.taken l.writer → w.setting m.writer ≡ w.setting l.writer → m.callers ≡ l.callers
      → m.warming ≡ l.warming → m.accepted ≡ l.accepted → m.max_updates ≡ l.max_updates → m.finishes.items ≡ l.finishes.items → vec_capacity l.finishes ≤ vec_capacity m.finishes → IsKept w m
  roomier l m k registrar items capacity taken setting callers warming accepted most finishes wide =
      let f = k.few in
      let n = ap length items in
      let r = k.spare.room in record {
        legal = subst (λ r. Legal (limits (plan_of r)) (seen_of r)) (sym registrar) k.legal;
        journal_is = ap told items ∙ k.journal_is ∙ ap (λ r. journal_of (seen_of r)) (sym registrar);
        written = taken ∙ k.written ∙ ap (λ r. updates_of (seen_of r)) (sym registrar);
        counted = accepted ∙ k.counted ∙ ap length (sym taken);
        few = omega arith;
        set = record { setting = setting ∙ k.set.setting ∙ ap (λ r. (plan_of r).setting.value) (sym registrar); callers = callers ∙ k.set.callers ∙ ap (λ r. (plan_of r).callers) (sym registrar) };
        spare = record { warming = warming ∙ k.spare.warming ∙ ap (λ r. length (warming_of r)) (sym registrar); room = omega arith };
        ended = record { are = ap generations finishes ∙ k.ended.are ∙ ap (λ r. filter_map ends (seen_of r)) (sym registrar); space = let i = ap length finishes in let q = k.ended.space in omega arith };
        shown = subst (λ r. ShowRight w.shows (seen_of r)) (sym registrar) k.shown;
      }

  -- doors that the writer made are those of the next opening
  pub made_next : (is : shown.Ghosts D S X L) (l : Locked D U W S X L) → IsKept w l → (r : Result (Vec D Global × D) NoMemory) → IfOk r (λ made. AreMade is (w.setting l.writer) (w.shows (w.taken l.writer)) l.callers made.0.items made.1) → IfOk r (λ made. AreNext is w l.registrar made.0.items made.1)
  made_next is l k r h =
      subst (λ n. IfOk r (λ made. AreMade is (plan_of l.registrar).setting.value (w.shows (updates_of (seen_of l.registrar))) n made.0.items made.1)) k.set.callers
      (subst (λ us. IfOk r (λ made. AreMade is (plan_of l.registrar).setting.value (w.shows us) l.callers made.0.items made.1)) k.written (subst (λ v. IfOk r (λ made. AreMade is v (w.shows (w.taken l.writer)) l.callers made.0.items made.1)) k.set.setting h))
