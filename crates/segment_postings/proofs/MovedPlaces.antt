-- The occurrences of documents that get new numbers.
use Rattle.std.proofs.Common.{◌≡◌, ℕ, suc, ◌+◌, ◌-◌, ◌<◌, ◌≤◌, Bool, true, false, cond, List, [], ◌∷◌, ◌++◌, length, get_or, take, map, filter, refl, sym, ap, subst, ◌∙◌, append_assoc, arith, Option, Some, None, length-append}
use Rattle.std.specs.List.{enumerate_from, flat_map, cons_option}
use Rattle.std.specs.Option.{option_map}
use Rattle.std.specs.FinSet.{contains}
use Rattle.std.proofs.lemmas.List.{take_more, get_or_default, length-map}
use Rattle.std.proofs.lemmas.List.Elements.{filter-append, filter_map-append}
use Rattle.std.proofs.lemmas.List.Concat.{flat_map-append}
use Rattle.field_schema.specs.declared.key.Key.{Key}
use Rattle.field_schema.specs.Keys.{key_eq}
use Rattle.field_schema.specs.Values.{values_at}
use Rattle.doc_model.specs.Document.{Document}
use Rattle.doc_sets.specs.Sets.{Numbers}
use Rattle.query_tree.specs.KeysOfDocs.{keys_of_value}
use Rattle.segment_postings.specs.declared.occurrence.Occurrence.{Occurrence}
use Rattle.segment_postings.specs.declared.occurrence.Place.{Place}
use Rattle.segment_postings.specs.Segments.{occurrence, of_value, of_doc, occurrences, with_key, field_at, IsIndex, AreIndexes}
use Rattle.segment_postings.specs.Layout.{at_places}
use Rattle.segment_postings.specs.Views.{live_from}
use Rattle.segment_postings.specs.Renumbering.{new_number, moved_to, told_moved, moved_place, moved_places, moved, moves_from, IsJoined, AreJoined}
use Rattle.segment_postings.proofs.ViewLaws.{enumerate-append}
use Rattle.segment_postings.proofs.Packed.{live_from-append, few_from}

-- ---- keys and places

pub moved-append : (m : List (Option ℕ)) (xs ys : List Occurrence) → moved m (xs ++ ys) ≡ moved m xs ++ moved m ys
moved-append m xs ys = filter_map-append (λ o. option_map (λ p. record { key = o.key; place = p }) (moved_place m o.place)) xs ys

one_moved : (k : Key) (o : Occurrence) (number : Option ℕ) (os : List Occurrence) →
    with_key k (cons_option (option_map (λ p. record { key = o.key; place = p }) (moved_to o.place number)) os) ≡ cond (key_eq k o.key) (cons_option (option_map (λ p. record { key = o.key; place = p }) (moved_to o.place number)) (with_key k os)) (with_key k os)
one_moved k o None os = elim (key_eq k o.key) as (λ b. with_key k os ≡ cond b (with_key k os) (with_key k os)) [ true ↦ refl | false ↦ refl ]
one_moved k o (Some n) os = refl

-- those of a key are moved as they are
pub key_moved : (k : Key) (m : List (Option ℕ)) (os : List Occurrence) → with_key k (moved m os) ≡ moved m (with_key k os)
key_moved k m [] = refl
key_moved k m (o ∷ os) =
    let one : Option Occurrence = option_map (λ (p : Place). record { key = o.key; place = p }) (moved_place m o.place) in
    one_moved k o (new_number m o.place.doc) (moved m os)
    ∙ ap (λ xs. cond (key_eq k o.key) (cons_option one xs) xs) (key_moved k m os)
    ∙ (elim (key_eq k o.key) as (λ b. cond b (cons_option one (moved m (with_key k os))) (moved m (with_key k os)) ≡ moved m (cond b (o ∷ with_key k os) (with_key k os))) [ true ↦ refl | false ↦ refl ])

one_at : (k : Key) (p : Place) (number : Option ℕ) (ps : List Place) → at_places k (cons_option (moved_to p number) ps) ≡ cons_option (option_map (λ q. record { key = k; place = q }) (moved_to p number)) (at_places k ps)
one_at k p None ps = refl
one_at k p (Some n) ps = refl

pub places_moved : (k : Key) (m : List (Option ℕ)) (ps : List Place) → at_places k (moved_places m ps) ≡ moved m (at_places k ps)
places_moved k m [] = refl
places_moved k m (p ∷ ps) =
    one_at k p (new_number m p.doc) (moved_places m ps)
    ∙ ap (cons_option (option_map (λ q. record { key = k; place = q }) (moved_place m p))) (places_moved k m ps)

-- a step of the loop that adds places
pub moved_more : (m : List (Option ℕ)) (new found init ps : List Place) (i : ℕ) (p : Place) → i < length ps → p ≡ get_or ps i p → new ≡ found ++ told_moved p (new_number m p.doc) → found ≡ init ++ moved_places m (take i ps) → new ≡ init ++ moved_places m (take (i + 1) ps)
moved_more m new found init ps i p h at e so_far =
    e ∙ ap (λ xs. xs ++ told_moved p (new_number m p.doc)) so_far
    ∙ append_assoc init (moved_places m (take i ps)) (told_moved p (new_number m p.doc))
    ∙ ap (λ xs. init ++ xs) (sym (filter_map-append (moved_place m) (take i ps) (p ∷ [])) ∙ ap (moved_places m) (ap (λ q. take i ps ++ q ∷ []) at ∙ sym (take_more ps i p h)))

pub moved_place_more : (m : List (Option ℕ)) (new found init ps : List Place) (i : ℕ) (d : Place) (number : Option ℕ) → i < length ps → number ≡ new_number m ((get_or ps i d).doc) → new ≡ found ++ told_moved (get_or ps i d) number → found ≡ init ++ moved_places m (take i ps) → new ≡ init ++ moved_places m (take (i + 1) ps)
moved_place_more m new found init ps i d number h is e so_far =
    moved_more m new found init ps i (get_or ps i d) h (get_or_default ps i d (get_or ps i d) h) (e ∙ ap (λ o. found ++ told_moved (get_or ps i d) o) is) so_far

-- ---- documents

keys_stay : (m : List (Option ℕ)) (n q i : ℕ) (es : List (ℕ × Key)) → new_number m n ≡ Some q → moved m (map (occurrence n i) es) ≡ map (occurrence q i) es
keys_stay m n q i [] e = refl
keys_stay m n q i (x ∷ es) e =
    ap (λ number. cons_option (option_map (λ p. record { key = x.1; place = p }) (moved_to (record { doc = n; value = i; token = x.0 }) number)) (moved m (map (occurrence n i) es))) e
    ∙ ap (λ os. occurrence q i x ∷ os) (keys_stay m n q i es e)

keys_go : (m : List (Option ℕ)) (n i : ℕ) (es : List (ℕ × Key)) → new_number m n ≡ None → moved m (map (occurrence n i) es) ≡ []
keys_go m n i [] e = refl
keys_go m n i (x ∷ es) e =
    ap (λ number. cons_option (option_map (λ p. record { key = x.1; place = p }) (moved_to (record { doc = n; value = i; token = x.0 }) number)) (moved m (map (occurrence n i) es))) e
    ∙ keys_go m n i es e

values_stay : (m : List (Option ℕ)) (n q : ℕ) (vs : List (ℕ × Key)) → new_number m n ≡ Some q → moved m (flat_map (of_value n) vs) ≡ flat_map (of_value q) vs
values_stay m n q [] e = refl
values_stay m n q (v ∷ vs) e = moved-append m (of_value n v) (flat_map (of_value n) vs) ∙ (λ j. keys_stay m n q v.0 (enumerate_from 0 (keys_of_value v.1)) e j ++ values_stay m n q vs e j)

values_go : (m : List (Option ℕ)) (n : ℕ) (vs : List (ℕ × Key)) → new_number m n ≡ None → moved m (flat_map (of_value n) vs) ≡ []
values_go m n [] e = refl
values_go m n (v ∷ vs) e = moved-append m (of_value n v) (flat_map (of_value n) vs) ∙ (λ j. keys_go m n v.0 (enumerate_from 0 (keys_of_value v.1)) e j ++ values_go m n vs e j)

-- a step of the loop that numbers documents
pub moves_more : (live : Numbers) (base first i count next more : ℕ) (new found whole : List (Option ℕ)) (stays : Bool) (o : Option ℕ) → i < count → stays ≡ contains live (base + i) → o ≡ cond stays (Some next) None → more ≡ cond stays (next + 1) next → new ≡ found ++ o ∷ [] →
    found ++ moves_from live (base + i) next (count - i) ≡ whole → new ++ moves_from live (base + (i + 1)) more (count - (i + 1)) ≡ whole
moves_more live base first i count next more new found whole stays o h is number behind e so_far =
    let left : count - i ≡ suc (count - (i + 1)) = omega arith in
    let at : base + (i + 1) ≡ base + i + 1 = omega arith in
    (λ j. (e ∙ ap (λ x. found ++ x ∷ []) (number ∙ ap (λ b. cond b (Some next) None) is)) j ++ moves_from live (at j) ((behind ∙ ap (λ b. cond b (next + 1) next) is) j) (count - (i + 1)))
    ∙ append_assoc found (cond (contains live (base + i)) (Some next) None ∷ []) _
    ∙ ap (λ n. found ++ moves_from live (base + i) next n) (sym left)
    ∙ so_far

pub at_most_one : (b : Bool) (n : ℕ) → cond b (n + 1) n ≤ n + 1
at_most_one true n = omega arith
at_most_one false n = omega arith

-- the numbers of the documents, from n on, are the moves from the first of the list on
abbrev Renumbers : List (Option ℕ) → ℕ → List (Option ℕ) → Type 0
Renumbers m n list = (i : ℕ) → i < length list → new_number m (n + i) ≡ get_or list i None

later : (m : List (Option ℕ)) (n : ℕ) (o : Option ℕ) (list : List (Option ℕ)) → Renumbers m n (o ∷ list) → Renumbers m (n + 1) list
later m n o list h i l = let at : n + 1 + i ≡ n + suc i = omega arith in ap (new_number m) at ∙ h (suc i) (omega arith)

now : (m : List (Option ℕ)) (n : ℕ) (o : Option ℕ) (list : List (Option ℕ)) → Renumbers m n (o ∷ list) → new_number m n ≡ o
now m n o list h = let at : n ≡ n + 0 = omega arith in ap (new_number m) at ∙ h 0 (omega arith)

-- what stands in documents that are renumbered is what stands in the live ones
pub renumbers : (m : List (Option ℕ)) (live : Numbers) (field base first n : ℕ) (ds : List Document) → Renumbers m n (moves_from live base first (length ds)) →
    moved m (flat_map (of_doc field) (enumerate_from n ds)) ≡ flat_map (of_doc field) (enumerate_from first (live_from live base ds))
renumbers m live field base first n [] h = refl
renumbers m live field base first n (d ∷ ds) h =
    let vs = enumerate_from 0 (values_at d.values field) in
    let rest = flat_map (of_doc field) (enumerate_from (n + 1) ds) in
    let behind = filter (λ e. contains live e.0) (enumerate_from (base + 1) ds) in
    moved-append m (of_doc field (n, d)) rest
    ∙ (elim (contains live base) as (λ b.
    Renumbers m n (cond b (Some first) None ∷ moves_from live (base + 1) (cond b (first + 1) first) (length ds)) →
    moved m (flat_map (of_value n) vs) ++ moved m rest ≡ flat_map (of_doc field) (enumerate_from first (map (λ e. e.1) (cond b ((base, d) ∷ behind) behind)))) [
      | true ↦ λ g.
          let list = moves_from live (base + 1) (first + 1) (length ds) in
          (λ j. values_stay m n first vs (now m n (Some first) list g) j ++ renumbers m live field (base + 1) (first + 1) (n + 1) ds (later m n (Some first) list g) j)
      | false ↦ λ g.
          let list = moves_from live (base + 1) first (length ds) in
          (λ j. values_go m n vs (now m n None list g) j ++ renumbers m live field (base + 1) first (n + 1) ds (later m n None list g) j)
    ] h)

renumbered : (m : List (Option ℕ)) (live : Numbers) (field base first : ℕ) (ds : List Document) → m ≡ moves_from live base first (length ds) →
    moved m (occurrences field ds) ≡ flat_map (of_doc field) (enumerate_from first (live_from live base ds))
renumbered m live field base first ds e =
    renumbers m live field base first 0 ds (λ i l. let at : 0 + i ≡ i = omega arith in ap (new_number m) at ∙ ap (λ list. get_or list i None) e)

-- the keys of two rows of documents as those of the live ones
pub joins_index : (live : Numbers) (field base behind : ℕ) (xs ys : List Document) (ma mb : List (Option ℕ)) (oa ob os : List Occurrence) → behind ≡ base + length xs →
    ma ≡ moves_from live base 0 (length xs) → mb ≡ moves_from live behind (length (live_from live base xs)) (length ys) → IsIndex xs field oa → IsIndex ys field ob → IsJoined oa ma ob mb os → IsIndex (live_from live base (xs ++ ys)) field os
joins_index live field base behind xs ys ma mb oa ob os at ea eb ia ib joined = record {
  same = λ k.
      let kept = live_from live base xs in
      let more = live_from live behind ys in
      let zero_plus : 0 + length kept ≡ length kept = omega arith in
      joined.same k
      ∙ (λ j. moved ma (ia.same k j) ++ moved mb (ib.same k j))
      ∙ (λ j. sym (key_moved k ma (occurrences field xs)) j ++ sym (key_moved k mb (occurrences field ys)) j)
      ∙ sym (filter-append (λ o. key_eq k o.key) (moved ma (occurrences field xs)) (moved mb (occurrences field ys)))
      ∙ ap (with_key k) (
      (λ j. renumbered ma live field base 0 xs ea j ++ renumbered mb live field behind (length kept) ys eb j)
      ∙ ap (λ n. flat_map (of_doc field) (enumerate_from 0 kept) ++ flat_map (of_doc field) (enumerate_from n more)) (sym zero_plus)
      ∙ sym (flat_map-append (of_doc field) (enumerate_from 0 kept) (enumerate_from (0 + length kept) more))
      ∙ ap (flat_map (of_doc field)) (sym (enumerate-append 0 kept more))
      ∙ ap (occurrences field) (ap (λ n. kept ++ live_from live n ys) at ∙ sym (live_from-append live base xs ys)));
}

-- ---- two segments as one

-- the live ones of two rows of documents, with the keys of each field
pub record JoinedDocs (live : Numbers) (start : ℕ) (xs ys all : List Document) (fields : List (List Occurrence)) : Type 0 where
  pub docs : all ≡ live_from live start (xs ++ ys)
  pub few : length all ≤ length xs + length ys
  pub indexes : AreIndexes all fields

pub begun_few : {A : Type 0} (f : A → Document) (live : Numbers) (start : ℕ) (one none begun : List A) → none ≡ [] → map f begun ≡ map f none ++ live_from live start (map f one) → length begun ≤ length one
begun_few f live start one none begun empty e =
    let len = ap length (e ∙ ap (λ xs. map f xs ++ live_from live start (map f one)) empty) in
    omega (arith, len, length-map begun f, length-map one f, few_from live start (map f one))

pub joined_docs : {A : Type 0} (f : A → Document) (live : Numbers) (start : ℕ) (one other none begun all : List A) (ma mb : List (Option ℕ)) (fa fb fs : List (List Occurrence)) →
    none ≡ [] → map f begun ≡ map f none ++ live_from live start (map f one) → map f all ≡ map f begun ++ live_from live (start + length one) (map f other) →
    ma ≡ moves_from live start 0 (length one) → mb ≡ moves_from live (start + length one) (length begun) (length other) → AreIndexes (map f one) fa → AreIndexes (map f other) fb → AreJoined fa ma fb mb fs → JoinedDocs live start (map f one) (map f other) (map f all) fs
joined_docs f live start one other none begun all ma mb fa fb fs empty first second ea eb ia ib joined =
    let xs : List Document = map f one in
    let ys : List Document = map f other in
    let kept : map f begun ≡ live_from live start xs = first ∙ ap (λ zs. map f zs ++ live_from live start xs) empty in
    let len : length one ≡ length xs = sym (length-map one f) in
    let more : length other ≡ length ys = sym (length-map other f) in
    let so_far : length begun ≡ length (live_from live start xs) = sym (length-map begun f) ∙ ap length kept in
    let whole : map f all ≡ live_from live start (xs ++ ys) = second ∙ (λ j. kept j ++ live_from live (start + len j) ys) ∙ sym (live_from-append live start xs ys) in
    record {
      docs = whole;
      few = omega (arith, ap length whole, few_from live start (xs ++ ys), length-append xs ys);
      indexes = λ field. subst (λ ds. IsIndex ds field (field_at fs field)) (sym whole)
          (joins_index live field start (start + length one) xs ys ma mb (field_at fa field) (field_at fb field) (field_at fs field) (ap (λ n. start + n) len)
          (ea ∙ ap (moves_from live start 0) len) (eb ∙ (λ j. moves_from live (start + length one) (so_far j) (more j))) (ia field) (ib field) (joined field));
    }
